-- The text so far, and behind it what a read gave: together they are what was consumed.
use Rattle.std.proofs.Common.{◌≡◌, ℕ, ◌+◌, ◌≤◌, List, ◌++◌, rules, arith, length, take, sym, subst}
use Rattle.std.proofs.Math.Seq.{take-append-add}
use Rattle.std.proofs.lemmas.Grind.{common_steps}
use Rattle.std.proofs.lemmas.List.{take-append-le}
use Rattle.std.specs.Io.KnownBytes.{Consumes}
use Rattle.std.proofs.KnownBytes.{Consumes-trans}
use borrow.Rule.Slice.PartMut.{put_mid}
use Rattle.gpm.proofs.read_input.Goals as goal

take-put_mid_in : (a k n : ℕ) (xs ys : List ℕ) → a ≤ length xs → n ≤ length ys → take (a + n) (put_mid a k xs ys) ≡ take a xs ++ take n ys
take-put_mid_in a k n xs ys within fits = grind (arith, common_steps, take-append-add, take-append-le)

pub loop-len-preserved : goal.loop-len-preserved
loop-len-preserved g c = (search rules, search rules, subst (Consumes _ _) (sym (take-put_mid_in _ _ _ _ _ (search rules) (search rules))) (Consumes-trans _ _ _ _ _ c.loop-len.invariant.2 c.in-Ok.ensures.bytes.0))
