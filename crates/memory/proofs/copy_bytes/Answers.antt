-- The part that is written is as long as the block, and each byte there is the one at its place.
use Rattle.std.proofs.Common.{◌≡◌, take, arith}
use Rattle.std.proofs.lemmas.List.{ext_get_or}
use Rattle.std.proofs.lemmas.Grind.{common_steps}
use Rattle.memory.proofs.copy_bytes.Goals as goal

pub returns-then-both_lie : goal.returns-then-both_lie
returns-then-both_lie c =
    let a = c.args in
    let e : c.copy_converted.new.target ≡ take a.count a.bytes.now =
    ext_get_or 0 _ _ (grind (arith, common_steps)) (λ k h. grind (arith, common_steps, c.copy_converted.ensures k 0 0)) in
    grind (arith, common_steps)
