-- The byte stands behind the text, and zero bytes behind it.
use Prim.Native.Nat.{◌<◌}
use lib.ListN.{length}
use Rattle.decimal.specs.Answers.{text_in}
use Rattle.decimal.proofs.Texts.{pushed_keeps}
use Rattle.decimal.proofs.shortest.Decimal.push.Goals as goal

pub invariant_of-self : goal.invariant_of-self
invariant_of-self c =
    let d = c.self.inside in
    let small : length (text_in d) < 11 = rw (c.self.view_is) c.requires in
    pushed_keeps d c.args.byte c.self.invariant.1 small
