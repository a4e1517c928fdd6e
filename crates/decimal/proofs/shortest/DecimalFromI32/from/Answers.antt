-- A size has at most ten digits, and a minus sign stands before those of a negative number.
use native.Mathlib.Omega.{arith}
use Rattle.decimal.proofs.Texts.{digits-room}
use Rattle.decimal.proofs.shortest.DecimalFromI32.from.Goals as goal
use Rattle.decimal.proofs.shortest.DecimalFromI32.from.Goals.{then-number-lt0, else-number-lt0}

pub push_digits-requires : goal.push_digits-requires
push_digits-requires c =
    let size = c.unsigned_abs.result in
    let most = digits-room size (omega arith) in
    elim c.if-number-lt0.branch [
      | then-number-lt0 w ↦ rw (w.text-is, w.push.ensures, c.new-text.ensures) (omega arith)
      | else-number-lt0 w ↦ rw (w.text-is, c.new-text.ensures) (omega arith)
    ]
