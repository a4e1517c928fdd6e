-- Eleven zero bytes are the empty text filled up.
use native.Mathlib.Omega.{arith}
use mathlib.Core.Path.{refl}
use Rattle.decimal.specs.Answers.{filled}
use Rattle.decimal.proofs.shortest.Decimal.new.Goals as goal

pub invariant_of-result : goal.invariant_of-result
unfolding filled
invariant_of-result c = (omega arith, refl)
