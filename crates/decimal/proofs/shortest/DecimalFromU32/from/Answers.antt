-- A count has at most ten digits.
use native.Mathlib.Omega.{arith}
use Rattle.decimal.proofs.Texts.{digits-room}
use Rattle.decimal.proofs.shortest.DecimalFromU32.from.Goals as goal

pub push_digits-requires : goal.push_digits-requires
push_digits-requires c = rw c.new-text.ensures (omega (arith, digits-room c.args.count c.ranges.count.fits))
