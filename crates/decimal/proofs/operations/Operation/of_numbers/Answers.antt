-- A product fits 64 bits.
use mathlib.Core.Path.{ap}
use Rattle.decimal.specs.Arithmetic.{ranged}
use Rattle.decimal.proofs.Machine.{product_is}
use Rattle.decimal.proofs.operations.Operation.of_numbers.Goals as goal

pub returns-in-Product : goal.returns-in-Product
returns-in-Product c =
    let f = c.ranges in
    let e = ap ranged (product_is f.first f.second c.from-a.ensures c.from-b.ensures) in
    rw c.in-Product.is (cc)
