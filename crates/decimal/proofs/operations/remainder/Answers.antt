-- By any divisor but 0 and -1 the remainder is that of the division.
use Rattle.decimal.proofs.Results.{remainder_number}
use Rattle.decimal.proofs.operations.remainder.Goals as goal

pub returns : goal.returns
returns c =
    let f = c.ranges in
    remainder_number f.dividend f.divisor c.divide.ensures
