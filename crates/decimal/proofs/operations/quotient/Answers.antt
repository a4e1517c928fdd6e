-- By any divisor but 0 and -1 the quotient of the division fits.
use borrow.Author.Rules.{rules}
use Rattle.decimal.proofs.Results.{quotient_number}
use Rattle.decimal.proofs.operations.quotient.Goals as goal

pub returns : goal.returns
returns c =
    let f = c.ranges in
    quotient_number f.dividend f.divisor c.divide.ensures (λ e. absurd (search rules))
