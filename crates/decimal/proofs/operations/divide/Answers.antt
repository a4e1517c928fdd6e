-- One step, or none, makes a division of the machine's quotient and remainder.
use borrow.Author.Rules.{rules}
use Rattle.decimal.proofs.Cut.{down, up}
use Rattle.decimal.proofs.operations.divide.Goals as goal

pub returns-then-divisor-gt0 : goal.returns-then-divisor-gt0
returns-then-divisor-gt0 c =
    (down c.ranges.dividend c.ranges.divisor c.requires (search rules) c.if-divisor-gt0.true).2

pub returns : goal.returns
returns c =
    (up c.ranges.dividend c.ranges.divisor c.requires (search rules) c.if-divisor-gt0.false).2
