-- All but the last digit are fewer: a call of itself has a tenth of the size.
use Rattle.decimal.proofs.shortest.Decimal.+push_digits.Given as goal

abbrev pub decreases-push_digits : goal.decreases-push_digits
decreases-push_digits l = l.size
