-- Document 01, Arithmetic, and document 02, Seven: what each of the five operations gives for two operands.
use Rattle.std.specs.Prelude.{ℕ, suc, ◌≡◌, Bool, true, false, cond, ◌&&◌, List, eqb, ℤ, pos, negsuc, neg_ℤ, nat_abs, ◌+ℤ◌, ◌-ℤ◌, ◌*ℤ◌, ◌≤ℤ◌, ◌<ℤ◌, Option, None, Some, Result, Ok, Err}
use Rattle.std.specs.Int.Signed.{shr_z}
use Rattle.decimal.specs.declared.operations.Operation.{Operation}
use Rattle.decimal.specs.declared.operations.Operation.TheVariants.{Sum, Difference, Product, Quotient, Remainder}
use Rattle.decimal.specs.declared.operations.Refusal.{Refusal}
use Rattle.decimal.specs.declared.operations.Refusal.TheVariants.{NotANumber, DivisorZero, ResultOutOfRange}
use Rattle.decimal.specs.Operand.{operand, in_range}

-- Document 02, Seven: "Menu makers count a remainder from 0 up to one less than the divisor's size. Rem is to do that, and Quot
-- is then the whole number that fits: dividend = divisor × quotient + remainder."
pub record Division (dividend divisor quotient remainder : ℤ) : Type 0 where
  pub from_zero : pos 0 ≤ℤ remainder
  pub below : remainder <ℤ pos (nat_abs divisor)
  pub fits : dividend ≡ divisor *ℤ quotient +ℤ remainder

-- the quotient that fits: how often the divisor's size goes into the dividend, rounded down, with the divisor's sign
abbrev pub quotient_of : ℤ → ℤ → ℤ
quotient_of a (pos b) = shr_z a b
quotient_of a (negsuc b) = neg_ℤ (shr_z a (suc b))

-- the remainder that fits
abbrev pub remainder_of : ℤ → ℤ → ℤ
remainder_of a b = a -ℤ b *ℤ quotient_of a b

-- the operation on integers, with no bound on the result
abbrev pub exact : Operation → ℤ → ℤ → ℤ
exact Sum a b = a +ℤ b
exact Difference a b = a -ℤ b
exact Product a b = a *ℤ b
exact Quotient a b = quotient_of a b
exact Remainder a b = remainder_of a b

-- the operations that have a divisor
abbrev pub divides : Operation → Bool
divides Sum = false
divides Difference = false
divides Product = false
divides Quotient = true
divides Remainder = true

abbrev pub is_zero : ℤ → Bool
is_zero z = eqb (nat_abs z) 0

-- a number, or 24 where it is out of range
abbrev pub ranged : ℤ → Result ℤ Refusal
ranged z = cond (in_range z) (Ok z) (Err ResultOutOfRange)

-- two numbers in range: "23, 24"
abbrev pub of_numbers : Operation → ℤ → ℤ → Result ℤ Refusal
of_numbers op a b = cond (divides op && is_zero b) (Err DivisorZero) (ranged (exact op a b))

-- an operand alone: its number, or 22
abbrev pub as_result : Option ℤ → Result ℤ Refusal
as_result None = Err NotANumber
as_result (Some z) = Ok z

-- "First operand's 22, second's 22, 23, 24."
abbrev pub of_results : Operation → Result ℤ Refusal → Result ℤ Refusal → Result ℤ Refusal
of_results op (Err refusal) second = Err refusal
of_results op (Ok a) (Err refusal) = Err refusal
of_results op (Ok a) (Ok b) = of_numbers op a b

-- the operation on two operands
abbrev pub of_operands : Operation → Option ℤ → Option ℤ → Result ℤ Refusal
of_operands op first second = of_results op (as_result first) (as_result second)

-- the operation on two texts
abbrev pub calculated : Operation → List ℕ → List ℕ → Result ℤ Refusal
calculated op first second = of_operands op (operand first) (operand second)

-- two texts are operands, and the one divided by the other has this quotient and this remainder
abbrev pub DivisionOf : List ℕ → List ℕ → ℤ → ℤ → Type 0
DivisionOf first second quotient remainder =
    (dividend : ℤ) × (divisor : ℤ) × (operand first ≡ Some dividend) × (operand second ≡ Some divisor) × Division dividend divisor quotient remainder
