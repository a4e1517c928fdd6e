-- Document 01, Arithmetic: the outcomes of a refusal.
use Rattle.std.specs.Prelude.{ℕ}
use Rattle.decimal.specs.declared.operations.Refusal.{Refusal}
use Rattle.decimal.specs.declared.operations.Refusal.TheVariants.{NotANumber, DivisorZero, ResultOutOfRange}

-- 22: not a number in range; 23: divisor zero; 24: result out of range
abbrev pub not_a_number : ℕ
not_a_number = 22

abbrev pub divisor_zero : ℕ
divisor_zero = 23

abbrev pub result_out_of_range : ℕ
result_out_of_range = 24

abbrev pub number_of : Refusal → ℕ
number_of NotANumber = not_a_number
number_of DivisorZero = divisor_zero
number_of ResultOutOfRange = result_out_of_range
