-- The digits of a number.
use Rattle.std.proofs.Common.{◌≡◌, ℕ, zero, suc, ◌/◌, ◌^◌, ◌<◌, ◌≤◌, arith}
use Rattle.std.proofs.Math.Nat.{pow-suc, div-lt_iff_lt-mul, le-div_iff_mul-le}
use Rattle.std.proofs.lemmas.Bool.{lt-ltb, le-ltb}
use Rattle.std.proofs.lemmas.Grind.{common_steps}
use Rattle.io.specs.Digits.{last_digits, IsDigitCount}
use Rattle.decimal.specs.Shortest.{digits_of, digits}

below_power : (k : ℕ) → k < 10 ^ k
below_power zero = omega arith
below_power (suc k) = omega (arith, below_power k, pow-suc 10 k)

-- a tenth of a number has a digit fewer
shorter : (k n : ℕ) → IsDigitCount 10 1 n (suc (suc k)) → IsDigitCount 10 1 (n / 10) (suc k)
shorter k n f = grind (arith, common_steps, pow-suc, div-lt_iff_lt-mul, le-div_iff_mul-le)

-- `digits_of` takes as many digits as a number needs, whatever more it is allowed
same_digits : (k more n : ℕ) → IsDigitCount 10 1 n (suc k) → k ≤ more → last_digits 10 (suc k) n ≡ digits_of more n
unfolding digits_of
same_digits zero zero n f h = grind (arith, common_steps)
same_digits zero (suc more) n f h = grind (arith, common_steps, lt-ltb)
same_digits (suc k) zero n f h = absurd (omega arith)
same_digits (suc k) (suc more) n f h = grind (arith, common_steps, shorter, below_power, same_digits k more, le-ltb)

-- the fewest digits that hold a number are its shortest decimal
pub fewest_shortest : (k n : ℕ) → IsDigitCount 10 1 n k → last_digits 10 k n ≡ digits n
fewest_shortest zero n f = absurd (omega arith)
fewest_shortest (suc zero) n f = same_digits 0 n n f (omega arith)
fewest_shortest (suc (suc k)) n f = same_digits (suc k) n n f (grind (arith, common_steps, below_power))
