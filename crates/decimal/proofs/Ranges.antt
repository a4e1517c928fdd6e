-- The range of an operand and of a result, as one bound on a number's magnitude: the form in which the machine has it.
use Prim.Native.Nat.{ℕ, zero, suc, ◌-◌, ◌≤◌, ◌<◌}
use mathlib.Core.Path.{◌≡◌, refl, sym, ◌∙◌}
use mathlib.Core.Bool.{Bool, true, false, ◌&&◌}
use native.Mathlib.Omega.{arith}
use borrow.Author.Tests.{le-leb, lt-leb, leb-true, leb-false}
use lib.Dec.{T, leb}
use lib.IntN.{ℤ, pos, negsuc, neg_ℤ}
use lib.Signed.{mag}
use mir.Syntax.{w32}
use mir.Val.{SFits}
use Rattle.decimal.specs.Operand.{in_range}

-- a test that holds is true
pub true_of : (b : Bool) → T b → b ≡ true
true_of true h = refl
true_of false h = absurd h

-- a test that is true holds
pub holds : {b : Bool} → b ≡ true → T b
holds e = rw e tt

-- the range is a bound on the magnitude
pub range_is : (z : ℤ) → in_range z ≡ leb (mag z) 2147483647
range_is (pos n) = refl
range_is (negsuc n) = and_true (leb n 2147483647)
  where
    and_true : (b : Bool) → b && true ≡ b
    and_true true = refl
    and_true false = refl

-- a number of the machine's 32 bits is in range
pub in_range_lem : (z : ℤ) → mag z < 2147483648 → in_range z ≡ true
in_range_lem z h = range_is z ∙ le-leb (mag z) 2147483647 (omega arith)

-- a larger magnitude is out of range
pub out_of_range : (z : ℤ) → 2147483648 ≤ mag z → in_range z ≡ false
out_of_range z h = range_is z ∙ lt-leb (mag z) 2147483647 (omega arith)

-- and only a larger one
pub beyond_range : (z : ℤ) → in_range z ≡ false → 2147483648 ≤ mag z
beyond_range z h = leb-false (mag z) 2147483647 (sym (range_is z) ∙ h)

-- a number in range fits the machine's 32 bits
pub range_fits : (z : ℤ) → in_range z ≡ true → SFits w32 z
range_fits z h = let k : mag z ≤ 2147483647 = leb-true (mag z) 2147483647 (sym (range_is z) ∙ h) in record { sfits = omega arith }

-- the magnitude of a negation is one less
pub mag_negated : (n : ℕ) → mag (neg_ℤ (pos n)) ≡ n - 1
mag_negated zero = refl
mag_negated (suc n) = omega arith
