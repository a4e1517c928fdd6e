-- The machine's signed numbers are the integers that they stand for: their bits, their negation, and their sum, difference and product.
use Prim.Native.Nat.{ℕ, suc, ◌+◌, ◌-◌, ◌*◌, ◌≤◌}
use mathlib.Core.Path.{◌≡◌}
use mathlib.Core.Bool.{Bool, true, false, cond, not}
use native.Mathlib.Omega.{arith}
use native.Mathlib.Nat.{mul-le-mul}
use lib.Dec.{T, ltb}
use lib.IntN.{ℤ, pos, negsuc, neg_ℤ, ◌+ℤ◌, ◌*ℤ◌}
use lib.Signed.{mag}
use mir.Syntax.{w32, w64}
use mir.Val.{SFits, of_z, to_z}
use mir.Facts.{to_z-of_z}
use Rattle.decimal.proofs.Ranges.{mag_negated}
use Rattle.decimal.specs.declared.operations.Operation.{Operation}
use Rattle.decimal.specs.declared.operations.Operation.TheVariants.{Sum, Difference, Product, Quotient, Remainder}
use Rattle.decimal.specs.Arithmetic.{exact, divides}

-- the magnitude of a sum
mag_sum : (a b : ℤ) → mag (a +ℤ b) ≤ mag a + mag b + 1
mag_sum (pos a) (pos b) = omega arith
mag_sum (pos a) (negsuc b) = go (ltb a (suc b))
  where
    go : (less : Bool) → mag (cond less (negsuc (suc b - suc a)) (pos (a - suc b))) ≤ a + b + 1
    go true = omega arith
    go false = omega arith
mag_sum (negsuc a) (pos b) = go (ltb b (suc a))
  where
    go : (less : Bool) → mag (cond less (negsuc (suc a - suc b)) (pos (b - suc a))) ≤ a + b + 1
    go true = omega arith
    go false = omega arith
mag_sum (negsuc a) (negsuc b) = omega arith

-- of a negation
mag_negation : (z : ℤ) → mag (neg_ℤ z) ≤ mag z + 1
mag_negation (pos n) = omega (arith, mag_negated n)
mag_negation (negsuc n) = omega arith

-- products keep the order
product_le : (a a' b b' : ℕ) → a ≤ a' → b ≤ b' → a * b ≤ a' * b'
product_le a a' b b' h k = mul-le-mul h k

-- the magnitude of a product
mag_product : (a b : ℤ) → mag (a *ℤ b) ≤ suc (mag a) * suc (mag b)
mag_product (pos a) (pos b) = omega (arith, product_le a (suc a) b (suc b) (omega arith) (omega arith))
mag_product (pos a) (negsuc b) = omega (arith, mag_negated (a * suc b), product_le a (suc a) (suc b) (suc b) (omega arith) (omega arith))
mag_product (negsuc a) (pos b) = omega (arith, mag_negated (suc a * b), product_le (suc a) (suc a) b (suc b) (omega arith) (omega arith))
mag_product (negsuc a) (negsuc b) = omega arith

-- a sum, a difference and a product of two numbers of 32 bits fit 64 bits
exact_fits : (op : Operation) (a b : ℤ) → T (not (divides op)) → SFits w32 a → SFits w32 b → SFits w64 (exact op a b)
exact_fits Sum a b h f g = record { sfits = omega (arith, mag_sum a b, f.sfits, g.sfits) }
exact_fits Difference a b h f g = record { sfits = omega (arith, mag_sum a (neg_ℤ b), mag_negation b, f.sfits, g.sfits) }
exact_fits Product a b h f g = record { sfits = omega (arith, mag_product a b, product_le (suc (mag a)) 2147483648 (suc (mag b)) 2147483648 f.sfits g.sfits) }
exact_fits Quotient a b h f g = absurd h
exact_fits Remainder a b h f g = absurd h

-- what fits 32 bits fits 64
widen : {z : ℤ} → SFits w32 z → SFits w64 z
widen f = record { sfits = omega (arith, f.sfits) }

-- the product of two numbers of 32 bits, taken in 64 bits, is the integers'
pub product_is : {a b x y : ℤ} → SFits w32 a → SFits w32 b → x ≡ to_z w32 (of_z w32 a) → y ≡ to_z w32 (of_z w32 b) → to_z w64 (of_z w64 (to_z w64 (of_z w64 x) *ℤ to_z w64 (of_z w64 y))) ≡ a *ℤ b
product_is {a} {b} f g p q = rw (p, q, to_z-of_z f, to_z-of_z g, to_z-of_z (widen f), to_z-of_z (widen g)) (to_z-of_z (exact_fits Product a b tt f g))
