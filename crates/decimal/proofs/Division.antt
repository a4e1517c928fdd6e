-- Division as document 02, Seven, has it: there is one, there is only one, and `quotient_of` and `remainder_of` are it.
use Prim.Native.Nat.{ℕ, zero, suc, ◌+◌, ◌-◌, ◌*◌, ◌/◌, ◌%◌, ◌<◌}
use mathlib.Core.Path.{◌≡◌, refl, sym, ap, ◌∙◌}
use mathlib.Core.Logic.{◌≢◌}
use mathlib.Core.Bool.{Bool, true, false}
use native.Mathlib.Omega.{arith}
use native.Mathlib.Nat.{mul-zero, mod-lt, div-one, div-le_self, div-lt_iff_lt-mul, div-add-mod, div-eq_of_lt, mul-add-div}
use borrow.Author.Tests.{lt-ltb}
use lib.Dec.{eqb-suc-zero, le→leb, lt→ltb, ltb→lt}
use lib.IntN.{ℤ, pos, negsuc, neg_ℤ, nat_abs, ◌+ℤ◌, ◌-ℤ◌, ◌*ℤ◌, neg_ℤ-neg_ℤ, pos-ne-negsuc, +ℤ_comm, +ℤ-neg_ℤ_cancel, -ℤ-+ℤ_cancel}
use lib.Signed.{shr_z, nat_abs-le, le_z_yes, lt_z_yes}
use mir.Syntax.{w32}
use mir.Val.{SFits}
use Rattle.decimal.proofs.Ranges.{mag_negated, in_range_lem, beyond_range, range_fits}
use Rattle.decimal.specs.Operand.{smallest, in_range}
use Rattle.decimal.specs.Arithmetic.{Division, is_zero, quotient_of, remainder_of}

-- a number turned round where the divisor is negative
abbrev turned : ℤ → ℤ → ℤ
turned (pos b) q = q
turned (negsuc b) q = neg_ℤ q

-- turned twice it is the number
turned_twice : (b q : ℤ) → turned b (turned b q) ≡ q
turned_twice (pos b) q = refl
turned_twice (negsuc b) q = neg_ℤ-neg_ℤ q

-- the quotient by a divisor is that by its size, turned
quotient_turned : (a b : ℤ) → quotient_of a b ≡ turned b (shr_z a (nat_abs b))
quotient_turned a (pos b) = refl
quotient_turned a (negsuc b) = refl

-- a product by a divisor is one by its size
product_turned : (b q : ℤ) → b *ℤ q ≡ pos (nat_abs b) *ℤ turned b q
product_turned (pos b) q = refl
product_turned (negsuc b) (pos zero) = rw (mul-zero (suc b))
product_turned (negsuc b) (pos (suc q)) = refl
product_turned (negsuc b) (negsuc q) = refl

-- what is added to a larger number's negation
below_zero : (n r : ℕ) → r < n → neg_ℤ (pos n) +ℤ pos r ≡ negsuc (n - suc r)
below_zero zero r h = absurd (omega arith)
below_zero (suc n) r h = rw (lt-ltb r (suc n) h)

-- a negative multiple and a remainder
multiple_below : (m k r : ℕ) → r < m → pos m *ℤ negsuc k +ℤ pos r ≡ negsuc (m * k + (m - suc r))
multiple_below m k r h = below_zero (m * suc k) r (omega arith) ∙ ap negsuc (omega arith)

-- how often a size goes into a multiple and a remainder
times_in : (m k r : ℕ) → r < m → (m * k + r) / m ≡ k
times_in m k r h = mul-add-div (omega arith) k r ∙ rw (div-eq_of_lt h) (omega arith)

-- so the quotient by a size is the multiple
shr_multiple : (m : ℕ) (q : ℤ) (r : ℕ) → r < m → shr_z (pos m *ℤ q +ℤ pos r) m ≡ q
shr_multiple m (pos k) r h = ap pos (times_in m k r h)
shr_multiple m (negsuc k) r h = ap (λ z. shr_z z m) (multiple_below m k r h) ∙ ap negsuc (times_in m k (m - suc r) (omega arith))

-- what is left over of a number by a size
abbrev left : ℤ → ℕ → ℕ
left (pos n) m = n % m
left (negsuc n) m = m - suc (n % m)

left_below : (a : ℤ) (m : ℕ) → 0 < m → left a m < m
left_below (pos n) m h = mod-lt n h
left_below (negsuc n) m h = omega arith

-- a number is the multiple of a size and what is left over
by_size : (a : ℤ) (m : ℕ) → 0 < m → pos m *ℤ shr_z a m +ℤ pos (left a m) ≡ a
by_size (pos n) m h = ap pos (div-add-mod n m)
by_size (negsuc n) m h = multiple_below m (n / m) (m - suc (n % m)) (omega arith) ∙ ap negsuc (omega (arith, div-add-mod n m, mod-lt n h))

-- what remains of a sum
remains : (a x r : ℤ) → x +ℤ r ≡ a → a -ℤ x ≡ r
remains a x r e = ap (λ z. z -ℤ x) (sym e ∙ +ℤ_comm x r) ∙ +ℤ-neg_ℤ_cancel r x

-- a divisor that is not zero has a size
pub has_size : (b : ℤ) → b ≢ pos 0 → 0 < nat_abs b
has_size (pos zero) n = absurd (n refl)
has_size (pos (suc b)) n = omega arith
has_size (negsuc b) n = omega arith

-- the remainder is what is left over by the divisor's size
remainder_left : (a b : ℤ) → b ≢ pos 0 → remainder_of a b ≡ pos (left a (nat_abs b))
remainder_left a b n = remains a (b *ℤ quotient_of a b) (pos (left a (nat_abs b))) (ap (λ z. z +ℤ pos (left a (nat_abs b))) same ∙ by_size a (nat_abs b) (has_size b n))
  where
    same : b *ℤ quotient_of a b ≡ pos (nat_abs b) *ℤ shr_z a (nat_abs b)
    same = product_turned b (quotient_of a b) ∙ ap (λ q. pos (nat_abs b) *ℤ q) (ap (turned b) (quotient_turned a b) ∙ turned_twice b (shr_z a (nat_abs b)))

-- there is a division by every divisor but zero
pub division : (a b : ℤ) → b ≢ pos 0 → Division a b (quotient_of a b) (remainder_of a b)
division a b n = record {
  from_zero = rw (remainder_left a b n) (le_z_yes (le→leb 0 (left a (nat_abs b)) (omega arith)));
  below = rw (remainder_left a b n) (lt_z_yes (lt→ltb _ _ (left_below a (nat_abs b) (has_size b n))));
  fits = sym (+ℤ_comm (b *ℤ quotient_of a b) (remainder_of a b) ∙ -ℤ-+ℤ_cancel a (b *ℤ quotient_of a b));
}

-- and only one: its quotient
pub quotient_only : {a b q r : ℤ} → Division a b q r → quotient_of a b ≡ q
quotient_only {a} {b} {q} {r} d = go r d
  where
    go : (r : ℤ) → Division a b q r → quotient_of a b ≡ q
    go (negsuc r) e = absurd e.from_zero.le
    go (pos r) e =
        let sized : a ≡ pos (nat_abs b) *ℤ turned b q +ℤ pos r = e.fits ∙ ap (λ z. z +ℤ pos r) (product_turned b q) in
        let goes : shr_z a (nat_abs b) ≡ turned b q = ap (λ z. shr_z z (nat_abs b)) sized ∙ shr_multiple (nat_abs b) (turned b q) r (ltb→lt r (nat_abs b) e.below.lt) in
        quotient_turned a b ∙ ap (turned b) goes ∙ turned_twice b q

-- its remainder
pub remainder_only : {a b q r : ℤ} → Division a b q r → remainder_of a b ≡ r
remainder_only {a} {b} {q} {r} d = ap (λ z. a -ℤ b *ℤ z) (quotient_only d) ∙ remains a (b *ℤ q) r (sym d.fits)

-- so two are the same
pub division_unique : {a b q r q' r' : ℤ} → Division a b q r → Division a b q' r' → (q ≡ q') × (r ≡ r')
division_unique d e = (sym (quotient_only d) ∙ quotient_only e, sym (remainder_only d) ∙ remainder_only e)

-- by -1 the quotient is the negation
pub quotient_minus_one : (a : ℤ) → quotient_of a (negsuc 0) ≡ neg_ℤ a
quotient_minus_one (pos a) = rw (div-one a)
quotient_minus_one (negsuc a) = rw (div-one a)

-- and nothing remains
pub remainder_minus_one : (a : ℤ) → remainder_of a (negsuc 0) ≡ pos 0
remainder_minus_one a = remainder_left a (negsuc 0) (λ e. pos-ne-negsuc 0 0 (sym e)) ∙ ap pos (omega (arith, left_below a 1 (omega arith)))

-- a divisor of a division is not zero
pub divisor_some : {a b q r : ℤ} → Division a b q r → is_zero b ≡ false
divisor_some {a} {b} {q} {r} d = go b r d
  where
    go : (b r : ℤ) → Division a b q r → is_zero b ≡ false
    go (pos zero) (pos r) e = absurd (omega (arith, ltb→lt r 0 e.below.lt))
    go (pos zero) (negsuc r) e = absurd e.from_zero.le
    go (pos (suc b)) r e = eqb-suc-zero b
    go (negsuc b) r e = eqb-suc-zero b

-- the only quotient out of range is that of the smallest number by -1
pub out_of_range_only : (a b : ℤ) → in_range a ≡ true → in_range (quotient_of a b) ≡ false → (a ≡ smallest) × (b ≡ negsuc 0)
out_of_range_only (pos a) (pos b) h e = absurd (omega (arith, beyond_range (pos (a / b)) e, div-le_self a b, (range_fits (pos a) h).sfits))
out_of_range_only (pos a) (negsuc b) h e =
    absurd (omega (arith, beyond_range (neg_ℤ (pos (a / suc b))) e, mag_negated (a / suc b), div-le_self a (suc b), (range_fits (pos a) h).sfits))
out_of_range_only (negsuc a) (pos b) h e = absurd (omega (arith, beyond_range (negsuc (a / b)) e, div-le_self a b, (range_fits (negsuc a) h).sfits))
out_of_range_only (negsuc a) (negsuc zero) h e = (ap negsuc (omega (arith, beyond_range (pos (suc (a / 1))) e, div-one a, (range_fits (negsuc a) h).sfits)), refl)
out_of_range_only (negsuc a) (negsuc (suc b)) h e =
    let few : a / suc (suc b) < 2147483647 = (div-lt_iff_lt-mul {k = suc (suc b)} {x = a} {y = 2147483647} (omega arith)).1 (omega (arith, (range_fits (negsuc a) h).sfits)) in
    absurd (omega (arith, beyond_range (pos (suc (a / suc (suc b)))) e))

-- so by any other divisor it fits 32 bits
pub quotient_fits : {a b q r : ℤ} → SFits w32 a → b ≢ negsuc 0 → Division a b q r → SFits w32 q
quotient_fits {a} {b} f n d = rw (← quotient_only d) (go (in_range (quotient_of a b)) refl)
  where
    go : (t : Bool) → in_range (quotient_of a b) ≡ t → SFits w32 (quotient_of a b)
    go true e = range_fits (quotient_of a b) e
    go false e = absurd (n (out_of_range_only a b (in_range_lem a f.sfits) e).1)

-- and a remainder always does
pub remainder_fits : {a b q r : ℤ} → SFits w32 b → Division a b q r → SFits w32 r
remainder_fits {a} {b} {q} {r} g d = go r d
  where
    go : (r : ℤ) → Division a b q r → SFits w32 r
    go (pos r) e = record { sfits = omega (arith, ltb→lt r (nat_abs b) e.below.lt, nat_abs-le b g.sfits) }
    go (negsuc r) e = absurd e.from_zero.le
