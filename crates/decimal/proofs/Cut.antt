-- The machine's quotient is cut towards zero and its remainder has the dividend's sign; one step makes a division of them.
use Prim.Native.Nat.{ℕ, zero, suc, ◌-◌, ◌*◌, ◌/◌, ◌%◌, ◌^◌, ◌<◌}
use mathlib.Core.Path.{◌≡◌, refl, sym, ap, ◌∙◌}
use mathlib.Core.Logic.{◌≢◌}
use mathlib.Core.Bool.{true, false, true≢false, false≢true}
use native.Mathlib.Omega.{arith}
use native.Mathlib.Nat.{mul-zero, mod-lt, div-add-mod, div-le_self, div-lt_iff_lt-mul}
use borrow.Author.Tests.{le-ltb, ltb-false}
use lib.Dec.{leb-zero, le→leb, lt→ltb}
use lib.IntN.{ℤ, pos, negsuc, neg_ℤ, nat_abs, ◌+ℤ◌, ◌-ℤ◌, ◌*ℤ◌, neg_ℤ-neg_ℤ, neg_ℤ-+ℤ, +ℤ_one, suc_ℤ-*ℤ, *ℤ_comm, +ℤ_comm, +ℤ_assoc, +ℤ-neg_ℤ_cancel, -ℤ-+ℤ_cancel}
use lib.Signed.{◌≤ℤ◌, ◌<ℤ◌, le_z, lt_z, le_z_yes, lt_z_yes, mag_rem, quot_z, rem_z}
use mir.Syntax.{w32}
use mir.Val.{SFits, of_z, to_z}
use mir.Facts.{to_z-of_z}
use Rattle.decimal.proofs.Ranges.{holds, mag_negated}
use Rattle.decimal.proofs.Division.{has_size, quotient_fits, remainder_fits}
use Rattle.decimal.specs.Arithmetic.{Division}

-- a product with a negation
negated_right : (b q : ℤ) → b *ℤ neg_ℤ q ≡ neg_ℤ (b *ℤ q)
negated_right (pos b) (pos zero) = rw (mul-zero b)
negated_right (pos b) (pos (suc q)) = refl
negated_right (pos b) (negsuc q) = sym (neg_ℤ-neg_ℤ (pos (b * suc q)))
negated_right (negsuc b) (pos zero) = rw (mul-zero (suc b))
negated_right (negsuc b) (pos (suc q)) = sym (neg_ℤ-neg_ℤ (pos (suc b * suc q)))
negated_right (negsuc b) (negsuc q) = refl

-- the machine's quotient and remainder fit
cut_fits : (a b : ℤ) → a ≡ b *ℤ quot_z a b +ℤ rem_z a b
cut_fits (pos a) (pos b) = ap pos (sym (div-add-mod a b))
cut_fits (pos a) (negsuc b) =
    ap pos (sym (div-add-mod a (suc b))) ∙ ap (λ z. z +ℤ pos (a % suc b)) (sym (negated_right (negsuc b) (pos (a / suc b)) ∙ neg_ℤ-neg_ℤ (pos (suc b * (a / suc b)))))
cut_fits (negsuc a) (pos b) =
    ap (λ n. neg_ℤ (pos n)) (sym (div-add-mod (suc a) b)) ∙ neg_ℤ-+ℤ (pos (b * (suc a / b))) (pos (suc a % b)) ∙ ap (λ z. z +ℤ neg_ℤ (pos (suc a % b))) (sym (negated_right (pos b) (pos (suc a / b))))
cut_fits (negsuc a) (negsuc b) =
    ap (λ n. neg_ℤ (pos n)) (sym (div-add-mod (suc a) (suc b))) ∙ neg_ℤ-+ℤ (pos (suc b * (suc a / suc b))) (pos (suc a % suc b))

-- a step up of the quotient lowers the remainder by the divisor
step_up : (b q r : ℤ) → b *ℤ (q +ℤ pos 1) +ℤ (r -ℤ b) ≡ b *ℤ q +ℤ r
step_up b q r =
    ap (λ z. z +ℤ (r -ℤ b)) (ap (λ z. b *ℤ z) (+ℤ_one q) ∙ *ℤ_comm b _ ∙ suc_ℤ-*ℤ q b ∙ ap (λ z. z +ℤ b) (*ℤ_comm q b))
    ∙ ap (λ z. b *ℤ q +ℤ b +ℤ z) (+ℤ_comm r (neg_ℤ b)) ∙ sym (+ℤ_assoc (b *ℤ q +ℤ b) (neg_ℤ b) r) ∙ ap (λ z. z +ℤ r) (+ℤ-neg_ℤ_cancel (b *ℤ q) b)

-- so a step down raises it
step_down : (b q r : ℤ) → b *ℤ (q -ℤ pos 1) +ℤ (r +ℤ b) ≡ b *ℤ q +ℤ r
step_down b q r = sym (step_up b (q -ℤ pos 1) (r +ℤ b)) ∙ rw (-ℤ-+ℤ_cancel q (pos 1), +ℤ-neg_ℤ_cancel r b)

-- a remainder that is not negative is below the divisor's size
counted : (a b : ℤ) → 0 < nat_abs b → le_z (pos 0) (rem_z a b) ≡ true → rem_z a b <ℤ pos (nat_abs b)
counted (pos a) b h e = lt_z_yes (lt→ltb _ _ (mod-lt a h))
counted (negsuc a) b h e = go (suc a % nat_abs b) (mod-lt (suc a) h) e
  where
    go : (s : ℕ) → s < nat_abs b → le_z (pos 0) (neg_ℤ (pos s)) ≡ true → neg_ℤ (pos s) <ℤ pos (nat_abs b)
    go zero k t = lt_z_yes (lt→ltb 0 _ k)
    go (suc s) k t = absurd (false≢true t)

-- a negative one counts from zero when it is raised by that size
raised : (a b : ℤ) → 0 < nat_abs b → le_z (pos 0) (rem_z a b) ≡ false → (pos 0 ≤ℤ (rem_z a b +ℤ pos (nat_abs b))) × ((rem_z a b +ℤ pos (nat_abs b)) <ℤ pos (nat_abs b))
raised (pos a) b h e = absurd (true≢false (sym (leb-zero (a % nat_abs b)) ∙ e))
raised (negsuc a) b h e = go (nat_abs b) (suc a % nat_abs b) (mod-lt (suc a) h) e
  where
    go : (m s : ℕ) → s < m → le_z (pos 0) (neg_ℤ (pos s)) ≡ false → (pos 0 ≤ℤ (neg_ℤ (pos s) +ℤ pos m)) × ((neg_ℤ (pos s) +ℤ pos m) <ℤ pos m)
    go m zero k t = absurd (true≢false t)
    go m (suc s) k t = rw (le-ltb m (suc s) (omega arith)) (le_z_yes (le→leb 0 (m - suc s) (omega arith)), lt_z_yes (lt→ltb (m - suc s) m (omega arith)))

-- the size of a positive divisor is itself
size_up : (b : ℤ) → lt_z (pos 0) b ≡ true → pos (nat_abs b) ≡ b
size_up (pos b) e = refl
size_up (negsuc b) e = absurd (false≢true e)

-- and of any other its negation
size_down : (b : ℤ) → lt_z (pos 0) b ≡ false → pos (nat_abs b) ≡ neg_ℤ b
size_down (pos zero) e = refl
size_down (pos (suc b)) e = absurd (omega (arith, ltb-false 0 (suc b) e))
size_down (negsuc b) e = refl

module _ (a b : ℤ) (h : 0 < nat_abs b) where
  -- a remainder that is not negative needs no step
  pub kept : le_z (pos 0) (rem_z a b) ≡ true → Division a b (quot_z a b) (rem_z a b)
  kept e = record { from_zero = le_z_yes (holds e); below = counted a b h e; fits = cut_fits a b }

  module _ (e : le_z (pos 0) (rem_z a b) ≡ false) where
    -- raised by what is the divisor's size
    by_size : (x : ℤ) → pos (nat_abs b) ≡ x → (pos 0 ≤ℤ (rem_z a b +ℤ x)) × ((rem_z a b +ℤ x) <ℤ pos (nat_abs b))
    by_size x size = rw (← size) (raised a b h e)

    -- a negative one takes a step down by a positive divisor
    pub stepped_down : lt_z (pos 0) b ≡ true → Division a b (quot_z a b -ℤ pos 1) (rem_z a b +ℤ b)
    stepped_down up =
        let counts = by_size b (size_up b up) in
        record { from_zero = counts.0; below = counts.1; fits = cut_fits a b ∙ sym (step_down b (quot_z a b) (rem_z a b)) }

    -- and a step up by a negative one
    pub stepped_up : lt_z (pos 0) b ≡ false → Division a b (quot_z a b +ℤ pos 1) (rem_z a b -ℤ b)
    stepped_up down =
        let counts = by_size (neg_ℤ b) (size_down b down) in
        record { from_zero = counts.0; below = counts.1; fits = cut_fits a b ∙ sym (step_up b (quot_z a b) (rem_z a b)) }

-- the machine's quotient fits 32 bits, unless the divisor is -1
cut_quotient_fits : (a b : ℤ) → SFits w32 a → b ≢ negsuc 0 → SFits w32 (quot_z a b)
cut_quotient_fits (pos a) (pos b) f n = record { sfits = omega (arith, div-le_self a b, f.sfits) }
cut_quotient_fits (pos a) (negsuc b) f n = record { sfits = omega (arith, mag_negated (a / suc b), div-le_self a (suc b), f.sfits) }
cut_quotient_fits (negsuc a) (pos b) f n = record { sfits = omega (arith, mag_negated (suc a / b), div-le_self (suc a) b, f.sfits) }
cut_quotient_fits (negsuc a) (negsuc zero) f n = absurd (n refl)
cut_quotient_fits (negsuc a) (negsuc (suc b)) f n =
    record { sfits = (div-lt_iff_lt-mul {k = suc (suc b)} {x = suc a} {y = 2 ^ 31} (omega arith)).1 (omega (arith, f.sfits)) }

-- a divisor that is not zero has bits
some_bits : (b : ℤ) → SFits w32 b → b ≢ pos 0 → 0 < of_z w32 b
some_bits (pos zero) g n = absurd (n refl)
some_bits (pos (suc b)) g n = omega arith
some_bits (negsuc b) g n = omega (arith, g.sfits)

-- a number as a local holds it
abbrev local : ℤ → ℤ
local z = to_z w32 (of_z w32 z)

-- what the two locals hold that the machine divides into
abbrev quotient_in : ℤ → ℤ → ℤ
quotient_in a b = local (quot_z (local a) (local b))

abbrev remainder_in : ℤ → ℤ → ℤ
remainder_in a b = local (rem_z (local a) (local b))

module _ {a b : ℤ} (f : SFits w32 a) (g : SFits w32 b) (given : (b ≢ pos 0) × (b ≢ negsuc 0)) where
  -- what the machine's quotient and remainder both ask
  pub asked : (0 < of_z w32 b) × SFits w32 (quot_z (local a) (local b))
  asked = (some_bits b g given.0, rw (to_z-of_z f, to_z-of_z g) (cut_quotient_fits a b f given.1))

  quotient_is : quotient_in a b ≡ quot_z a b
  quotient_is = rw (to_z-of_z f, to_z-of_z g) (to_z-of_z (cut_quotient_fits a b f given.1))

  remainder_is : remainder_in a b ≡ rem_z a b
  remainder_is = rw (to_z-of_z f, to_z-of_z g) (to_z-of_z {w = w32} (record { sfits = omega (arith, mag_rem a b, f.sfits) }))

  -- no step
  pub unstepped : le_z (pos 0) (remainder_in a b) ≡ true → Division a b (quotient_in a b) (remainder_in a b)
  unstepped e = rw (quotient_is, remainder_is) (kept a b (has_size b given.0) (rw remainder_is at e))

  -- a division's two numbers fit, and two locals hold it
  abbrev Lands : ℤ → ℤ → Type 0
  Lands q r = SFits w32 q × SFits w32 r × Division a b (local q) (local r)

  lands : {q r : ℤ} → Division a b q r → Lands q r
  lands d =
      let q = quotient_fits f given.1 d in
      let r = remainder_fits g d in
      (q, r, rw (to_z-of_z q, to_z-of_z r) d)

  module _ (e : le_z (pos 0) (remainder_in a b) ≡ false) where
    -- a step down
    pub down : lt_z (pos 0) (local b) ≡ true → Lands (quotient_in a b -ℤ pos 1) (remainder_in a b +ℤ local b)
    down h = lands (rw (quotient_is, remainder_is, to_z-of_z g) (stepped_down a b (has_size b given.0) (rw remainder_is at e) (rw (to_z-of_z g) at h)))

    -- a step up
    pub up : lt_z (pos 0) (local b) ≡ false → Lands (quotient_in a b +ℤ pos 1) (remainder_in a b -ℤ local b)
    up h = lands (rw (quotient_is, remainder_is, to_z-of_z g) (stepped_up a b (has_size b given.0) (rw remainder_is at e) (rw (to_z-of_z g) at h)))
