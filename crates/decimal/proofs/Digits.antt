-- The digits of a number: their step equations, their count, and that they read back as the number.
use Prim.Native.Nat.{ℕ, zero, suc, ◌+◌, ◌-◌, ◌*◌, ◌/◌, ◌%◌, ◌^◌, ◌≤◌, ◌<◌}
use mathlib.Core.Path.{◌≡◌, refl, sym, ap, ◌∙◌}
use mathlib.Core.Bool.{Bool, true, false, cond}
use mathlib.Core.List.{List, [], ◌∷◌, ◌++◌}
use Rattle.std.specs.Prelude.{Option, None, Some}
use native.Mathlib.Omega.{arith}
use native.Mathlib.Nat.{div-lt_iff_lt-mul, pow-suc}
use native.Mathlib.Decide.{dec_lt}
use borrow.Author.Tests.{lt-ltb, le-ltb, le-leb}
use lib.ListN.{length, replicate, length-append}
use Rattle.decimal.specs.Operand.{is_digit, digits_from, one_or_more}
use Rattle.decimal.specs.Shortest.{digits_of, digits}

-- below ten the whole text is the last digit, for any fuel
fuel_small : (f n : ℕ) → n < 10 → digits_of f n ≡ (48 + n) ∷ []
unfolding digits_of
fuel_small zero n h = let e : n % 10 ≡ n = omega arith in rw e
fuel_small (suc f) n h = rw (lt-ltb n 10 h, digits_of)

-- from ten on the text ends in it
fuel_step : (f n : ℕ) → 10 ≤ n → digits_of (suc f) n ≡ digits_of f (n / 10) ++ ((48 + n % 10) ∷ [])
unfolding digits_of
fuel_step f n h = rw (le-ltb n 10 h, digits_of)

-- any fuel that is enough gives the same digits
pub fuel_irrelevant : (f g n : ℕ) → n ≤ f → n ≤ g → digits_of f n ≡ digits_of g n
fuel_irrelevant zero g n p q = fuel_small zero n (omega arith) ∙ sym (fuel_small g n (omega arith))
fuel_irrelevant (suc f) zero n p q = fuel_small (suc f) n (omega arith) ∙ sym (fuel_small zero n (omega arith))
fuel_irrelevant (suc f) (suc g) n p q = elim (dec_lt n 10) [
  | yes h ↦ fuel_small (suc f) n h ∙ sym (fuel_small (suc g) n h)
  | no h ↦ rw (fuel_step f n (omega arith), fuel_step g n (omega arith), fuel_irrelevant f g (n / 10) (omega arith) (omega arith))
]

-- a number below ten is one digit
pub digits_small : (n : ℕ) → n < 10 → digits n ≡ (48 + n) ∷ []
digits_small n h = fuel_small n n h

-- any other ends in its last digit
pub digits_step : (n : ℕ) → 10 ≤ n → digits n ≡ digits (n / 10) ++ ((48 + n % 10) ∷ [])
digits_step zero h = absurd (omega arith)
digits_step (suc n) h = rw (fuel_step n (suc n) h, fuel_irrelevant n (suc n / 10) (suc n / 10) (omega arith) (omega arith))

-- induction digit by digit
pub by_digits : (P : ℕ → Type 0) → ((n : ℕ) → n < 10 → P n) → ((n : ℕ) → 10 ≤ n → P (n / 10) → P n) → (n : ℕ) → P n
by_digits P small step n = go n n (omega arith)
  where
    go : (f m : ℕ) → m ≤ f → P m
    go zero m h = small m (omega arith)
    go (suc f) m h = elim (dec_lt m 10) [ yes k ↦ small m k | no k ↦ step m (omega arith) (go f (m / 10) (omega arith)) ]

-- there is at least one digit
pub digits_some : (n : ℕ) → 0 < length (digits n)
digits_some = by_digits (λ n. 0 < length (digits n))
    (λ n h. rw (digits_small n h) (omega arith))
    (λ n h k. rw (digits_step n h, length-append) (omega arith))

-- a number below the power of ten has no more digits than its exponent
pub digits-count : (k n : ℕ) → n < 10 ^ suc k → length (digits n) ≤ suc k
digits-count zero n h = rw (digits_small n h) (omega arith)
digits-count (suc k) n h = elim (dec_lt n 10) [
  | yes p ↦ rw (digits_small n p) (omega arith)
  | no p ↦
      let e = digits-count k (n / 10) ((div-lt_iff_lt-mul {k = 10} {x = n} {y = 10 ^ suc k} (omega arith)).1 (rw (← pow-suc) h)) in
      rw (digits_step n (omega arith), length-append) (omega arith)
]

-- digits behind what was read
abbrev pub then_digits : Option ℕ → List ℕ → Option ℕ
then_digits None t = None
then_digits (Some n) t = digits_from n t

-- reading two texts behind one another
pub digits_from-append : (n : ℕ) (s t : List ℕ) → digits_from n (s ++ t) ≡ then_digits (digits_from n s) t
unfolding digits_from
digits_from-append n [] t = refl
digits_from-append n (b ∷ s) t = go (is_digit b) (digits_from-append (10 * n + (b - 48)) s t)
  where
    go : (digit : Bool) → digits_from (10 * n + (b - 48)) (s ++ t) ≡ then_digits (digits_from (10 * n + (b - 48)) s) t
        → cond digit (digits_from (10 * n + (b - 48)) (s ++ t)) None ≡ then_digits (cond digit (digits_from (10 * n + (b - 48)) s) None) t
    go true h = h
    go false h = refl

-- a byte from `0` to `9` is one
pub is_digit_lem : (b : ℕ) → 48 ≤ b → b ≤ 57 → is_digit b ≡ true
is_digit_lem b h k = rw (le-leb 48 b h, le-leb b 57 k)

-- one digit more is ten times the number and the digit
pub digit_read : (n d : ℕ) → d < 10 → digits_from n ((48 + d) ∷ []) ≡ Some (10 * n + d)
unfolding digits_from
digit_read n d h = let e : 48 + d - 48 ≡ d = omega arith in rw (is_digit_lem (48 + d) (omega arith) (omega arith), e)

-- the digits of a number read back as the number
pub digits_read : (n : ℕ) → digits_from 0 (digits n) ≡ Some n
digits_read = by_digits (λ n. digits_from 0 (digits n) ≡ Some n)
    (λ n h. rw (digits_small n h, digit_read 0 n h) (ap Some (omega arith)))
    (λ n h k. rw (digits_step n h, digits_from-append, k, digit_read (n / 10) (n % 10) (omega arith)) (ap Some (omega arith)))

-- a text that is not empty has one or more digits
from_zero_lem : (t : List ℕ) → 0 < length t → one_or_more t ≡ digits_from 0 t
from_zero_lem [] h = absurd (omega arith)
from_zero_lem (b ∷ t) h = refl

-- so the digits of a number are one or more digits that are worth it
pub reads_back : (n : ℕ) → one_or_more (digits n) ≡ Some n
reads_back n = from_zero_lem (digits n) (digits_some n) ∙ digits_read n

-- "leading zeros count for nothing"
pub leading_zeros : (n : ℕ) (t : List ℕ) → digits_from 0 (replicate n 48 ++ t) ≡ digits_from 0 t
unfolding digits_from
leading_zeros zero t = refl
leading_zeros (suc n) t = leading_zeros n t
