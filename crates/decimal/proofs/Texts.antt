-- A text in its eleven bytes: one byte more, and digits behind it.
use Prim.Native.Nat.{ℕ, zero, suc, ◌+◌, ◌/◌, ◌%◌, ◌^◌, ◌≤◌, ◌<◌}
use mathlib.Core.Path.{◌≡◌, refl, ap}
use mathlib.Core.List.{List, [], ◌∷◌, ◌++◌, append_assoc}
use native.Mathlib.Omega.{arith}
use lib.ListN.{length, take, set, length-append}
use Rattle.decimal.proofs.Digits.{digits_step, digits-count}
use Rattle.decimal.specs.declared.shortest.Decimal.TheInside.{Inside}
use Rattle.decimal.specs.Shortest.{digits}
use Rattle.decimal.specs.Answers.{text_in, filled, decimal_of}

-- a byte stored past the text is the text with that byte
pub filled_more : (n : ℕ) (t : List ℕ) (b : ℕ) → length t < n → set (filled n t) (length t) b ≡ filled n (t ++ (b ∷ []))
unfolding filled
filled_more zero t b h = absurd (omega arith)
filled_more (suc n) [] b h = refl
filled_more (suc n) (a ∷ t) b h = ap (◌∷◌ a) (filled_more n t b (omega arith))

-- digits behind a text, all but the last and then the last
pub digits_behind : (t : List ℕ) (n : ℕ) → 10 ≤ n → (t ++ digits (n / 10)) ++ ((48 + n % 10) ∷ []) ≡ t ++ digits n
digits_behind t n h = rw (digits_step n h, append_assoc)

-- all but the last leave room for the last
pub room_behind : (t : List ℕ) (n : ℕ) → 10 ≤ n → length t + length (digits n) ≤ 11 → length (t ++ digits (n / 10)) < 11
room_behind t n h k = omega (arith, length-append t (digits (n / 10)), length-append (digits (n / 10)) ((48 + n % 10) ∷ []), ap length (digits_step n h))

-- a number of 32 bits has at most ten digits
pub digits-room : (n : ℕ) → n < 2 ^ 32 → length (digits n) ≤ 10
digits-room n h = digits-count 9 n (omega arith)

-- the bytes of a filled text begin with the text
pub filled_text : (n : ℕ) (t : List ℕ) → length t ≤ n → take (length t) (filled n t) ≡ t
unfolding filled
filled_text zero [] h = refl
filled_text zero (b ∷ t) h = absurd (omega arith)
filled_text (suc n) [] h = refl
filled_text (suc n) (b ∷ t) h = ap (◌∷◌ b) (filled_text n t (omega arith))

-- a decimal of a text holds all of it
pub text_of_decimal : (t : List ℕ) → length t ≤ 11 → text_in (decimal_of t) ≡ t
text_of_decimal t h = filled_text 11 t h

-- the fields with a byte stored behind the text
abbrev pub with_byte : Inside → ℕ → Inside
with_byte d b = record { bytes = set d.bytes d.len b; len = d.len + 1 }

-- they are those of the longer text
pushed : (d : Inside) (b : ℕ) → decimal_of (text_in d) ≡ d → length (text_in d) < 11 → with_byte d b ≡ decimal_of (text_in d ++ (b ∷ []))
pushed d b e h = go (text_in d) e h
  where
    go : (t : List ℕ) → decimal_of t ≡ d → length t < 11 → with_byte d b ≡ decimal_of (t ++ (b ∷ []))
    go t q k = rw (← q, filled_more 11 t b k, length-append)

-- so they stay those of a decimal
pub pushed_keeps : (d : Inside) (b : ℕ) → decimal_of (text_in d) ≡ d → length (text_in d) < 11
    → ((with_byte d b).len ≤ 11) × (decimal_of (text_in (with_byte d b)) ≡ with_byte d b)
pushed_keeps d b e h = go (with_byte d b) (pushed d b e h)
  where
    go : (x : Inside) → x ≡ decimal_of (text_in d ++ (b ∷ [])) → (x.len ≤ 11) × (decimal_of (text_in x) ≡ x)
    go x q =
        let t = text_in d ++ (b ∷ []) in
        let short : length t ≤ 11 = omega (arith, length-append (text_in d) (b ∷ [])) in
        rw q (short, ap decimal_of (text_of_decimal t short))
