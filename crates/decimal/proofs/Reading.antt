-- Reading byte by byte is the definition: what a reader has found is the operand that the bytes which it has taken are.
use Prim.Native.Nat.{ℕ, ◌+◌, ◌-◌, ◌*◌, ◌≤◌, min}
use mathlib.Core.Path.{◌≡◌, refl, sym, ap, ◌∙◌}
use mathlib.Core.Bool.{Bool, true, false, cond}
use mathlib.Core.List.{List, [], ◌∷◌, ◌++◌}
use Rattle.std.specs.Prelude.{Option, None, Some}
use native.Mathlib.Omega.{arith}
use native.Mathlib.Nat.{min-eq_left}
use native.Mathlib.Decide.{dec_le}
use lib.Dec.{eqb}
use lib.IntN.{ℤ, pos, neg_ℤ}
use Rattle.decimal.proofs.Ranges.{out_of_range, mag_negated}
use Rattle.decimal.specs.declared.reader.Stage.{Stage}
use Rattle.decimal.specs.declared.reader.Stage.TheVariants.{Start, Signed, Digits, Refused}
use Rattle.decimal.specs.declared.reader.Reader.{Reader}
use Rattle.decimal.specs.Operand.{is_digit, digits_from, one_or_more, positive, negative, ranged, operand}
use Rattle.decimal.specs.Reading.{beyond, new_reader, refusing, after_digit, after_sign, after, after_all, Took, signed}

-- what a reader has found, by its stage
abbrev found_at : Stage → Reader → Option ℤ
found_at Start r = None
found_at Signed r = None
found_at Digits r = ranged (Some (signed r.negative r.size))
found_at Refused r = None

-- what it has found, if its bytes end here
abbrev pub found : Reader → Option ℤ
found r = found_at r.stage r

-- reading a text and then another is reading the two as one
after_all-append : (r : Reader) (s t : List ℕ) → after_all r (s ++ t) ≡ after_all (after_all r s) t
unfolding after_all
after_all-append r [] t = refl
after_all-append r (b ∷ s) t = after_all-append (after r b) s t

-- one byte more
after_all_more : (r : Reader) (s : List ℕ) (b : ℕ) → after_all r (s ++ (b ∷ [])) ≡ after (after_all r s) b
unfolding after_all
after_all_more r s b = after_all-append r s (b ∷ [])

-- a reader that has refused stays so
refused_stays : (r : Reader) (t : List ℕ) → found (after_all (refusing r) t) ≡ None
unfolding after_all
refused_stays r [] = refl
refused_stays r (b ∷ t) = refused_stays r t

-- the size is kept up to `beyond`, and so it is after one digit more
kept_more : (n size d : ℕ) → size ≡ min n beyond → min (10 * size + d) beyond ≡ min (10 * n + d) beyond
kept_more n size d e = omega arith

-- a size above every operand's is no operand's
pub over : (minus : Bool) (n : ℕ) → beyond ≤ n → ranged (Some (signed minus n)) ≡ None
over true n h = rw (out_of_range (neg_ℤ (pos n)) (omega (arith, mag_negated n)))
over false n h = rw (out_of_range (pos n) (omega arith))

-- so what is found does not depend on how far the size is kept
kept_found : (minus : Bool) (n : ℕ) → ranged (Some (signed minus (min n beyond))) ≡ ranged (Some (signed minus n))
kept_found minus n = elim (dec_le n beyond) [ yes h ↦ rw (min-eq_left h) | no h ↦ over minus (min n beyond) (omega arith) ∙ sym (over minus n (omega arith)) ]

-- a number of digits with its sign
abbrev signed_of : Bool → Option ℕ → Option ℤ
signed_of true o = negative o
signed_of false o = positive o

-- no number has no sign
sign_none : (minus : Bool) → ranged (signed_of minus None) ≡ None
sign_none true = refl
sign_none false = refl

-- a number has the sign of its reader
sign_some : (minus : Bool) (n : ℕ) → ranged (signed_of minus (Some n)) ≡ ranged (Some (signed minus n))
sign_some true n = refl
sign_some false n = refl

-- a reader among digits
abbrev among : Bool → ℕ → Reader
among minus size = record { stage = Digits; negative = minus; size = size }

-- one digit more, or a byte that is none
digit_step : (digit minus : Bool) (n size size' : ℕ) (t : List ℕ)
    → found (after_all (among minus size) t) ≡ ranged (signed_of minus (digits_from n t))
    → found (after_all (cond digit (among minus size) (refusing (among minus size'))) t) ≡ ranged (signed_of minus (cond digit (digits_from n t) None))
digit_step true minus n size size' t h = h
digit_step false minus n size size' t h = refused_stays (among minus size') t ∙ sym (sign_none minus)

-- behind digits that are worth n
after-digits : (minus : Bool) (n size : ℕ) (t : List ℕ) → size ≡ min n beyond
    → found (after_all (among minus size) t) ≡ ranged (signed_of minus (digits_from n t))
unfolding after_all digits_from
after-digits minus n size [] e = rw e (kept_found minus n ∙ sym (sign_some minus n))
after-digits minus n size (b ∷ t) e =
    digit_step (is_digit b) minus (10 * n + (b - 48)) (min (10 * size + (b - 48)) beyond) size t
    (after-digits minus (10 * n + (b - 48)) (min (10 * size + (b - 48)) beyond) t (kept_more n size (b - 48) e))

-- the first digit
first_digit : (minus : Bool) (b : ℕ) (t : List ℕ)
    → found (after_all (cond (is_digit b) (among minus (min (10 * 0 + (b - 48)) beyond)) (refusing (among minus 0))) t) ≡ ranged (signed_of minus (digits_from 0 (b ∷ t)))
unfolding digits_from
first_digit minus b t = digit_step (is_digit b) minus (10 * 0 + (b - 48)) _ 0 t (after-digits minus (10 * 0 + (b - 48)) _ t refl)

-- behind a sign
after_sign_lem : (minus : Bool) (t : List ℕ) → found (after_all (after_sign new_reader minus) t) ≡ ranged (signed_of minus (one_or_more t))
unfolding after_all
after_sign_lem minus [] = sym (sign_none minus)
after_sign_lem minus (b ∷ t) = first_digit minus b t

-- the first byte: a sign or not
first_byte : (plus minus : Bool) (b : ℕ) (t : List ℕ)
    → found (after_all (cond plus (after_sign new_reader false) (cond minus (after_sign new_reader true) (after_digit new_reader b))) t)
    ≡ ranged (cond plus (positive (one_or_more t)) (cond minus (negative (one_or_more t)) (positive (one_or_more (b ∷ t)))))
first_byte true minus b t = after_sign_lem false t
first_byte false true b t = after_sign_lem true t
first_byte false false b t = first_digit false b t

-- what a new reader finds in a text is the operand that the text is
reading : (t : List ℕ) → found (after_all new_reader t) ≡ operand t
unfolding after_all operand
reading [] = refl
reading (b ∷ t) = first_byte (eqb b 43) (eqb b 45) b t

-- a new reader has taken nothing
pub took_none : Took [] new_reader
unfolding Took after_all
took_none = refl

-- the reader after one byte more has taken it too
pub took_more : (r : Reader) (b : ℕ) {after-it : Reader} → after-it ≡ after r b → (bytes : List ℕ) → Took bytes r → Took (bytes ++ (b ∷ [])) after-it
unfolding Took
took_more r b e bytes h = e ∙ ap (λ (x : Reader). after x b) h ∙ sym (after_all_more new_reader bytes b)

-- what a reader has found is the operand that its bytes are
pub took_found : (r : Reader) {x : Option ℤ} → x ≡ found r → (bytes : List ℕ) → Took bytes r → x ≡ operand bytes
unfolding Took
took_found r e bytes h = e ∙ ap found h ∙ reading bytes
