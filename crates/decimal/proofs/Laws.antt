-- Laws of the definitions, for whoever works with decimals: a shortest decimal reads back as its number, has at most eleven
-- bytes, no leading zero and no byte but digits and a minus sign, and no text of that number is shorter; every result is in range.
use Prim.Native.Nat.{ℕ, zero, suc, ◌+◌, ◌-◌, ◌*◌, ◌/◌, ◌%◌, ◌^◌, ◌≤◌, ◌<◌}
use mathlib.Core.Path.{◌≡◌, refl, sym, ap, ◌∙◌}
use mathlib.Core.Logic.{inl, inr}
use mathlib.Core.Bool.{Bool, true, false, cond, ◌&&◌}
use mathlib.Core.List.{List, [], ◌∷◌}
use Rattle.std.specs.Prelude.{Option, None, Some, Ok, Err}
use native.Mathlib.Omega.{arith}
use native.Mathlib.Nat.{pow-suc, mul-le-mul_right}
use borrow.Author.Tests.{ne_eqb, leb-true}
use lib.Dec.{T, eqb, leb}
use lib.IntN.{ℤ, pos, negsuc}
use lib.Signed.{mag}
use lib.ListN.{length, take, get_or, get_or-append}
use lib.Ieee.Fits.{and_r}
use Rattle.decimal.proofs.Ranges.{true_of, holds, range_fits}
use Rattle.decimal.proofs.Digits.{by_digits, digits_small, digits_step, digits_some, digits-count, reads_back}
use Rattle.decimal.proofs.Texts.{filled_text}
use Rattle.decimal.proofs.Bytes.{Each, Digit, OfDecimal, Unmarked, each_append, each_weaken}
use Rattle.decimal.specs.declared.operations.Operation.{Operation}
use Rattle.decimal.specs.declared.operations.Refusal.{Refusal}
use Rattle.decimal.specs.declared.operations.Refusal.TheVariants.{DivisorZero, ResultOutOfRange}
use Rattle.decimal.specs.Operand.{is_digit, digits_from, one_or_more, positive, negative, worth, in_range, operand}
use Rattle.decimal.specs.Operand.{ranged as rangedOperand}
use Rattle.decimal.specs.Shortest.{digits_of, digits, shortest}
use Rattle.decimal.specs.Answers.{decimal_of}
use Rattle.decimal.specs.Arithmetic.{divides, is_zero, exact, ranged, of_operands, calculated}

-- nothing is no number
pub none_some : {A : Type 0} {a : A} → None ≡ Some a → ⊥
none_some e = let q : ◌≡◌ {A = ℕ} 0 1 = cc in omega arith

-- every byte of the digits is a digit
pub digits_bytes : (n : ℕ) → Each Digit (digits n)
digits_bytes = by_digits (λ n. Each Digit (digits n))
    (λ n h. rw (digits_small n h) ((omega arith, omega arith), tt))
    (λ n h k. rw (digits_step n h) (each_append Digit (digits (n / 10)) ((48 + n % 10) ∷ []) k ((omega arith, omega arith), tt)))

-- every byte of a shortest decimal is a minus sign or a digit
pub shortest_bytes : (z : ℤ) → Each OfDecimal (shortest z)
shortest_bytes (pos n) = each_weaken Digit OfDecimal (digits n) (λ b h. inr h) (digits_bytes n)
shortest_bytes (negsuc n) = (inl refl, each_weaken Digit OfDecimal (digits (suc n)) (λ b h. inr h) (digits_bytes (suc n)))

-- a byte of a decimal is no sign of the macrogenerator
no_mark : (b : ℕ) → OfDecimal b → Unmarked b
no_mark b (inl e) = omega arith
no_mark b (inr h) = omega arith

-- no sign of the macrogenerator stands in a shortest decimal
pub shortest_unmarked : (z : ℤ) → Each Unmarked (shortest z)
shortest_unmarked z = each_weaken OfDecimal Unmarked (shortest z) no_mark (shortest_bytes z)

-- a text of digits has no sign
unsigned : (t : List ℕ) → Each Digit t → worth t ≡ positive (one_or_more t)
unsigned [] h = refl
unsigned (b ∷ t) h = rw (ne_eqb b 43 (omega arith), ne_eqb b 45 (omega arith))

-- what a shortest decimal is worth
pub shortest-worth : (z : ℤ) → worth (shortest z) ≡ Some z
shortest-worth (pos n) = rw (unsigned (digits n) (digits_bytes n), reads_back n)
shortest-worth (negsuc n) = rw (reads_back (suc n))

-- round trip: the shortest decimal of a number in range is an operand, and it is that number
pub round_trip : (z : ℤ) → T (in_range z) → operand (shortest z) ≡ Some z
unfolding operand
round_trip z h = rw (shortest-worth z, true_of (in_range z) h)

-- the shortest decimal of a number in range has at most eleven bytes
pub at_most_eleven : (z : ℤ) → T (in_range z) → length (shortest z) ≤ 11
at_most_eleven z h = go z (range_fits z (true_of (in_range z) h)).sfits
  where
    go : (y : ℤ) → mag y < 2147483648 → length (shortest y) ≤ 11
    go (pos n) k = omega (arith, digits-count 9 n (omega arith))
    go (negsuc n) k = omega (arith, digits-count 9 (suc n) (omega arith))

-- so a decimal of its eleven bytes holds all of it
pub decimal_text : (z : ℤ) → T (in_range z) → take (decimal_of (shortest z)).len (decimal_of (shortest z)).bytes ≡ shortest z
decimal_text z h = filled_text 11 (shortest z) (at_most_eleven z h)

-- no leading zero: a zero stands first only if it stands alone
pub no_leading_zero : (n : ℕ) → get_or (digits n) 0 0 ≡ 48 → digits n ≡ 48 ∷ []
unfolding digits_of
no_leading_zero = by_digits (λ n. get_or (digits n) 0 0 ≡ 48 → digits n ≡ 48 ∷ [])
    (λ n h e. let z : 48 + n ≡ 48 = ap (λ t. get_or t 0 0) (sym (digits_small n h)) ∙ e in rw (digits_small n h, z))
    (λ n h k e.
    let first : get_or (digits (n / 10)) 0 0 ≡ 48 = sym (get_or-append (digits (n / 10)) _ 0 0 (digits_some (n / 10))) ∙ ap (λ t. get_or t 0 0) (sym (digits_step n h)) ∙ e in
    let same : Some (n / 10) ≡ Some 0 = sym (reads_back (n / 10)) ∙ ap one_or_more (k first) ∙ reads_back 0 in
    let none_left : n / 10 ≡ 0 = cc in
    absurd (omega arith))

-- digits behind digits that are worth m are worth less than m and one more, shifted by their count
worth_below : (m : ℕ) (t : List ℕ) (n : ℕ) → digits_from m t ≡ Some n → n < (m + 1) * 10 ^ length t
unfolding digits_from
worth_below m [] n e = let q : m ≡ n = cc in omega arith
worth_below m (b ∷ t) n e = go (is_digit b) refl e (worth_below (10 * m + (b - 48)) t n)
  where
    go : (digit : Bool) → is_digit b ≡ digit → cond digit (digits_from (10 * m + (b - 48)) t) None ≡ Some n
        → (digits_from (10 * m + (b - 48)) t ≡ Some n → n < (10 * m + (b - 48) + 1) * 10 ^ length t) → n < (m + 1) * 10 ^ suc (length t)
    go true d q h =
        let k : b ≤ 57 = leb-true b 57 (true_of (leb b 57) (and_r (leb 48 b) (leb b 57) (holds d))) in
        let l : 10 * m + (b - 48) + 1 ≤ 10 * (m + 1) = omega arith in
        rw pow-suc (omega (arith, h q, mul-le-mul_right (10 ^ length t) l))
    go false d q h = absurd (none_some q)

-- so the digits of what a text of digits is worth are no longer than the text
digits_least : (t : List ℕ) (n : ℕ) → one_or_more t ≡ Some n → length (digits n) ≤ length t
digits_least [] n e = absurd (none_some e)
digits_least (b ∷ t) n e = digits-count (length t) n (omega (arith, worth_below 0 (b ∷ t) n e))

-- behind no sign or a plus sign
positive_least : (t : List ℕ) (o : Option ℕ) (z : ℤ) → one_or_more t ≡ o → positive o ≡ Some z → length (shortest z) ≤ length t
positive_least t None z d e = absurd (none_some e)
positive_least t (Some n) z d e = let q : pos n ≡ z = cc in rw (← q) (digits_least t n d)

-- behind a minus sign
negative_least : (t : List ℕ) (o : Option ℕ) (z : ℤ) → one_or_more t ≡ o → negative o ≡ Some z → length (shortest z) ≤ suc (length t)
negative_least t None z d e = absurd (none_some e)
negative_least t (Some zero) z d e = let q : pos 0 ≡ z = cc in rw (← q) (omega (arith, digits_least t 0 d))
negative_least t (Some (suc n)) z d e = let q : negsuc n ≡ z = cc in rw (← q) (omega (arith, digits_least t (suc n) d))

-- no text that is worth a number is shorter than its shortest decimal
pub worth_least : (t : List ℕ) (z : ℤ) → worth t ≡ Some z → length (shortest z) ≤ length t
worth_least [] z e = absurd (none_some e)
worth_least (b ∷ t) z e = go (eqb b 43) (eqb b 45) e
  where
    go : (plus minus : Bool) → cond plus (positive (one_or_more t)) (cond minus (negative (one_or_more t)) (positive (one_or_more (b ∷ t)))) ≡ Some z → length (shortest z) ≤ suc (length t)
    go true minus q = omega (arith, positive_least t (one_or_more t) z refl q)
    go false true q = negative_least t (one_or_more t) z refl q
    go false false q = positive_least (b ∷ t) (one_or_more (b ∷ t)) z refl q

-- an operand is worth its number
operand-worth : (o : Option ℤ) (z : ℤ) → rangedOperand o ≡ Some z → o ≡ Some z
operand-worth None z e = e
operand-worth (Some x) z e = go (in_range x) e
  where
    go : (t : Bool) → cond t (Some x) None ≡ Some z → Some x ≡ Some z
    go true q = q
    go false q = absurd (none_some q)

-- no operand of a number is shorter than its shortest decimal
pub operand_least : (t : List ℕ) (z : ℤ) → operand t ≡ Some z → length (shortest z) ≤ length t
unfolding operand
operand_least t z e = worth_least t z (operand-worth (worth t) z e)

-- a refusal is no number
pub no_number : (refusal : Refusal) (z : ℤ) → Err refusal ≡ Ok z → ⊥
no_number refusal z e = let q : ◌≡◌ {A = ℕ} 0 1 = cc in omega arith

-- a number that is ranged is in range
ranged_in : (t : Bool) (x z : ℤ) → in_range x ≡ t → cond t (Ok x) (Err ResultOutOfRange) ≡ Ok z → T (in_range z)
ranged_in true x z h e = let q : x ≡ z = cc in rw (← q) (holds h)
ranged_in false x z h e = absurd (no_number _ z e)

-- and so is a result of two numbers
numbers_in : (zero : Bool) (x z : ℤ) → cond zero (Err DivisorZero) (ranged x) ≡ Ok z → T (in_range z)
numbers_in true x z e = absurd (no_number _ z e)
numbers_in false x z e = ranged_in (in_range x) x z refl e

-- and of two operands
operands_in : (op : Operation) (a b : Option ℤ) (z : ℤ) → of_operands op a b ≡ Ok z → T (in_range z)
operands_in op None b z e = absurd (no_number _ z e)
operands_in op (Some a) None z e = absurd (no_number _ z e)
operands_in op (Some a) (Some b) z e = numbers_in (divides op && is_zero b) (exact op a b) z e

-- every result is in range
pub result_in_range : (op : Operation) (first second : List ℕ) (z : ℤ) → calculated op first second ≡ Ok z → T (in_range z)
result_in_range op first second z e = operands_in op (operand first) (operand second) z e
