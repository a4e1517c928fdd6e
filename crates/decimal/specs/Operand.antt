-- Document 01, Arithmetic: "An operand is an optional `+` or `-` and one or more digits, from -2147483648 to
-- 2147483647; leading zeros count for nothing."
use Rattle.std.specs.Prelude.{ℕ, ◌+◌, ◌-◌, ◌*◌, Bool, cond, ◌&&◌, List, [], ◌∷◌, eqb, leb, ℤ, pos, negsuc, neg_ℤ}
use Rattle.std.specs.Prelude.{Option, None, Some}
use Rattle.std.specs.Int.Signed.{le_z}

-- a digit is one of the bytes `0` to `9`
abbrev pub is_digit : ℕ → Bool
is_digit b = leb 48 b && leb b 57

-- what digits are worth behind digits that are worth n; none where one of them is no digit
unfoldable pub digits_from : ℕ → List ℕ → Option ℕ
digits_from n [] = Some n
digits_from n (b ∷ bs) = let r = digits_from (10 * n + (b - 48)) bs in cond (is_digit b) r None

-- "one or more digits"
abbrev pub one_or_more : List ℕ → Option ℕ
one_or_more [] = None
one_or_more (b ∷ bs) = digits_from 0 (b ∷ bs)

abbrev pub positive : Option ℕ → Option ℤ
positive None = None
positive (Some n) = Some (pos n)

abbrev pub negative : Option ℕ → Option ℤ
negative None = None
negative (Some n) = Some (neg_ℤ (pos n))

-- "an optional `+` or `-`"
abbrev pub worth : List ℕ → Option ℤ
worth [] = None
worth (b ∷ bs) = cond (eqb b 43) (positive (one_or_more bs)) (cond (eqb b 45) (negative (one_or_more bs)) (positive (one_or_more (b ∷ bs))))

-- "from -2147483648 to 2147483647"
abbrev pub smallest : ℤ
smallest = negsuc 2147483647

abbrev pub largest : ℤ
largest = pos 2147483647

abbrev pub in_range : ℤ → Bool
in_range z = le_z smallest z && le_z z largest

abbrev pub ranged : Option ℤ → Option ℤ
ranged None = None
ranged (Some z) = cond (in_range z) (Some z) None

-- the number that a text is, if it is an operand
unfoldable pub operand : List ℕ → Option ℤ
operand t = ranged (worth t)
