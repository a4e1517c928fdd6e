-- Document 01, Arithmetic: "Results are the shortest decimal, at most eleven bytes, zero without a sign."
use Rattle.std.specs.Prelude.{ℕ, zero, suc, ◌+◌, ◌/◌, ◌%◌, true, false, List, [], ◌∷◌, ◌++◌, ltb, ℤ, pos, negsuc}

-- the digits of n without a leading zero, where n has at most `more` digits before its last one
unfoldable pub digits_of : ℕ → ℕ → List ℕ
digits_of zero n = (48 + n % 10) ∷ []
digits_of (suc more) n = elim (ltb n 10) [ true ↦ (48 + n) ∷ [] | false ↦ digits_of more (n / 10) ++ ((48 + n % 10) ∷ []) ]

-- a number has no more digits before its last one than it is large
abbrev pub digits : ℕ → List ℕ
digits n = digits_of n n

-- the shortest decimal of an integer
abbrev pub shortest : ℤ → List ℕ
shortest (pos n) = digits n
shortest (negsuc n) = 45 ∷ digits (suc n)
