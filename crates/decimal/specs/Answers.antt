-- What the calls answer: the values of the declared types that stand for the notions of the definitions.
use Rattle.std.specs.Prelude.{ℕ, zero, suc, List, [], ◌∷◌, length, take, Result, Ok, Err, ℤ}
use Rattle.decimal.specs.declared.operations.Refusal.{Refusal}
use Rattle.decimal.specs.declared.shortest.Decimal.TheInside.{Inside}
use Rattle.decimal.specs.Shortest.{shortest}

-- the text of a decimal
abbrev pub text_in : Inside → List ℕ
text_in d = take d.len d.bytes

-- a text filled up to n bytes with zero bytes, and cut there
unfoldable pub filled : ℕ → List ℕ → List ℕ
filled zero t = []
filled (suc n) [] = 0 ∷ filled n []
filled (suc n) (b ∷ t) = b ∷ filled n t

-- a text of at most eleven bytes: zero bytes stand past its length
abbrev pub decimal_of : List ℕ → Inside
decimal_of t = record { bytes = filled 11 t; len = length t }

-- a result as its shortest decimal, or the refusal
abbrev pub answer_of : Result ℤ Refusal → Result (List ℕ) Refusal
answer_of (Ok z) = Ok (shortest z)
answer_of (Err refusal) = Err refusal
