-- Examples of document 01, Arithmetic, and of document 02, Seven, computed: each case is an operation, two operands, and the outcome and bytes that answer it.
use Prim.Native.Nat.{ℕ}
use mathlib.Core.Path.{◌≡◌, refl}
use mathlib.Core.Bool.{Bool, true, false, cond, ◌&&◌}
use mathlib.Core.List.{List, [], ◌∷◌, ◌++◌}
use lib.Dec.{eqb}
use lib.IntN.{ℤ}
use lib.ListN.{replicate}
use Rattle.std.specs.Prelude.{Result, Ok, Err}
use Rattle.decimal.specs.declared.operations.Operation.{Operation}
use Rattle.decimal.specs.declared.operations.Operation.TheVariants.{Sum, Difference, Product, Quotient, Remainder}
use Rattle.decimal.specs.declared.operations.Refusal.{Refusal}
use Rattle.decimal.specs.Refusals.{number_of}
use Rattle.decimal.specs.Operand.{digits_from, operand}
use Rattle.decimal.specs.Shortest.{digits_of, shortest}
use Rattle.decimal.specs.Arithmetic.{calculated}

-- one case
record Case : Type 0 where
  operation : Operation
  first : List ℕ
  second : List ℕ
  outcome : ℕ
  text : List ℕ

-- the outcome of a result
outcome_of : Result ℤ Refusal → ℕ
outcome_of (Ok z) = 0
outcome_of (Err refusal) = number_of refusal

-- the text of a result
text_of : Result ℤ Refusal → List ℕ
text_of (Ok z) = shortest z
text_of (Err refusal) = []

-- two texts are the same
same : List ℕ → List ℕ → Bool
same [] [] = true
same [] (b ∷ t) = false
same (a ∷ s) [] = false
same (a ∷ s) (b ∷ t) = eqb a b && same s t

-- a case is answered as it says
right? : Case → Bool
right? c = let r = calculated c.operation c.first c.second in eqb (outcome_of r) c.outcome && same (text_of r) c.text

-- the cases that are answered otherwise
failing : List Case → List Case
failing [] = []
failing (c ∷ cs) = cond (right? c) (failing cs) (c ∷ failing cs)

-- a case with a number, by its text
gives : Operation → List ℕ → List ℕ → List ℕ → Case
gives op first second text = record { operation = op; first = first; second = second; outcome = 0; text = text }

-- a case that is refused
refuses : Operation → List ℕ → List ℕ → ℕ → Case
refuses op first second outcome = record { operation = op; first = first; second = second; outcome = outcome; text = [] }

-- 2147483648
above : List ℕ
above = 50 ∷ 49 ∷ 52 ∷ 55 ∷ 52 ∷ 56 ∷ 51 ∷ 54 ∷ 52 ∷ 56 ∷ []

-- -2147483648
smallest : List ℕ
smallest = 45 ∷ above

-- -2147483649
below : List ℕ
below = 45 ∷ 50 ∷ 49 ∷ 52 ∷ 55 ∷ 52 ∷ 56 ∷ 51 ∷ 54 ∷ 52 ∷ 57 ∷ []

-- 2147483647
largest : List ℕ
largest = 50 ∷ 49 ∷ 52 ∷ 55 ∷ 52 ∷ 56 ∷ 51 ∷ 54 ∷ 52 ∷ 55 ∷ []

-- thirty zeros and then 7
zeros : List ℕ
zeros = replicate 30 48 ++ (55 ∷ [])

-- the cases
cases : List Case
cases =
    -- 3 - 5 is -2
    gives Difference (51 ∷ []) (53 ∷ []) (45 ∷ 50 ∷ []) ∷
    -- Quot of -7 by 2 is -4, by -2 it is 4
    gives Quotient (45 ∷ 55 ∷ []) (50 ∷ []) (45 ∷ 52 ∷ []) ∷
    gives Quotient (45 ∷ 55 ∷ []) (45 ∷ 50 ∷ []) (52 ∷ []) ∷
    -- Rem of -7 by 2 and by -2 is 1
    gives Remainder (45 ∷ 55 ∷ []) (50 ∷ []) (49 ∷ []) ∷
    gives Remainder (45 ∷ 55 ∷ []) (45 ∷ 50 ∷ []) (49 ∷ []) ∷
    -- Quot of 7 by -2 is -3 and Rem is 1
    gives Quotient (55 ∷ []) (45 ∷ 50 ∷ []) (45 ∷ 51 ∷ []) ∷
    gives Remainder (55 ∷ []) (45 ∷ 50 ∷ []) (49 ∷ []) ∷
    -- up from entry 0 of an eight-entry menu: Rem of -1 by 8 is 7, Quot is -1
    gives Remainder (45 ∷ 49 ∷ []) (56 ∷ []) (55 ∷ []) ∷
    gives Quotient (45 ∷ 49 ∷ []) (56 ∷ []) (45 ∷ 49 ∷ []) ∷
    -- Quot of -8 by 8 is -1 and Rem is 0: no step
    gives Quotient (45 ∷ 56 ∷ []) (56 ∷ []) (45 ∷ 49 ∷ []) ∷
    gives Remainder (45 ∷ 56 ∷ []) (56 ∷ []) (48 ∷ []) ∷
    -- Quot of -1 by -2147483648 is 1 and Rem is 2147483647
    gives Quotient (45 ∷ 49 ∷ []) smallest (49 ∷ []) ∷
    gives Remainder (45 ∷ 49 ∷ []) smallest largest ∷
    -- Quot of -2147483648 by 1 is itself, by 2147483647 it is -2, and Rem of these is 2147483646
    gives Quotient smallest (49 ∷ []) smallest ∷
    gives Quotient smallest largest (45 ∷ 50 ∷ []) ∷
    gives Remainder smallest largest (50 ∷ 49 ∷ 52 ∷ 55 ∷ 52 ∷ 56 ∷ 51 ∷ 54 ∷ 52 ∷ 54 ∷ []) ∷
    -- Quot of -2147483648 by -1 is out of range
    refuses Quotient smallest (45 ∷ 49 ∷ []) 24 ∷
    -- Rem of -2147483648 by -1 is 0
    gives Remainder smallest (45 ∷ 49 ∷ []) (48 ∷ []) ∷
    -- Quot of 1 by 0 has a divisor zero
    refuses Quotient (49 ∷ []) (48 ∷ []) 23 ∷
    -- a plus sign alone is no number
    refuses Sum (43 ∷ []) (49 ∷ []) 22 ∷
    -- the empty text is no number
    refuses Sum [] (49 ∷ []) 22 ∷
    -- 2147483648 is no number in range
    refuses Sum above (48 ∷ []) 22 ∷
    -- -2147483648 is: -2147483648 + 0 is -2147483648
    gives Sum smallest (48 ∷ []) smallest ∷
    -- thirty zeros and then 7, plus 1, is 8
    gives Sum zeros (49 ∷ []) (56 ∷ []) ∷
    -- 2147483647 + 1 is out of range
    refuses Sum largest (49 ∷ []) 24 ∷
    -- 65536 * -32768 is -2147483648
    gives Product (54 ∷ 53 ∷ 53 ∷ 51 ∷ 54 ∷ []) (45 ∷ 51 ∷ 50 ∷ 55 ∷ 54 ∷ 56 ∷ []) smallest ∷
    -- 65536 * 32768 is out of range
    refuses Product (54 ∷ 53 ∷ 53 ∷ 51 ∷ 54 ∷ []) (51 ∷ 50 ∷ 55 ∷ 54 ∷ 56 ∷ []) 24 ∷
    -- -0 + +0 is 0, without a sign
    gives Sum (45 ∷ 48 ∷ []) (43 ∷ 48 ∷ []) (48 ∷ []) ∷
    -- Quot of the empty text by 0: the first operand is refused before the divisor
    refuses Quotient [] (48 ∷ []) 22 ∷
    -- Rem of 1 by 0x: the second operand is no number
    refuses Remainder (49 ∷ []) (48 ∷ 120 ∷ []) 22 ∷
    -- +2 + 1 is 3
    gives Sum (43 ∷ 50 ∷ []) (49 ∷ []) (51 ∷ []) ∷
    -- 4 + 5 is 9, and 5 + 5 is 10
    gives Sum (52 ∷ []) (53 ∷ []) (57 ∷ []) ∷
    gives Sum (53 ∷ []) (53 ∷ []) (49 ∷ 48 ∷ []) ∷
    -- 1 - 0 is 1 and 1 * 0 is 0: no divisor
    gives Difference (49 ∷ []) (48 ∷ []) (49 ∷ []) ∷
    gives Product (49 ∷ []) (48 ∷ []) (48 ∷ []) ∷
    -- two signs are no number, nor are a space and a digit
    refuses Sum (43 ∷ 43 ∷ 49 ∷ []) (49 ∷ []) 22 ∷
    refuses Sum (32 ∷ 49 ∷ []) (49 ∷ []) 22 ∷
    -- -2147483649 is no number in range
    refuses Sum below (48 ∷ []) 22 ∷
    -- -2147483648 - 1 is out of range
    refuses Difference smallest (49 ∷ []) 24 ∷
    -- Rem of 1 by 0 has a divisor zero
    refuses Remainder (49 ∷ []) (48 ∷ []) 23 ∷
    []

-- every case is answered as it says
examples : failing cases ≡ []
unfolding outcome_of text_of same right? failing gives refuses above below smallest largest zeros cases digits_from operand digits_of
examples = refl
