-- What a call is refused for before its first scan, and document 02, Two: the checks of a table that a caller lends.
use Rattle.std.specs.Prelude.{ℕ, zero, suc, ◌+◌, ◌≡◌, Bool, true, false, cond, ◌&&◌, ◌||◌, not, List, [], ◌∷◌, length, get_or, eqb, leb, ltb}
use Rattle.std.specs.Prelude.{Option, None, Some, Result, Ok, Err}
use Rattle.decimal.specs.Operand.{is_digit}
use Rattle.language.specs.Signs.{Table, is_letter, text_limit, cells_limit, output_limit}
use Rattle.language.specs.Outcomes
use Rattle.language.specs.declared.outcomes.Outcome.{Outcome}

-- an outcome that a call has before its first scan, and whether it holds
pub record Refusal : Type 0 where
  pub outcome : ℕ
  pub holds : Bool

-- the first that holds
unfoldable pub refused_by : List Refusal → Option ℕ
refused_by [] = None
refused_by (x ∷ more) = let r = refused_by more in cond x.holds (Some x.outcome) r

-- Document 01: "text, cells and output may each be lent up to 65,536 long"
abbrev pub sizes_too_large : ℕ → ℕ → ℕ → Bool
sizes_too_large text cells output = ltb text_limit text || (ltb cells_limit cells || ltb output_limit output)

-- The checks of a table -------------------------------------------------------------------------------------------------

-- whether a test holds of a number below n
unfoldable pub some_below : ℕ → (ℕ → Bool) → Bool
some_below zero test = false
some_below (suc n) test = let r = some_below n test in cond (test n) true r

-- of how many numbers below n a test holds
unfoldable pub count_below : ℕ → (ℕ → Bool) → ℕ
count_below zero test = 0
count_below (suc n) test = let r = count_below n test in cond (test n) (suc r) r

-- "each byte's entry from 0 to 6"
abbrev pub is_above : Table → ℕ → Bool
is_above T b = ltb 6 (get_or T b 0)

-- "30 where the table is not 256 bytes long or an entry is above 6"
abbrev pub not_a_table : Table → Bool
not_a_table T = let above = some_below 256 (is_above T) in cond (eqb (length T) 256) above true

-- whether a byte has a kind
abbrev pub has_kind : Table → ℕ → ℕ → Bool
has_kind T kind b = eqb (get_or T b 0) kind

-- "31 where one of the six signs has no byte or several": their kinds are 1 to 6
abbrev pub not_one_byte : Table → ℕ → Bool
not_one_byte T kind = not (eqb (count_below 256 (has_kind T kind)) 1)

abbrev pub sign_not_one_byte : Table → Bool
sign_not_one_byte T = some_below 6 (λ k. not_one_byte T (k + 1))

-- the other ASCII letters, beside those after `~`
abbrev pub is_capital : ℕ → Bool
is_capital b = leb 65 b && leb b 90

-- "an ASCII letter, a digit, `+`, `-` or `*`"
abbrev pub is_reserved : ℕ → Bool
is_reserved b = is_letter b || (is_capital b || (is_digit b || (eqb b 43 || (eqb b 45 || eqb b 42))))

-- "32 where an ASCII letter, a digit, `+`, `-` or `*` is a sign"
abbrev pub is_reserved_sign : Table → ℕ → Bool
is_reserved_sign T b = is_reserved b && not (has_kind T 0 b)

abbrev pub reserved_sign : Table → Bool
reserved_sign T = some_below 256 (is_reserved_sign T)

-- "30 .., then 31 .., then 32 .."
abbrev pub sign_refusals : Table → List Refusal
sign_refusals T =
    record { outcome = Outcomes.not_a_table; holds = not_a_table T } ∷
    record { outcome = Outcomes.sign_not_one_byte; holds = sign_not_one_byte T } ∷
    record { outcome = Outcomes.reserved_sign; holds = reserved_sign T } ∷
    []

-- a call that expands a text: "all three after 2"
abbrev pub lent_refusals : ℕ → ℕ → ℕ → Table → List Refusal
lent_refusals text cells output T = record { outcome = Outcomes.too_large; holds = sizes_too_large text cells output } ∷ sign_refusals T

-- a table that takes the place of the standard one
abbrev pub AcceptedTable : Table → Type 0
AcceptedTable T = refused_by (sign_refusals T) ≡ None

-- what a call of the code comes to by its checks: no refusal, or the number of one
abbrev pub refusal_in : {T : Type 0} → Result T Outcome → Option ℕ
refusal_in (Ok x) = None
refusal_in (Err outcome) = Some (Outcomes.number_of outcome)
