-- Document 01, What a run reports: each number of the table, by name; and those of document 02.
use Rattle.std.specs.Prelude.{ℕ, Bool, ◌&&◌, ◌||◌, eqb, leb}
use Rattle.decimal.specs.Refusals.{not_a_number, divisor_zero, result_out_of_range}
use Rattle.decimal.specs.declared.operations.Refusal.{Refusal}
use Rattle.decimal.specs.declared.operations.Refusal.TheVariants as Arithmetical
use Rattle.language.specs.declared.outcomes.Outcome.{Outcome}
use Rattle.language.specs.declared.outcomes.Outcome.TheVariants.{Finished, FinishedAtQuote, TooLarge, NoScansLeft, NoCellsLeft, NoOutputLeft, AppliesNothing, ParameterInText, FetchesNothing, NotSupplied, BodyInCall, NotDefined, QuoteInCall, TextInQuotes, TextInCall, BuiltIn, BodyBeingRead, UpdateTooLong, NotANumber, DivisorZero, ResultOutOfRange, NotATable, SignNotOneByte, ReservedSign, EmptyName, NoScript, NumbersTooShort, Locked}

abbrev pub finished : ℕ
finished = 0

abbrev pub finished_at_quote : ℕ
finished_at_quote = 1

abbrev pub too_large : ℕ
too_large = 2

abbrev pub no_scans_left : ℕ
no_scans_left = 3

abbrev pub no_cells_left : ℕ
no_cells_left = 4

abbrev pub no_output_left : ℕ
no_output_left = 5

abbrev pub applies_nothing : ℕ
applies_nothing = 10

abbrev pub parameter_in_text : ℕ
parameter_in_text = 11

abbrev pub fetches_nothing : ℕ
fetches_nothing = 12

abbrev pub not_supplied : ℕ
not_supplied = 13

abbrev pub body_in_call : ℕ
body_in_call = 14

abbrev pub not_defined : ℕ
not_defined = 15

abbrev pub quote_in_call : ℕ
quote_in_call = 16

abbrev pub text_in_quotes : ℕ
text_in_quotes = 17

abbrev pub text_in_call : ℕ
text_in_call = 18

abbrev pub built_in : ℕ
built_in = 19

abbrev pub body_being_read : ℕ
body_being_read = 20

abbrev pub update_too_long : ℕ
update_too_long = 21

-- 22 to 24 are the arithmetic's: not_a_number, divisor_zero and result_out_of_range of crate decimal.

-- Document 02, Two: refusals of a call
abbrev pub not_a_table : ℕ
not_a_table = 30

abbrev pub sign_not_one_byte : ℕ
sign_not_one_byte = 31

abbrev pub reserved_sign : ℕ
reserved_sign = 32

-- Document 02, Five: a fault of the text
abbrev pub empty_name : ℕ
empty_name = 33

-- Document 02, Six: "34 for none", a refusal of a call
abbrev pub no_script : ℕ
no_script = 34

-- Document 02, Eight: a refusal of a call
abbrev pub numbers_too_short : ℕ
numbers_too_short = 35

-- Document 02, Nine: "36, a fault of the text, for UPDATE of a locked definition"
abbrev pub locked : ℕ
locked = 36

-- the number of an outcome of the code
abbrev pub number_of : Outcome → ℕ
number_of Finished = finished
number_of FinishedAtQuote = finished_at_quote
number_of TooLarge = too_large
number_of NoScansLeft = no_scans_left
number_of NoCellsLeft = no_cells_left
number_of NoOutputLeft = no_output_left
number_of AppliesNothing = applies_nothing
number_of ParameterInText = parameter_in_text
number_of FetchesNothing = fetches_nothing
number_of NotSupplied = not_supplied
number_of BodyInCall = body_in_call
number_of NotDefined = not_defined
number_of QuoteInCall = quote_in_call
number_of TextInQuotes = text_in_quotes
number_of TextInCall = text_in_call
number_of BuiltIn = built_in
number_of BodyBeingRead = body_being_read
number_of UpdateTooLong = update_too_long
number_of NotANumber = not_a_number
number_of DivisorZero = divisor_zero
number_of ResultOutOfRange = result_out_of_range
number_of NotATable = not_a_table
number_of SignNotOneByte = sign_not_one_byte
number_of ReservedSign = reserved_sign
number_of EmptyName = empty_name
number_of NoScript = no_script
number_of NumbersTooShort = numbers_too_short
number_of Locked = locked

-- the refusals of the arithmetic are outcomes of a run
abbrev pub outcome_of : Refusal → Outcome
outcome_of Arithmetical.NotANumber = NotANumber
outcome_of Arithmetical.DivisorZero = DivisorZero
outcome_of Arithmetical.ResultOutOfRange = ResultOutOfRange

-- "A run finishes with 0 or 1"
abbrev pub finishes : ℕ → Bool
finishes n = eqb n finished || eqb n finished_at_quote

-- "a fault of the text is an outcome from 10 to 24"; document 02: "10 to 24 .. take in each number so called"
abbrev pub fault_of_text : ℕ → Bool
fault_of_text n = (leb 10 n && leb n 24) || eqb n empty_name || eqb n locked

-- the ends that substitution has: the run finishes or meets a fault of the text
abbrev pub end_of_text : ℕ → Bool
end_of_text n = finishes n || fault_of_text n
