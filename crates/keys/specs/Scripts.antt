-- Document 02, Six: a script for given keys.
use Rattle.std.specs.Prelude.{ℕ, zero, suc, ◌+◌, ◌*◌, ◌≤◌, ◌≡◌, Bool, true, false, cond, ◌||◌, not, List, [], ◌∷◌, ◌++◌, ◌↔◌, length, take, eqb, ltb}
use Rattle.std.specs.Prelude.{Option, None, Some, Result, Ok, Err}
use Rattle.language.specs.declared.outcomes.Outcome.{Outcome}
use Rattle.language.specs.Signs.{Bytes, Table, language, output_limit}
use Rattle.language.specs.Outcomes
use Rattle.language.specs.Outcomes.{finishes}
use Rattle.language.specs.Refusals.{Refusal, refused_by, has_kind, sign_refusals}
use Rattle.language.specs.Definitions.{Definition}
use Rattle.language.specs.BuiltIns.{built_ins}
use Rattle.language.specs.Charge.{definitions_price}
use Rattle.language.specs.Ends.{End, Reported}
use Rattle.language.specs.Scanning.{no_limits, run}
use Rattle.language.specs.Matched.{depth_after}
use Rattle.language.specs.Octets.{Octets}
use Rattle.language.specs.Expansion.{Lent, overwritten}

-- "The call takes wanted bytes, up to 65,534, and an output": and the table of kinds of "the signs in force"
pub record Asked : Type 0 where
  pub table : Table
  pub wanted : Bytes
  pub output : Bytes

abbrev pub asked : Table → Bytes → Bytes → Asked
asked T wanted output = record { table = T; wanted = wanted; output = output }

-- "The call reports its outcome .. and the script's length": and what it leaves in the output
pub record Answered : Type 0 where
  pub outcome : ℕ
  pub length : ℕ
  pub output : Bytes

-- what the code gives back, the script's length or a refusal, and the final content of the output
abbrev pub answered_in : Result ℕ Outcome → Bytes → Answered
answered_in (Ok length) output = record { outcome = Outcomes.finished; length = length; output = output }
answered_in (Err outcome) output = record { outcome = Outcomes.number_of outcome; length = 0; output = output }

-- The script -----------------------------------------------------------------------------------------------------------

-- the last number below n of which a test holds, and 0 where there is none
unfoldable pub last_below : ℕ → (ℕ → Bool) → ℕ
last_below zero test = 0
last_below (suc n) test = let r = last_below n test in cond (test n) n r

-- the byte of a kind: an accepted table has one for each sign, and no other
abbrev pub byte_of : Table → ℕ → ℕ
byte_of T kind = last_below 256 (has_kind T kind)

-- the kinds of `<` and `>`
abbrev pub quote_kind : ℕ
quote_kind = 5

abbrev pub unquote_kind : ℕ
unquote_kind = 6

-- "That script is the wanted bytes inside one pair of quotes."
abbrev pub script : Table → Bytes → Bytes
script T wanted = byte_of T quote_kind ∷ (wanted ++ (byte_of T unquote_kind ∷ []))

-- Its checks -----------------------------------------------------------------------------------------------------------

-- "wanted bytes, up to 65,534": with its quotes the longest script is the longest text
abbrev pub wanted_limit : ℕ
wanted_limit = 65534

-- "2 for wanted bytes over 65,534 or output over 65,536"
abbrev pub too_long : ℕ → ℕ → Bool
too_long wanted output = ltb wanted_limit wanted || ltb output_limit output

-- whether nothing is left open, where no unquote came too early
abbrev pub closed : Option ℕ → Bool
closed None = false
closed (Some q) = eqb q 0

-- whether the quotes among the bytes are matched
abbrev pub matched : Table → Bytes → Bool
matched T bs = closed (depth_after T 0 bs)

-- "Checks: 2 .., then the sign checks",
abbrev pub lent_refusals : Asked → List Refusal
lent_refusals g = record { outcome = Outcomes.too_large; holds = too_long (length g.wanted) (length g.output) } ∷ sign_refusals g.table

-- "then 34 for none, then 5 for an output shorter than the script": that none is where quotes are not matched is shown
abbrev pub script_refusals : Asked → List Refusal
script_refusals g =
    record { outcome = Outcomes.no_script; holds = not (matched g.table g.wanted) } ∷
    record { outcome = Outcomes.no_output_left; holds = ltb (length g.output) (length (script g.table g.wanted)) } ∷
    []

abbrev pub refusals : Asked → List Refusal
refusals g = lent_refusals g ++ script_refusals g

-- "its outcome, 0 when the script is written, and the script's length, 0 if refused"; "after each the output is untouched"
abbrev pub answered_by : Option ℕ → Asked → Answered
answered_by (Some outcome) g = record { outcome = outcome; length = 0; output = g.output }
answered_by None g =
    let t = script g.table g.wanted in
    record { outcome = Outcomes.finished; length = length t; output = overwritten t g.output }

unfoldable pub answered : Asked → Answered
answered g = answered_by (refused_by (refusals g)) g

-- What is promised of it -----------------------------------------------------------------------------------------------

-- The end of a script for wanted bytes, from any definitions: outcome 0 and the wanted bytes. It counts as many bytes of
-- output, three scans more, and no cells but for what the definitions are charged before the first scan.
abbrev pub script_end : Bytes → List Definition → End
script_end wanted ds = record {
  outcome = Outcomes.finished;
  output = wanted;
  read = length wanted + 2;
  scans = length wanted + 3;
  most = definitions_price ds;
  definitions = ds;
}

-- What `expand` needs to be lent for it, and no cells,
pub record ScriptFits (wanted : Bytes) (lent : Lent) (allowance : ℕ) : Type 0 where
  pub output : length wanted ≤ length lent.output
  pub scans : length wanted + 3 ≤ allowance

-- and what it then reports
abbrev pub script_report : Bytes → Reported
script_report wanted = record { outcome = Outcomes.finished; read = length wanted + 2; written = length wanted; scans = length wanted + 3; most = 0; live = 0 }

-- A text that finishes, with 0 or 1, and has these bytes as its output, with no limits of cells and output and some allowance.
pub record FinishesWith (T : Table) (t wanted : Bytes) : Type 0 where
  pub allowance : ℕ
  pub finishes : finishes (run no_limits (language T) allowance t built_ins).outcome ≡ true
  pub output : (run no_limits (language T) allowance t built_ins).output ≡ wanted

-- "no script of any length finishes with those bytes as its output"
abbrev pub NoScript : Table → Bytes → Type 0
NoScript T wanted = (t : Bytes) → Octets t → FinishesWith T t wanted → ⊥

-- What is promised of an answer beside what it is.
pub record Promised (g : Asked) (x : Answered) : Type 0 where
  -- "With no limits of cells, output or scans, expanding it finishes with outcome 0 and the wanted bytes": what the output holds
  pub expands : x.outcome ≡ Outcomes.finished → (allowance : ℕ) → length g.wanted + 3 ≤ allowance
      → run no_limits (language g.table) allowance (take x.length x.output) built_ins ≡ script_end g.wanted built_ins
  -- "It answers that there is none precisely when no script of any length finishes with those bytes as its output", behind the
  -- checks of what is lent
  pub none : (x.outcome ≡ Outcomes.no_script) ↔ ((refused_by (lent_refusals g) ≡ None) × NoScript g.table g.wanted)

-- What the call gives back: the first check that holds or the script, and what is promised of it.
abbrev pub Scripted : Asked → Answered → Type 0
Scripted g x = (x ≡ answered g) × Promised g x

-- The recorder "gets back one 64-bit number, outcome × 4,294,967,296 + length"
abbrev pub number_of : Answered → ℕ
number_of x = x.outcome * 4294967296 + x.length

-- The same promise, where the answer is one number.
abbrev pub Numbered : Asked → ℕ → Bytes → Type 0
Numbered g number output = (x : Answered) × Scripted g x × (number ≡ number_of x) × (output ≡ x.output)
