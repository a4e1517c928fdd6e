-- Where each byte of the output came from: what `go_on` promises beside `Moves`, and what its functions do.
use Rattle.std.specs.Prelude.{Option, None, Some, ℕ, ◌+◌, ◌-◌, ◌<◌, ◌≡◌, Bool, true, false, cond, List, length, eqb, ltb}
use Rattle.memory.specs.Block.{placed, filled}
use Rattle.language.specs.declared.rules.Rule.{Rule}
use Rattle.language.specs.declared.rules.Rule.TheVariants.{CopiedFromText, CopiedFromBody, Fetched, GivenByVal, GivenByBuiltIn}
use Rattle.language.specs.declared.signs.Sign.{Sign}
use Rattle.language.specs.declared.signs.Sign.TheVariants.{Plain, Dollar, Comma, Semicolon, Tilde, Quote, Unquote}
use Rattle.language.specs.Signs.{Bytes, Table, ascii, sign_of, language}
use Rattle.language.specs.Scanning.{State, next}
use Rattle.language.specs.Expansion.{Lent, limits_of}
use Rattle.language.specs.Origins.{rule_number, Origin, origins_from, reads_of, rules_of, Numbers, numbers, too_short}
use Rattle.machine.specs.declared.run.Run.{Run}
use Rattle.machine.specs.Walks.{nowhere, cell, arguments_from, is_text}
use Rattle.machine.specs.Machine.{body_byte}
use Rattle.machine.specs.Moving.{is_in_range, portion, Holds}

-- What is promised ---------------------------------------------------------------------------------------------------

-- the origins of bytes that are written from a place on
abbrev pub noted_from : ℕ → List Origin → Numbers → Numbers
noted_from written os ns = numbers (placed written (reads_of os) ns.origins) (placed written (rules_of os) ns.rules)

-- Of so many scans: whatever state is held, the numbers are those of the scanning, where they are as many as the output and the
-- bytes of the text can be counted in 32 bits.
abbrev pub Noted : Table → Bytes → ℕ → Run → List ℕ → Lent → Numbers → Numbers → Type 0
Noted T text due r h m before after =
    (start : Bytes) (s : State) → Holds h text start r m s → too_short before (length m.output) ≡ false
    → s.standing.read + length s.text < 4294967296
    → after ≡ noted_from r.counts.written (origins_from (limits_of (length m.cells) (length m.output)) (language T) due (next s)) before

-- a standing whose numbers are out of range is refused, and nothing is touched; nor are runs of numbers that are too short, as
-- those of a caller who lends none
pub record Notes (T : Table) (text : Bytes) (allowance : ℕ) (r : Run) (h : List ℕ) (m : Lent) (before after : Numbers) : Type 0 where
  pub refused : is_in_range r (length m.cells) (length m.output) ≡ false → after ≡ before
  pub kept : too_short before (length m.output) ≡ true → after ≡ before
  pub noted : is_in_range r (length m.cells) (length m.output) ≡ true → Noted T text (portion allowance r.counts.scans) r h m before after

-- What each function does --------------------------------------------------------------------------------------------

abbrev pub is_tilde : Sign → Bool
is_tilde Plain = false
is_tilde Dollar = false
is_tilde Comma = false
is_tilde Semicolon = false
is_tilde Tilde = true
is_tilde Quote = false
is_tilde Unquote = false

-- whether a byte is a `~`, if there is one
abbrev pub tilde_next : List ℕ → Option ℕ → Bool
tilde_next kinds None = false
tilde_next kinds (Some b) = is_tilde (sign_of kinds b)

-- whether the next byte of the body being read is an unquoted `~`
abbrev pub fetches_next : Run → List ℕ → List ℕ → Bool
fetches_next r kinds l = cond (ltb 0 r.quotes) false (tilde_next kinds (body_byte r l))

-- VAL, or another built-in, by the name at a length cell
abbrev pub given_by_name : List ℕ → ℕ → Rule
given_by_name l name = cond (is_text l name (ascii "VAL")) GivenByVal GivenByBuiltIn

-- the rule by which the next scan writes, if it does: while a call is open only a built-in gives to the output
abbrev pub rule : Run → List ℕ → List ℕ → Rule
rule r kinds l =
    cond (eqb r.calls.call nowhere)
    (cond (eqb r.source.list nowhere) CopiedFromText (cond (fetches_next r kinds l) Fetched CopiedFromBody))
    (given_by_name l (r.calls.call + arguments_from))

-- what was written between two standings came by this rule
abbrev pub note : Run → Run → Rule → Numbers → Numbers
note r r' k ns =
    let from = r.counts.written in
    let count = r'.counts.written - from in
    numbers (filled from count (cell r'.counts.read) ns.origins) (filled from count (rule_number k) ns.rules)

-- where any is noted at all
abbrev pub note_unless : Bool → Run → Run → Rule → Numbers → Numbers
note_unless silent r r' k ns = cond silent ns (note r r' k ns)

-- all scans that are left, or one that is to be noted
abbrev pub at_once : Bool → ℕ → ℕ
at_once silent left = cond silent left 1
