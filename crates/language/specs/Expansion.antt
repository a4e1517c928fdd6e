-- A public call: from what it is given to what it reports and leaves.
use Rattle.std.specs.Prelude.{ℕ, List, [], ◌∷◌, ◌++◌, length, drop}
use Rattle.std.specs.Prelude.{Option, None, Some}
use Rattle.language.specs.Signs.{Bytes, Table, language}
use Rattle.language.specs.Refusals.{Refusal, refused_by, lent_refusals}
use Rattle.language.specs.Definitions.{Definition}
use Rattle.language.specs.BuiltIns.{built_ins}
use Rattle.language.specs.Ends.{End, Reported, reported}
use Rattle.language.specs.Scanning.{Limits, at_most, run}

-- the memory that a call is lent to write in
pub record Lent : Type 0 where
  pub cells : List ℕ
  pub output : Bytes

abbrev pub lent : List ℕ → Bytes → Lent
lent cells output = record { cells = cells; output = output }

-- what a call is given: the table of kinds, the text, the definitions a run starts with, what is lent, the allowance of scans
pub record Given : Type 0 where
  pub table : Table
  pub text : Bytes
  pub definitions : List Definition
  pub lent : Lent
  pub allowance : ℕ

-- a run that starts from the built-ins alone
abbrev pub given : Table → Bytes → Lent → ℕ → Given
given T text m allowance = record { table = T; text = text; definitions = built_ins; lent = m; allowance = allowance }

-- what it gives back: the report, and the final content of what was lent
pub record Returned : Type 0 where
  pub report : Reported
  pub lent : Lent

-- Refusals -----------------------------------------------------------------------------------------------------------

-- in their order, of what is given
abbrev pub refusals : Given → List Refusal
refusals g = lent_refusals (length g.text) (length g.lent.cells) (length g.lent.output) g.table

-- "all counts 0; nothing touched"
abbrev pub untouched : ℕ → Lent → Returned
untouched outcome m = record { report = record { outcome = outcome; read = 0; written = 0; scans = 0; most = 0; live = 0 }; lent = m }

-- A whole run --------------------------------------------------------------------------------------------------------

-- "output so far": the bytes written, and the later ones as they were
abbrev pub overwritten : Bytes → Bytes → Bytes
overwritten wrote output = wrote ++ drop (length wrote) output

-- "cells zero"
unfoldable pub cleared : List ℕ → List ℕ
cleared [] = []
cleared (c ∷ cs) = 0 ∷ cleared cs

abbrev pub limits_of : ℕ → ℕ → Limits
limits_of cells output = record { cells = at_most cells; output = at_most output }

-- the end of a run in what is lent
abbrev pub ending : Given → End
ending g = run (limits_of (length g.lent.cells) (length g.lent.output)) (language g.table) g.allowance g.text g.definitions

abbrev pub returned_by : End → Lent → Returned
returned_by e m = record { report = reported e; lent = lent (cleared m.cells) (overwritten e.output m.output) }

abbrev pub answered : Option ℕ → Given → Returned
answered (Some outcome) g = untouched outcome g.lent
answered None g = returned_by (ending g) g.lent

-- a whole run: refused, or brought to its end
unfoldable pub expanded : Given → Returned
expanded g = answered (refused_by (refusals g)) g
