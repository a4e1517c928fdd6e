-- Document 02, Three: "a value that goes from scan to scan, raised and lowered as calls open, grow and end".
use Rattle.std.specs.Prelude.{Some}
use Rattle.std.specs.Prelude.{◌≡◌}
use Rattle.language.specs.Scanning.{Step, next, stop, charge}
use Rattle.machine.specs.declared.run.Answer.TheVariants.{GoesOn}
use Rattle.machine.specs.Machine.{After}
use Rattle.machine.specs.Held.{outcome_in}

-- Where the scanning goes on, so does the run, and it carries the charge of the state that was come to: the sum over all lists and
-- live definitions. Where the scanning has ended, the run has, with the same outcome.
abbrev pub Carries : After → Step → Type 0
Carries a (next s) = (a.answer ≡ GoesOn) × (a.run.charge ≡ charge s)
Carries a (stop e) = outcome_in a.answer ≡ Some e.outcome
