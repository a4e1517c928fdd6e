-- What a caller sees of a run.
use Rattle.std.specs.Prelude.{ℕ, false, length, ◌≡◌}
use Rattle.language.specs.Outcomes
use Rattle.language.specs.BuiltIns.{built_ins}
use Rattle.language.specs.Ends.{End, Reported, reported}
use Rattle.language.specs.Scanning.{end_with}
use Rattle.language.specs.Expansion.{Lent, Given, Returned, overwritten, ending}
use Rattle.language.specs.Demand.{Demand3}
use Rattle.language.specs.Origins.{origins, Numbers, too_short, noted}
use Rattle.machine.specs.declared.run.Answer.{Answer}
use Rattle.machine.specs.declared.run.Answer.TheVariants.{GoesOn, Ended, Damaged, Refused}
use Rattle.machine.specs.declared.run.Stepped.{Stepped}
use Rattle.machine.specs.Held.{shown}
use Rattle.expander.specs.declared.Report.{Report}

-- the six numbers of a report
abbrev pub numbers : Report → Reported
numbers r = record { outcome = r.outcome; read = r.read; written = r.written; scans = r.scans; most = r.most; live = r.live }

-- the report, and the final content of what was lent
abbrev pub returned : Report → Lent → Returned
returned r m = record { report = numbers r; lent = m }

abbrev pub refused_with : ℕ → Report
refused_with outcome = record { outcome = outcome; read = 0; written = 0; scans = 0; most = 0; live = 0 }

-- the outcome for each answer of the machine; the last two a run from a fresh standing never has
abbrev pub outcome_of : Answer → ℕ
outcome_of GoesOn = Outcomes.no_scans_left
outcome_of (Ended outcome) = Outcomes.number_of outcome
outcome_of Damaged = Outcomes.no_cells_left
outcome_of Refused = Outcomes.no_cells_left

abbrev pub report_of : Stepped → Report
report_of st =
    let c = st.run.counts in
    record { outcome = outcome_of st.answer; read = c.read; written = c.written; scans = c.scans; most = c.most; live = c.live }

-- The end that a run came to, read off the machine's answer, its numbers and what is lent before the cells are cleared: the
-- definitions are those that the cells hold, newest first, then the built-ins.
abbrev pub came_to : Stepped → Lent → End
came_to st m = end_with (outcome_of st.answer) (shown built_ins st.run m)

-- What a run came to, m being what was lent as it is then.
pub record Ran (g : Given) (st : Stepped) (m : Lent) : Type 0 where
  -- demand 2: it is the end of the run by scanning
  pub scanned : came_to st m ≡ ending g
  -- demand 3, whole: outcome, output, counts and standing definitions are those of substitution
  pub substitutes : Demand3 g (came_to st m)
  -- its numbers are what is reported
  pub reports : numbers (report_of st) ≡ reported (came_to st m)
  -- "output so far": the later bytes are as they were
  pub left : m.output ≡ overwritten (came_to st m).output g.lent.output

-- What a run noted: its origins, where both runs of numbers are as long as the output.
abbrev pub NotedIn : Given → Numbers → Numbers → Type 0
NotedIn g before after = too_short before (length g.lent.output) ≡ false → after ≡ noted (origins g) before
