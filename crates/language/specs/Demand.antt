-- Demand 3, as a statement about whole runs.
use Rattle.std.specs.Prelude.{ℕ, ◌≤◌, ◌≡◌, ◌↔◌, length, T as So}
use Rattle.std.specs.Prelude.{None, Some}
use Rattle.language.specs.Signs.{language}
use Rattle.language.specs.Outcomes.{end_of_text}
use Rattle.language.specs.Refusals.{refused_by}
use Rattle.language.specs.Ends.{End, reported}
use Rattle.language.specs.Substitution.{substituted}
use Rattle.language.specs.Expansion.{Given, Returned, refusals, overwritten, expanded}

-- Substitution of the text comes to the end e at some depth, and what was lent is at least what it counted.
pub record Affords (g : Given) (e : End) : Type 0 where
  pub depth : ℕ
  pub comes : substituted (language g.table) depth g.text g.definitions ≡ Some e
  pub enough_cells : e.most ≤ length g.lent.cells
  pub enough_output : length e.output ≤ length g.lent.output
  pub enough_scans : e.scans ≤ g.allowance

-- Demand 3: what a run came to is an end e that finishes or is a fault of the text, if and only if substitution comes to e and
-- e can be afforded. e holds outcome, output, counts and standing definitions.
abbrev pub Demand3 : Given → End → Type 0
Demand3 g run = (e : End) → ((run ≡ e) × So (end_of_text e.outcome)) ↔ Affords g e

-- The same of what a caller sees of a whole run, the cells being cleared: the report, and the output as it is left.
pub record Substitutes (g : Given) (x : Returned) : Type 0 where
  pub only : So (end_of_text x.report.outcome)
      → (e : End) × Affords g e × (x.report ≡ reported e) × (x.lent.output ≡ overwritten e.output g.lent.output)
  pub always : refused_by (refusals g) ≡ None → (e : End) → Affords g e
      → So (end_of_text e.outcome) × (x.report ≡ reported e) × (x.lent.output ≡ overwritten e.output g.lent.output)

-- What a whole run leaves, by both definitions: by scanning it is the run of document 01; by substitution demand 3 holds of it.
abbrev pub Expanded : Given → Returned → Type 0
Expanded g x = (x ≡ expanded g) × Substitutes g x
