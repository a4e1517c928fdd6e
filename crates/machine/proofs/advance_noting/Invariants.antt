-- Between two turns what is due leads where all leads, and the numbers are those of what was written. The measure is what is due.
use Prim.Native.Nat.{◌-◌}
use mathlib.Core.Path.{◌≡◌}
use mathlib.Core.Bool.{true}
use lib.ListN.{length}
use Rattle.language.specs.Expansion.{lent}
use Rattle.language.specs.Origins.{numbers, too_short}
use Rattle.machine.proofs.Advancing.{Going}
use Rattle.machine.proofs.Noting.{Notable}
use Rattle.machine.proofs.advance_noting.Given as goal

abbrev pub invariant-loop-run : goal.invariant-loop-run
invariant-loop-run l =
    Going l.kinds l.text (length l.initial.cells) (length l.initial.output) l.initial.run l.initial.heads (lent l.initial.cells l.initial.output) l.due l.run l.heads (lent l.cells l.output) l.until
    × Notable l.kinds l.text l.initial.run l.initial.heads (lent l.initial.cells l.initial.output) l.due (numbers l.initial.origins l.initial.rules) l.run l.heads (lent l.cells l.output) (numbers l.origins l.rules) l.until
    × (length l.origins ≡ length l.initial.origins)
    × (length l.rules ≡ length l.initial.rules)
    × (l.silent ≡ too_short (numbers l.initial.origins l.initial.rules) (length l.initial.output))
    × (too_short (numbers l.initial.origins l.initial.rules) (length l.initial.output) ≡ true → numbers l.origins l.rules ≡ numbers l.initial.origins l.initial.rules)

abbrev pub decreases-loop-run : goal.decreases-loop-run
decreases-loop-run l = l.until - l.run.counts.scans
