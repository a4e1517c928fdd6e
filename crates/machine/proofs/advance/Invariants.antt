-- Between two scans what is due leads where all leads. The measure is what is due.
use Prim.Native.Nat.{◌-◌}
use lib.ListN.{length}
use Rattle.language.specs.Expansion.{lent}
use Rattle.machine.proofs.Advancing.{Going}
use Rattle.machine.proofs.advance.Given as goal

abbrev pub invariant-loop-run : goal.invariant-loop-run
invariant-loop-run l =
    Going l.kinds l.text (length l.initial.cells) (length l.initial.output) l.initial.run l.initial.heads (lent l.initial.cells l.initial.output) l.due l.run l.heads (lent l.cells l.output) l.until

abbrev pub decreases-loop-run : goal.decreases-loop-run
decreases-loop-run l = l.until - l.run.counts.scans
