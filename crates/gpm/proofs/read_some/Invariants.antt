-- A read that was interrupted consumes nothing, and the text keeps its length.
use Rattle.std.proofs.Common.{◌≡◌, length}
use Rattle.std.specs.Io.KnownBytes.{Keeps}
use Rattle.gpm.proofs.read_some.Given as goal

abbrev pub invariant-loop : goal.invariant-loop
invariant-loop g l = (length l.text ≡ length l.initial.text) × Keeps (g.R.Read.remaining l.initial.from) (g.R.Read.remaining l.from)
