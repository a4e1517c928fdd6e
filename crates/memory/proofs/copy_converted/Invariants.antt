-- The places that the loop has passed hold what the closure makes of their elements.
use Rattle.std.proofs.Common.{ℕ, ◌<◌, get_or}
use Rattle.memory.proofs.copy_converted.Given as goal

abbrev pub invariant-loop-at : goal.invariant-loop-at
invariant-loop-at g l = (k : ℕ) (x : _) (y : _) → k < l.at → goal.F-post g l.convert (get_or l.source k x) (get_or l.target k y)
