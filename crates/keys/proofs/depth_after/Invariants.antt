-- The bytes before this one lead to `depth`.
use Rattle.keys.proofs.Matching.{Matching}
use Rattle.keys.proofs.depth_after.Given as goal

abbrev pub invariant-loop-byte : goal.invariant-loop-byte
invariant-loop-byte l = Matching l.table l.bytes l.byte-index l.depth
