-- The definitions that are left, put back over the present heads, leave the heads that the whole walk leaves.
use Rattle.std.proofs.Common.{◌≡◌}
use Rattle.machine.specs.Walks.{restored_from, restored}
use Rattle.machine.proofs.index.restore.Given as goal

abbrev pub invariant-loop-definition : goal.invariant-loop-definition
invariant-loop-definition l =
    let left = l.definition-iterator in
    (left.cells.now ≡ l.cells) × (left.to ≡ l.to) × (restored_from left.turns l.cells l.heads left.position l.to ≡ restored l.cells l.initial.heads l.from l.to)
