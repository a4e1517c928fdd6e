-- The definitions that are left, taken out of the present heads, leave the heads that the whole walk leaves.
use Rattle.std.proofs.Common.{◌≡◌}
use Rattle.machine.specs.Walks.{removed_from, removed}
use Rattle.machine.proofs.index.remove.Given as goal

abbrev pub invariant-loop-definition : goal.invariant-loop-definition
invariant-loop-definition l =
    let left = l.definition-iterator in
    (left.cells.now ≡ l.cells) × (left.to ≡ l.to) × (removed_from left.turns l.cells l.heads left.position l.to ≡ removed l.cells l.initial.heads l.from l.to)
