-- With the arguments that are due, the walk from the present position answers what the whole walk answers.
use Rattle.std.proofs.Common.{◌≡◌, ◌+◌, ◌-◌, ◌*◌, ◌≤◌}
use Rattle.machine.specs.Walks.{argument}
use Rattle.machine.proofs.lookup.argument.Given as goal

abbrev pub invariant-loop : goal.invariant-loop
invariant-loop l = (argument l.cells l.position (l.index - l.counter) ≡ argument l.cells l.from l.index) × (l.position ≤ l.from + l.counter * 65536)
