-- With the turns that are left, the walk over the pairs behind the present argument answers what the whole walk answers.
use Rattle.std.proofs.Common.{◌≡◌, ◌-◌, length}
use Rattle.machine.specs.Walks.{chosen_from, chosen}
use Rattle.machine.proofs.lookup.chosen.Given as goal

abbrev pub invariant-loop : goal.invariant-loop
invariant-loop l = chosen_from (length l.cells - l.counter) l.cells l.position ≡ chosen l.cells l.name
