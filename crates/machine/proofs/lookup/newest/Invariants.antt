-- With the turns that are left, the walk from the present place answers what the whole walk answers.
use Rattle.std.proofs.Common.{◌≡◌, ◌-◌, length}
use Rattle.machine.specs.Walks.{newest_from, newest}
use Rattle.machine.proofs.lookup.newest.Given as goal

abbrev pub invariant-loop : goal.invariant-loop
invariant-loop l = newest_from (length l.cells - l.counter) l.cells l.position l.name l.count ≡ newest l.cells l.heads l.name
