-- With the turns that are left, the walk from the present list answers what the whole walk answers.
use Rattle.std.proofs.Common.{◌≡◌, ◌-◌, ◌≤◌, length}
use Rattle.machine.specs.Walks.{is_read_from, is_read}
use Rattle.machine.proofs.lookup.is_read.Given as goal

abbrev pub invariant-loop : goal.invariant-loop
invariant-loop l = (is_read_from (length l.cells - l.counter) l.cells l.list l.body l.definition ≡ is_read l.cells l.innermost l.reading l.definition) × (l.list ≤ 65535)
