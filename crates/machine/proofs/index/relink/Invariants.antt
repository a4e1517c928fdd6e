-- With the turns that are left, the walk from the present place leaves the cells that the whole walk leaves.
use Rattle.std.proofs.Common.{◌≡◌, ◌-◌, length}
use Rattle.machine.specs.Walks.{relinked_from, relinked}
use Rattle.machine.proofs.index.relink.Given as goal

abbrev pub invariant-loop : goal.invariant-loop
invariant-loop l = relinked_from (length l.cells - l.counter) l.cells l.heads l.position l.to l.fn.end l.by ≡ relinked l.initial.cells l.heads l.from l.to l.fn.end l.by
