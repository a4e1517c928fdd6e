-- What was written is noted, and nothing is where nothing was or none is to be noted.
use Prim.Native.Nat.{◌-◌}
use mathlib.Core.Path.{◌≡◌}
use native.Mathlib.Omega.{arith}
use Rattle.memory.proofs.Blocks.{filled_none}
use Rattle.language.specs.Origins.{rule_number}
use Rattle.machine.specs.Walks.{cell}
use Rattle.machine.proofs.run.Run.note.Goals as goal

pub returns-else-end-from : goal.returns-else-end-from
returns-else-end-from c =
    let a = c.args in
    let unwritten : a.after.counts.written - a.self.counts.written ≡ 0 = omega arith in
    rw (c.if-silent.false, unwritten, filled_none a.self.counts.written (cell a.after.counts.read) a.origins.now, filled_none a.self.counts.written (rule_number a.rule) a.rules.now)
