-- A definition with another name is passed by.
use Rattle.std.proofs.Common.{arith}
use Rattle.std.proofs.lemmas.Grind.{common_steps}
use Rattle.machine.proofs.Turns.{newest_turn}
use Rattle.machine.proofs.lookup.newest.Goals as goal

pub loop-preserved : goal.loop-preserved
loop-preserved c =
    let turn = newest_turn c.args.cells.now c.loop.position c.args.name c.read-count.result _ _ c.loop-test.true in
    grind (arith, common_steps, turn)
