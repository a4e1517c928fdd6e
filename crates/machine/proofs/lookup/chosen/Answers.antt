-- A pair that is not chosen is passed by.
use Rattle.std.proofs.Common.{arith}
use Rattle.std.proofs.lemmas.Grind.{common_steps}
use Rattle.machine.proofs.Turns.{chosen_turn}
use Rattle.machine.proofs.lookup.chosen.Goals as goal

pub loop-preserved : goal.loop-preserved
loop-preserved c =
    let turn = chosen_turn c.args.cells.now c.loop.position _ _ c.loop-test.true in
    grind (arith, common_steps, turn)
