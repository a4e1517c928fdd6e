-- The loop's cell is the next of the argument.
use Prim.Native.Nat.{◌+◌, ◌<◌}
use native.Mathlib.Omega.{arith}
use lib.ListN.{length}
use Rattle.std.proofs.lemmas.Grind.{common_steps}
use Rattle.std.proofs.lemmas.List.{length-take, length-drop}
use Rattle.machine.proofs.Turns.{low_turn}
use Rattle.machine.proofs.operands.operand.Goals as goal

pub loop-cell-preserved : goal.loop-cell-preserved
loop-cell-preserved c =
    let a = c.args in
    let i = c.loop-cell.cell-index in
    let h : a.argument + 1 + i < length a.cells.now = omega (arith, simp (length-take, length-drop) at c.loop-cell-test.true) in
    rw (low_turn a.cells.now (a.argument + 1) i h) (grind (arith, common_steps, c.take-reader.ensures _ c.loop-cell.invariant))
