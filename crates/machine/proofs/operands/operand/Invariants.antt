-- The reader has taken the low bytes of the cells that the loop has passed.
use Rattle.memory.specs.Block.{block, low_bytes}
use Rattle.decimal.specs.Reading.{Took}
use Rattle.machine.proofs.operands.operand.Given as goal

abbrev pub invariant-loop-cell : goal.invariant-loop-cell
invariant-loop-cell l = Took (block l.from l.cell-index (low_bytes l.cells)) l.reader
