-- As many zeros as there are cells take the place of all of them.
use Rattle.std.proofs.Common.{◌∙◌, length}
use Rattle.memory.specs.Block.{repeated}
use Rattle.memory.proofs.Blocks.{copied_whole, length-repeated}
use Rattle.memory.proofs.clear.Goals as goal

pub returns : goal.returns
returns c =
    let d = c.args.cells.now in
    c.fill.ensures ∙ copied_whole (repeated (length d) 0) d (length-repeated (length d) 0)
