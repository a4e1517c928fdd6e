-- The part that is written is as long as the block, and each byte there is the low byte of the cell at its place.
use Rattle.std.proofs.Common.{◌≡◌, take, drop, arith}
use Rattle.std.proofs.lemmas.List.{ext_get_or}
use Rattle.std.proofs.lemmas.Grind.{common_steps}
use Rattle.memory.specs.Block.{low_bytes}
use Rattle.memory.proofs.Blocks.{length-low_bytes, get_or-low_bytes}
use Rattle.memory.proofs.copy_to_bytes.Goals as goal

pub returns-then-both_lie : goal.returns-then-both_lie
returns-then-both_lie c =
    let a = c.args in
    let e : c.copy_converted.new.target ≡ take a.count (drop a.from (low_bytes a.cells.now)) =
    ext_get_or 0 _ _ (grind (arith, common_steps, length-low_bytes)) (λ k h. grind (arith, common_steps, get_or-low_bytes, c.copy_converted.ensures k 0 0)) in
    grind (arith, common_steps, length-low_bytes)
