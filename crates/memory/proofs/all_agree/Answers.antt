-- The chain runs over the pairs of a cell and a byte, and ends with `true` just where all of them are equal.
use Rattle.std.proofs.Common.{rules}
use borrow.Author.Tests.{tests}
use Rattle.std.proofs.lemmas.Iterator.{same_from_all, YieldsList-from_slice, YieldsList-from_zip}
use Rattle.memory.proofs.Blocks.{decided_same}
use Rattle.memory.proofs.all_agree.Goals as goal

pub returns : goal.returns
returns c =
    let a = c.args in
    decided_same _ _ _ (same_from_all c.all.new.self _ _ a.cells.now a.bytes.now c.all.ensures.ran (YieldsList-from_zip (YieldsList-from_slice a.cells.now cc) (YieldsList-from_slice a.bytes.now cc)) c.requires (λ x q k. search (rules, tests)) (λ x q k. search (rules, tests)))
