-- The iterator gives an item for each definition that is left.
use Rattle.std.proofs.Common.{◌≡◌, ◌∙◌, ℕ, suc, ◌∷◌, replicate, arith, rules}
use Rattle.std.proofs.lemmas.List.{length-replicate}
use Rattle.std.proofs.lemmas.Iterator.Consumers.{count_from_yields_List, YieldsList-from_shown}
use Rattle.machine.specs.declared.lookup.Standing.{Standing}
use Rattle.machine.specs.contracts.lookup.StandingIterator.TheImpl.{next_gives-value}
use Rattle.machine.specs.Walks.{definitions_from}
use Rattle.machine.proofs.Turns.{definitions_over, definitions_goes_on}
use Rattle.machine.proofs.lookup.definitions.Goals as goal

abbrev left : Standing → ℕ
left s = definitions_from s.turns s.cells.now s.position s.to

one_more : (m n : ℕ) → m ≡ suc n → replicate m (tt {0}) ≡ tt {0} ∷ replicate n (tt {0})
one_more m n e = rw e

pub returns : goal.returns
returns c =
    let given = YieldsList-from_shown next_gives-value.it (λ _. tt {0}) (λ s. replicate (left s) (tt {0}))
    (λ s t step. rw length-replicate (grind (arith, definitions_over)))
    (λ s p t step. one_more (left s) (left t) (grind (arith, definitions_goes_on))) c.between.result in
    count_from_yields_List _ _ c.count.ensures.ran given ∙ rw length-replicate (search rules)
