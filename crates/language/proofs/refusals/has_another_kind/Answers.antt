-- Each entry is looked at.
use Rattle.std.proofs.Common.{rules, tests, nat_lt, ◌≡◌, ◌∙◌, ℕ, refl}
use Rattle.std.specs.List.{list_any}
use Rattle.std.proofs.lemmas.Iterator.{YieldsList-from_slice}
use Rattle.std.proofs.lemmas.Iterator.Search.{any_from_yields_List}
use Rattle.language.specs.Refusals.{is_above}
use Rattle.language.proofs.Accepted.{some_item}
use Rattle.language.proofs.refusals.has_another_kind.Goals as goal

pub returns : goal.returns
returns c =
    let s = c.args.table.now in
    let above : ℕ → _ = λ (k : ℕ). nat_lt 6 k in
    let e : c.any.result ≡ list_any above s = any_from_yields_List above _ _ c.any.result c.any.ensures.ran (YieldsList-from_slice s cc) (λ x b q k. search (rules, tests)) in
    e ∙ some_item above s 0 (is_above s) 256 (search rules) (λ k below. refl)
