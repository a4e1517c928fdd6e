-- The kinds are those from 1 on.
use Rattle.std.proofs.Common.{rules, tests, ◌≡◌, ◌∙◌, ◌+◌, get_or, refl, ap}
use native.Mathlib.Omega.{arith}
use Rattle.std.specs.List.{range_with_len, list_any}
use Rattle.std.proofs.lemmas.Iterator.{YieldsList-from_range}
use Rattle.std.proofs.lemmas.Iterator.Search.{any_from_yields_List}
use Rattle.std.proofs.lemmas.List.FromFn.{length-range_with_len, get_or-range_with_len}
use Rattle.language.specs.Refusals.{not_one_byte}
use Rattle.language.proofs.Accepted.{some_item}
use Rattle.language.proofs.refusals.sign_not_one_byte.Goals as goal

pub returns : goal.returns
returns c =
    let s = c.args.table.now in
    let e : c.any.result ≡ list_any (not_one_byte s) (range_with_len 1 6) = any_from_yields_List (not_one_byte s) _ _ c.any.result c.any.ensures.ran (YieldsList-from_range 1 7 6 refl refl) (λ x b q k. search (rules, tests)) in
    e ∙ some_item (not_one_byte s) (range_with_len 1 6) 0 (λ k. not_one_byte s (k + 1)) 6 (length-range_with_len 1 6) (λ k below. let at : get_or (range_with_len 1 6) k 0 ≡ k + 1 = omega (arith, get_or-range_with_len 1 6 k 0 below) in ap (not_one_byte s) at)
