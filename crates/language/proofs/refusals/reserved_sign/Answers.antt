-- Each byte is looked at with its kind.
use Rattle.std.proofs.Common.{rules, tests, length, ◌<◌, zero-add, ◌≡◌, ◌∙◌, ℕ, get_or, nat_eq, ap}
use mathlib.Core.Bool.{not, ◌&&◌}
use native.Mathlib.Omega.{arith}
use Rattle.std.specs.List.{list_any, enumerate_from}
use Rattle.std.proofs.lemmas.Iterator.{YieldsList-from_slice}
use Rattle.std.proofs.lemmas.Iterator.Consumers.{YieldsList-from_enumerate}
use Rattle.std.proofs.lemmas.Iterator.Search.{any_from_yields_List}
use Rattle.std.proofs.lemmas.List.FromFn.{length-enumerate_from, get_or-enumerate_from}
use Rattle.language.specs.Refusals.{is_reserved, is_reserved_sign}
use Rattle.language.proofs.Accepted.{some_item}
use Rattle.language.proofs.refusals.reserved_sign.Goals as goal

pub returns : goal.returns
returns c =
    let s = c.args.table.now in
    let passes : ℕ × ℕ → _ = λ (p : ℕ × ℕ). is_reserved p.0 && not (nat_eq p.1 0) in
    let e : c.any.result ≡ list_any passes (enumerate_from 0 s) = any_from_yields_List passes _ _ c.any.result c.any.ensures.ran (YieldsList-from_enumerate (YieldsList-from_slice s cc) (cc)) (λ x b q k. search (rules, tests)) in
    e ∙ some_item passes (enumerate_from 0 s) (0, 0) (is_reserved_sign s) 256 (length-enumerate_from 0 s ∙ (search rules)) (λ k below.
    let inside : k < length s = omega arith in
    let at : get_or (enumerate_from 0 s) k (0, 0) ≡ (k, get_or s k 0) = get_or-enumerate_from 0 s k (0, 0) inside ∙ ap (λ (i : ℕ). (i, get_or s k 0)) (zero-add k) in
    ap passes at)
