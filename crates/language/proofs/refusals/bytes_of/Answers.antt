-- At the end all entries were looked at.
use Rattle.std.proofs.Common.{rules, arith, ◌≡◌, ◌∙◌, ap, nat_eq, length, take}
use Rattle.std.specs.Prelude.{count_by}
use Rattle.std.proofs.lemmas.List.{take_all}
use Rattle.language.proofs.Accepted.{counted_entries}
use Rattle.language.proofs.refusals.bytes_of.Goals as goal

pub returns : goal.returns
returns c =
    let a = c.args in
    let l = c.loop-of in
    let long : length a.table.now ≡ 256 = search rules in
    let all : take l.of-index a.table.now ≡ a.table.now = take_all l.of-index a.table.now (omega (arith, long)) in
    l.invariant.1 ∙ ap (count_by (λ x. nat_eq x a.kind)) all ∙ counted_entries (λ x. nat_eq x a.kind) a.table.now 256 long
