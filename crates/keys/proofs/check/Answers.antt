-- Each check that does not hold leaves the next one to decide.
use mathlib.Core.Path.{sym, ◌∙◌}
use Rattle.std.proofs.lemmas.Result.{err_from_is_err_and}
use Rattle.keys.specs.Scripts.{asked}
use Rattle.keys.proofs.Answers.{refused_large, refused_signs, refused_own}
use Rattle.keys.proofs.check.Goals as goal

pub returns-then-too_long-clause-refusal : goal.returns-then-too_long-clause-refusal
returns-then-too_long-clause-refusal c =
    let a = c.args in
    sym (refused_large (asked a.signs.now a.wanted.now a.output.now) (sym c.too_long.ensures ∙ c.if-too_long.true))

pub returns-in_err-table-clause-refusal : goal.returns-in_err-table-clause-refusal
returns-in_err-table-clause-refusal c =
    let a = c.args in
    let p = err_from_is_err_and c.from_residual.result c.from_residual.ensures.1 in
    rw (p.1, p.2) (sym (refused_signs (asked a.signs.now a.wanted.now a.output.now) (sym c.too_long.ensures ∙ c.if-too_long.false) (sym (c.in_err-table.ensures.refusal))))

pub returns-in_err-check_script-clause-refusal : goal.returns-in_err-check_script-clause-refusal
returns-in_err-check_script-clause-refusal c =
    let a = c.args in
    let p = err_from_is_err_and c.from_residual-in_err-check_script.result c.from_residual-in_err-check_script.ensures.1 in
    let own = rw c.in_ok-table.ensures.ok at c.in_err-check_script.ensures in
    rw (p.1, p.2) (own ∙ sym (refused_own (asked a.signs.now a.wanted.now a.output.now) (sym c.too_long.ensures ∙ c.if-too_long.false) (sym (c.in_ok-table.ensures.refusal))))

pub returns-clause-refusal : goal.returns-clause-refusal
returns-clause-refusal c =
    let a = c.args in
    let own = rw c.in_ok-table.ensures.ok at c.in_ok-check_script.ensures in
    own ∙ sym (refused_own (asked a.signs.now a.wanted.now a.output.now) (sym c.too_long.ensures ∙ c.if-too_long.false) (sym (c.in_ok-table.ensures.refusal)))
