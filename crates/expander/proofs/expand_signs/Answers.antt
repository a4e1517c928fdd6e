-- A call that is refused leaves all as it was; one that is not is a whole run. Demand 3 holds of both.
use mathlib.Core.Path.{refl, sym, ap, ◌∙◌}
use Rattle.language.specs.Refusals.{refusal_in}
use Rattle.language.specs.Expansion.{lent, given}
use Rattle.expander.proofs.Running.{refuses, delivers, signs_fit}
use Rattle.expander.proofs.expand_signs.Goals as goal

pub returns-in-Err : goal.returns-in-Err
returns-in-Err c =
    let a = c.args in
    let g = given a.signs.now a.text.now (lent a.cells.now a.output.now) a.allowance in
    rw c.refused.ensures (delivers g refl _ (refuses g _ (sym (rw c.sizes_of.ensures at c.on_lent.ensures) ∙ ap refusal_in c.in-Err.is)))

pub kinds_of-requires : goal.kinds_of-requires
kinds_of-requires c =
    let a = c.args in
    let g = given a.signs.now a.text.now (lent a.cells.now a.output.now) a.allowance in
    signs_fit g (sym (rw c.sizes_of.ensures at c.on_lent.ensures) ∙ ap refusal_in c.in-Ok.is)

pub returns-in-Ok : goal.returns-in-Ok
returns-in-Ok c =
    let a = c.args in
    let g = given a.signs.now a.text.now (lent a.cells.now a.output.now) a.allowance in
    delivers g refl _ (rw c.kinds_of.ensures at c.expand_unnoted.ensures)
