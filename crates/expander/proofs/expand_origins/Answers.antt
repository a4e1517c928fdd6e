-- A call that is refused leaves all as it was; one that is not is a whole run with its origins. Demand 3 holds of both.
use mathlib.Core.Path.{refl, sym, ap, ◌∙◌}
use Rattle.language.specs.Refusals.{refusal_in}
use Rattle.language.specs.Expansion.{lent, given}
use Rattle.language.specs.Origins.{numbers, given_with}
use Rattle.language.proofs.Origins.{refused_as, refused_short}
use Rattle.expander.proofs.Running.{signs_fit}
use Rattle.expander.proofs.Noting.{expands_origins, delivers_origins}
use Rattle.expander.proofs.expand_origins.Goals as goal

pub returns-in-Err : goal.returns-in-Err
returns-in-Err c =
    let a = c.args in
    let g = given_with (given a.signs.now a.text.now (lent a.cells.now a.output.now) a.allowance) (numbers a.origins.now a.rules.now) in
    rw c.refused.ensures (delivers_origins g refl (sym (refused_as g _ (sym (rw c.sizes_of.ensures at c.on_lent.ensures) ∙ ap refusal_in c.in-Err.is))))

pub returns-then-too_short : goal.returns-then-too_short
returns-then-too_short c =
    let a = c.args in
    let g = given_with (given a.signs.now a.text.now (lent a.cells.now a.output.now) a.allowance) (numbers a.origins.now a.rules.now) in
    rw c.refused-then-too_short.ensures (delivers_origins g refl (sym (refused_short g (sym (rw c.sizes_of.ensures at c.on_lent.ensures) ∙ ap refusal_in c.in_default.is) (sym c.too_short.ensures ∙ c.if-too_short.true))))

pub kinds_of-kinds-requires : goal.kinds_of-kinds-requires
kinds_of-kinds-requires c =
    let a = c.args in
    let g = given_with (given a.signs.now a.text.now (lent a.cells.now a.output.now) a.allowance) (numbers a.origins.now a.rules.now) in
    signs_fit g.given (sym (rw c.sizes_of.ensures at c.on_lent.ensures) ∙ ap refusal_in c.in_default.is)

pub returns : goal.returns
returns c =
    let a = c.args in
    let g = given_with (given a.signs.now a.text.now (lent a.cells.now a.output.now) a.allowance) (numbers a.origins.now a.rules.now) in
    let made = rw c.kinds_of-kinds.ensures at c.expand_accepted.ensures in
    delivers_origins g refl
    (expands_origins g (sym (rw c.sizes_of.ensures at c.on_lent.ensures) ∙ ap refusal_in c.in_default.is) (sym c.too_short.ensures ∙ c.if-too_short.false) made.0 made.1)
