-- With the standard signs the sizes alone decide.
use mathlib.Core.Path.{refl, sym, ◌∙◌}
use lib.ListN.{length}
use Rattle.language.specs.Signs.{standard}
use Rattle.language.specs.Expansion.{lent, given}
use Rattle.language.proofs.Accepted.{standard-lent}
use Rattle.expander.proofs.Running.{large, delivers}
use Rattle.expander.proofs.expand.Goals as goal

pub returns-then-too_large : goal.returns-then-too_large
returns-then-too_large c =
    let a = c.args in
    let g = given standard a.text.now (lent a.cells.now a.output.now) a.allowance in
    rw c.refused.ensures (delivers g refl _ (large g (sym (rw c.sizes_of.ensures at c.too_large.ensures) ∙ c.if-too_large.true)))

pub expand_unnoted-requires : goal.expand_unnoted-requires
expand_unnoted-requires c =
    let a = c.args in
    rw c.standard_kinds.ensures
    (standard-lent (length a.text.now) (length a.cells.now) (length a.output.now) (sym (rw c.sizes_of.ensures at c.too_large.ensures) ∙ c.if-too_large.false))

pub returns : goal.returns
returns c =
    let a = c.args in
    let g = given standard a.text.now (lent a.cells.now a.output.now) a.allowance in
    delivers g refl _ (rw c.standard_kinds.ensures at c.expand_unnoted.ensures)
