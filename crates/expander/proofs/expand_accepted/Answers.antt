-- What was accepted has few enough bytes of text and cells; what ends so is reported so.
use Rattle.language.specs.Expansion.{lent, given}
use Rattle.expander.proofs.Running.{reports, text_fits, cells_fit}
use Rattle.expander.proofs.expand_accepted.Goals as goal

pub run_to_end-st-requires : goal.run_to_end-st-requires
run_to_end-st-requires c =
    let a = c.args in
    let g = given a.kinds.now a.text.now (lent a.cells.now a.output.now) a.allowance in
    (text_fits g c.requires, cells_fit g c.requires)

pub returns : goal.returns
returns c =
    let a = c.args in
    let g = given a.kinds.now a.text.now (lent a.cells.now a.output.now) a.allowance in
    let h = c.run_to_end-st.ensures in
    rw (c.of.ensures, c.clear.ensures) (reports g h.0 c.cells-1.given c.requires, h.1)
