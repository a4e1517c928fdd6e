-- The counted scan is the end of its source, or it is that of the next byte behind which the run then stands.
use mathlib.Core.Path.{sym, ◌∙◌}
use Rattle.machine.proofs.Scans.{at_end, before}
use Rattle.machine.proofs.run.Run.step.Goals as goal

pub returns-in_default : goal.returns-in_default
returns-in_default c =
    let a = c.args in
    c.end_source.ensures _ ∙ at_end a.self a.kinds.now a.text.now a.heads.now a.cells.now a.output.now (sym c.in_default.is ∙ c.next_byte.ensures)

pub returns : goal.returns
returns c =
    let a = c.args in
    c.scan_byte.ensures
    ∙ rw c.passed.ensures
    (before a.self a.kinds.now a.text.now a.heads.now a.cells.now a.output.now c.in-Some.ensures c.sign_of.ensures)
