-- Between two scans what is due leads where all leads. The measure is what is due.
use mathlib.Core.Path.{refl}
use native.Mathlib.Omega.{arith}
use Rattle.machine.proofs.Leaves.{not_on}
use Rattle.machine.proofs.Advancing.{once_more, again, ends, done}
use Rattle.machine.proofs.advance.Goals as goal

pub returns-in_default : goal.returns-in_default
returns-in_default c =
    let g = c.loop-run.invariant in
    ends _ _ _ _ g c.loop-run-test.true _ c.step-st.ensures (omega (arith, c.cells-1.given, g.cells)) (omega (arith, c.output-1.given, g.output)) _ _ _ refl
    (not_on c.step-st.result.answer c.in_default.in_default-own.keys2) refl refl

pub loop-run-smaller : goal.loop-run-smaller
loop-run-smaller c =
    let g = c.loop-run.invariant in
    let e = once_more _ _ _ _ g c.loop-run-test.true _ c.step-st.ensures (omega (arith, c.cells-1.given, g.cells)) (omega (arith, c.output-1.given, g.output)) c.in-GoesOn.is in
    omega (arith, c.loop-run-test.true)

pub loop-run-preserved : goal.loop-run-preserved
loop-run-preserved c =
    let g = c.loop-run.invariant in
    again _ _ _ _ g c.loop-run-test.true _ c.step-st.ensures (omega (arith, c.cells-1.given, g.cells)) (omega (arith, c.output-1.given, g.output))
    (λ i. (c.type_inv.cells i).fits) c.in-GoesOn.is

pub returns : goal.returns
returns c = rw c.goes_on.ensures (done _ _ _ _ c.loop-run.invariant c.loop-run-test.false refl refl)
