-- Between two turns what is due leads where all leads, and the numbers are those of what was written. The measure is what is due.
use Prim.Native.Nat.{◌+◌, ◌-◌}
use mathlib.Core.Path.{refl}
use native.Mathlib.Omega.{arith}
use Rattle.language.specs.Expansion.{lent}
use Rattle.language.specs.Origins.{numbers}
use Rattle.machine.proofs.Leaves.{not_on}
use Rattle.machine.proofs.Advancing.{begins, more, over, done}
use Rattle.machine.proofs.Noting.{notable, at_once_few, noted_on, noted_over, kept_on, noted_done}
use Rattle.machine.proofs.advance_noting.Goals as goal

pub loop-run-init : goal.loop-run-init
loop-run-init c =
    let m = lent c.args.cells.now c.args.output.now in (
      begins _ _ _ _ c.args.from c.args.heads.now m c.args.due refl refl (λ i. (c.type_inv.cells i).fits) c.requires.0 c.requires.1,
      notable _ _ c.args.from c.args.heads.now m c.args.due (numbers c.args.origins.now c.args.rules.now),
      refl,
      refl,
      c.too_short-silent.ensures,
      λ e. refl,
    )

pub returns-in_default : goal.returns-in_default
returns-in_default c =
    let quiet = c.too_short-silent.result in
    let left = c.args.from.counts.scans + c.args.due - c.loop-run.run.counts.scans in
    let l = c.loop-run.invariant in
    let g = l.0 in
    let at = c.at_once-at_once.ensures in
    let few = (at_once_few quiet left (omega (arith, c.loop-run-test.true))).0 in
    let out = not_on c.advance-st.result.answer c.in_default.in_default-own.keys2 in (
      over _ _ _ _ g _ few _ _ _ (rw at at c.advance-st.ensures.1) (omega (arith, c.cells-1.given, g.cells)) (omega (arith, c.output-1.given, g.output)) c.advance-st.ensures.0.answered out refl refl,
      noted_over _ _ _ _ _ _ _ l.1 quiet l.4 left c.loop-run-test.true _ (rw at at c.advance-st.ensures.1) out,
      l.5,
    )

pub loop-run-preserved : goal.loop-run-preserved
loop-run-preserved c =
    let quiet = c.too_short-silent.result in
    let left = c.args.from.counts.scans + c.args.due - c.loop-run.run.counts.scans in
    let l = c.loop-run.invariant in
    let g = l.0 in
    let Some = c.loop-run-test.true in
    let at = c.at_once-at_once.ensures in
    let on = c.in-GoesOn.is in
    let few = (at_once_few quiet left (omega (arith, Some))).0 in
    let is = rw at at c.advance-st.ensures.1 in
    let scans = rw at at (c.advance-st.ensures.2 on) in (
      more _ _ _ _ g _ few _ _ _ is (omega (arith, c.cells-1.given, g.cells)) (omega (arith, c.output-1.given, g.output)) (λ i. (c.type_inv.cells i).fits) on scans
          (rw (g.cells, g.output) at (c.advance-st.ensures.0.ranged on)),
      noted_on _ _ _ _ _ _ _ l.1 quiet l.4 left Some _ is on scans c.rule-rule.ensures c.note.ensures,
      omega (arith, c.origins-1.given, l.2),
      omega (arith, c.rules-1.given, l.3),
      l.4,
      kept_on _ _ _ _ _ _ _ l.1 quiet l.4 left l.5 c.advance-st.result.run c.rule-rule.result c.note.ensures,
    )

pub returns : goal.returns
returns c =
    let l = c.loop-run.invariant in
    rw c.goes_on.ensures ((done _ _ _ _ l.0 c.loop-run-test.false refl refl).0, noted_done _ _ _ _ _ _ _ l.1 c.loop-run-test.false, l.5)
