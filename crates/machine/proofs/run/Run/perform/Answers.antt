-- Each built-in is carried out on the arguments that it needs. Where its call has ended, what was defined since its `$` goes out of the
-- index.
use Prim.Native.Nat.{◌≤◌}
use mathlib.Core.Path.{refl, ◌∙◌}
use native.Mathlib.Omega.{arith}
use lib.ListN.{length}
use Rattle.language.specs.Expansion.{lent}
use Rattle.machine.proofs.Leaves.{Carried, carries, val_right, update_right, answer_right, count_right, choose_right, lock_right}
use Rattle.machine.proofs.run.Run.perform.Goals as goal
use Rattle.machine.proofs.run.Run.perform.Goals.{in-Val, in-Update, in-Arithmetic, in-Seq, in-Size, in-If, in-Lock}

-- Each arm leaves what its built-in does.
carried : (c : goal.After-unindex-arg-1) → Carried c.args.self c.args.built_in c.args.name c.args.last c.args.heads.now (lent c.args.cells.now c.args.output.now) c.match-built_in.st c.match-built_in.cells c.match-built_in.output
carried c =
    let a = c.args in
    let r = a.self in
    let h = a.heads.now in
    let m = lent a.cells.now a.output.now in
    let inside : r.right ≤ 65536 = omega arith in
    let size : length a.cells.now ≤ 65536 = omega arith in
    let p = c.behind-first.result in
    let q = a.last in
    let first = c.behind-first.ensures.0 in
    elim c.match-built_in.branch [
      | in-Val w ↦ carries w.cells-is w.output-is w.st-is w.val-st.auto.cells w.val-st.auto.output w.val-st.ensures (val_right r m inside size q h) (rw w.in-Val.is)
      | in-Update w ↦ carries w.cells-is w.output-is w.st-is w.update-st.auto.cells refl (w.update-st.ensures _) (update_right r m inside size p q h) (rw (w.in-Update.is, ← first))
      | in-Arithmetic w ↦ carries w.cells-is w.output-is w.st-is w.give_answer-st.auto.cells w.give_answer-st.auto.output w.give_answer-st.ensures (answer_right r m inside size w.calculate-answer.result) (rw (w.in-Arithmetic.is, w.calculate-answer.ensures, ← first))
      | in-Seq w ↦ carries w.cells-is w.output-is w.st-is w.give_count-st.auto.cells w.give_count-st.auto.output w.give_count-st.ensures (count_right r m inside size w.compare.result) (rw (w.in-Seq.is, w.compare.ensures, ← first))
      | in-Size w ↦ carries w.cells-is w.output-is w.st-is w.give_count-st-in-Size.auto.cells w.give_count-st-in-Size.auto.output w.give_count-st-in-Size.ensures (count_right r m inside size w.read.result) (rw (w.in-Size.is, w.read.ensures))
      | in-If w ↦ carries w.cells-is w.output-is w.st-is w.choose-st.auto.cells w.choose-st.auto.output w.choose-st.ensures (choose_right r m inside size a.name) (rw w.in-If.is)
      | in-Lock w ↦ carries w.cells-is w.output-is w.st-is w.lock-st.auto.cells refl (w.lock-st.ensures _) (lock_right r m inside size q h) (rw w.in-Lock.is)
    ]

pub unindex-requires : goal.unindex-requires
unindex-requires c = let k = carried c in omega arith

pub returns : goal.returns
returns c = c.unindex.ensures _ ∙ (carried c.before).performs
