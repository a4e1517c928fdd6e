-- A call that is refused leaves the output as it was; one that is not writes the script.
use native.Mathlib.Omega.{arith}
use Prim.Native.Nat.{ℕ}
use mathlib.Core.List.{List}
use mathlib.Core.Path.{◌≡◌, sym, subst}
use Rattle.language.specs.Expansion.{overwritten}
use Rattle.std.proofs.lemmas.Result.{err_from_is_err_and}
use Rattle.language.proofs.Octets.{octets_of}
use Rattle.keys.specs.Scripts.{asked, script}
use Rattle.keys.proofs.Answers.{delivers, answers_refused, answers_script, taken}
use Rattle.keys.proofs.script_for.Goals as goal

pub returns-in_err-table : goal.returns-in_err-table
returns-in_err-table c =
    let a = c.args in
    let g = asked a.signs.now a.wanted.now a.output.now in
    let p = err_from_is_err_and c.from_residual.result c.from_residual.ensures.1 in
    rw (p.1, p.2) (delivers g (octets_of a.wanted.now (λ i. (c.type_inv.wanted i).fits)) _ (answers_refused g (sym (c.in_err-table.ensures.refusal))))

pub write_script-requires : goal.write_script-requires
write_script-requires c =
    let a = c.args in
    let t = taken (asked a.signs.now a.wanted.now a.output.now) (sym (c.in_ok-table.ensures.refusal)) in
    t.output

pub overflow_cast-result : goal.overflow_cast-result
overflow_cast-result c =
    let a = c.args in
    let t = taken (asked a.signs.now a.wanted.now a.output.now) (sym (c.in_ok-table.ensures.refusal)) in
    omega (arith, t.wanted)

pub overflow_add-result : goal.overflow_add-result
overflow_add-result c =
    let a = c.args in
    let t = taken (asked a.signs.now a.wanted.now a.output.now) (sym (c.in_ok-table.ensures.refusal)) in
    omega (arith, t.wanted)

pub returns : goal.returns
returns c =
    let a = c.args in
    let g = asked a.signs.now a.wanted.now a.output.now in
    let written : c.write_script.new.output ≡ overwritten (script a.signs.now a.wanted.now) a.output.now =
    subst (λ (table : List ℕ). c.write_script.new.output ≡ overwritten (script table a.wanted.now) a.output.now) c.in_ok-table.ensures.ok c.write_script.ensures in
    rw written
    (delivers g (octets_of a.wanted.now (λ i. (c.type_inv.wanted i).fits)) _ (answers_script g (sym (c.in_ok-table.ensures.refusal))))
