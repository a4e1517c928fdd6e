-- The bytes before this one lead to `depth`.
use Rattle.std.proofs.Common.{◌≡◌, ◌∙◌, sym, ap, get_or}
use Rattle.std.specs.Prelude.{Some}
use native.Mathlib.Omega.{arith}
use denote.Enum.Bare.{same_true, same_false}
use Rattle.language.specs.contracts.signs.Sign.{the_type}
use Rattle.language.specs.declared.signs.Sign.{Sign}
use Rattle.language.specs.declared.signs.Sign.TheVariants.{Quote, Unquote}
use Rattle.language.specs.Signs.{sign_of}
use Rattle.language.specs.Matched.{depth_by}
use Rattle.keys.proofs.Matching.{matching_step, matching_lost, matching_end, depth_quote, depth_lost, depth_unquote, depth_other}
use Rattle.keys.proofs.depth_after.Goals as goal
use Rattle.keys.proofs.depth_after.Goals.{then-eq, else-eq+then-eq-2+else-depth-eq0, else-eq+else-eq-2}

pub returns-then-depth-eq0 : goal.returns-then-depth-eq0
returns-then-depth-eq0 c =
    let l = c.loop-byte in
    let sign : c.from-sign.result ≡ sign_of c.args.table.now (get_or c.args.bytes.now l.byte-index 0) = c.from-sign.ensures ∙ ap (sign_of c.args.table.now) c.from.ensures in
    sym (matching_lost l.invariant (omega arith) (ap (λ (g : Sign). depth_by g l.depth) (sym sign) ∙ depth_lost c.from-sign.result l.depth (same_true the_type tt _ Unquote (sym c.eq-else-eq.ensures ∙ c.if-eq-2.true)) (omega arith)))

pub loop-byte-preserved : goal.loop-byte-preserved
loop-byte-preserved c =
    let l = c.loop-byte in
    let sign : c.from-sign.result ≡ sign_of c.args.table.now (get_or c.args.bytes.now l.byte-index 0) = c.from-sign.ensures ∙ ap (sign_of c.args.table.now) c.from.ensures in
    let is : depth_by (sign_of c.args.table.now (get_or c.args.bytes.now l.byte-index 0)) l.depth ≡ depth_by c.from-sign.result l.depth = ap (λ (g : Sign). depth_by g l.depth) (sym sign) in
    elim c.if-eq.branch [
      | then-eq w ↦ matching_step l.invariant (omega arith) (is ∙ depth_quote c.from-sign.result l.depth (same_true the_type tt _ Quote (sym c.eq.ensures ∙ w.if-eq.true)) ∙ ap Some (sym w.depth-is))
      | else-eq+then-eq-2+else-depth-eq0 w ↦ matching_step l.invariant (omega arith) (is ∙ depth_unquote c.from-sign.result l.depth (same_true the_type tt _ Unquote (sym w.eq-else-eq.ensures ∙ w.if-eq-2.true)) (omega arith) ∙ ap Some (sym w.depth-is))
      | else-eq+else-eq-2 w ↦ matching_step l.invariant (omega arith) (is ∙ depth_other c.from-sign.result l.depth (same_false the_type _ Quote (sym c.eq.ensures ∙ w.if-eq.false)) (same_false the_type _ Unquote (sym w.eq-else-eq.ensures ∙ w.if-eq-2.false)) ∙ ap Some (sym w.depth-is))
    ]

pub returns : goal.returns
returns c = sym (matching_end c.loop-byte.invariant (omega arith))
