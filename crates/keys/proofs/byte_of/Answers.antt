-- From `byte` on none has the kind.
use Prim.Native.Nat.{ℕ, suc, ◌-◌}
use mathlib.Core.Path.{◌≡◌, sym, ap, ◌∙◌}
use native.Mathlib.Omega.{arith}
use lib.ListN.{get_or}
use borrow.Author.Tests.{eq-eqb, ne_eqb}
use Rattle.language.specs.Refusals.{has_kind}
use Rattle.keys.specs.Scripts.{last_below, byte_of}
use Rattle.keys.proofs.Writing.{last_here, last_lower}
use Rattle.keys.proofs.byte_of.Goals as goal

pub returns-then-table-byte : goal.returns-then-table-byte
returns-then-table-byte c =
    let T = c.args.table.now in
    let kind = c.from-kind.result in
    let l = c.loop-byte in
    let is : l.byte ≡ suc (l.byte - 1) = omega arith in
    sym (ap (byte_of T) (sym c.from-kind.ensures) ∙ l.invariant ∙ ap (λ (n : ℕ). last_below n (has_kind T kind)) is ∙ last_here (l.byte - 1) (has_kind T kind) (eq-eqb (get_or T (l.byte - 1) 0) kind c.if-table-byte.true))

pub loop-byte-preserved : goal.loop-byte-preserved
loop-byte-preserved c =
    let T = c.args.table.now in
    let kind = c.from-kind.result in
    let l = c.loop-byte in
    let is : l.byte ≡ suc (l.byte - 1) = omega arith in
    l.invariant ∙ ap (λ (n : ℕ). last_below n (has_kind T kind)) is ∙ last_lower (l.byte - 1) (has_kind T kind) (ne_eqb (get_or T (l.byte - 1) 0) kind c.if-table-byte.false)

pub returns : goal.returns
unfolding last_below
returns c =
    let T = c.args.table.now in
    let kind = c.from-kind.result in
    let l = c.loop-byte in
    let none : l.byte ≡ 0 = omega arith in
    sym (ap (byte_of T) (sym c.from-kind.ensures) ∙ l.invariant ∙ ap (λ (n : ℕ). last_below n (has_kind T kind)) none)
