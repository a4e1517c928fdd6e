-- An empty name is turned away; else the definition is put in place once the call has ended and what it defined is gone from the index.
use mathlib.Core.Path.{ap}
use mathlib.Core.List.{[]}
use native.Mathlib.Omega.{arith}
use Rattle.language.specs.Expansion.{lent}
use Rattle.machine.specs.Machine.{After}
use Rattle.machine.proofs.Leaves.{ended, not_defined, defines, roomy, release_right}
use Rattle.machine.proofs.run.Run.def.Goals as goal

pub unindex-requires : goal.unindex-requires
unindex-requires c =
    let small = release_right c.args.self (lent c.args.cells.now []) (omega arith) (omega arith) in
    omega (arith, ap (λ (a : After). a.run.right) (c.release-st.ensures []))

pub returns-in_default : goal.returns-in_default
returns-in_default c =
    let a = c.args in
    λ o. not_defined a.self a.name a.value a.heads.now (lent a.cells.now o) c.read-letters.ensures c.if-letters-eq0.false (c.release-st.ensures o) (c.unindex.ensures o) (ended c.release-st.result.answer c.in_default.in_default-own.keys2)

pub define_in-requires : goal.define_in-requires
define_in-requires c =
    let w = roomy c.args.self _ _ _ _ (lent _ []) c.requires.0 (c.release-st.ensures []) c.in-GoesOn.is in
    omega arith

pub returns : goal.returns
returns c =
    let a = c.args in
    λ o. defines a.self a.name a.value a.heads.now (lent a.cells.now o) c.read-letters.ensures c.if-letters-eq0.false c.read-bytes.ensures (c.release-st.ensures o) (c.unindex.ensures o) c.in-GoesOn.is (c.define_in.ensures o)
