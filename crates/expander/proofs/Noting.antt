-- A whole run of the machine that notes its origins.
use Prim.Native.Nat.{ℕ, ◌-◌, ◌≤◌, min}
use native.Mathlib.Omega.{arith}
use native.Mathlib.Nat.{zero-add}
use mathlib.Core.Path.{◌≡◌, sym, ap, ◌∙◌}
use mathlib.Core.Bool.{false}
use mathlib.Core.List.{List, ◌++◌}
use Rattle.std.specs.Prelude.{Option, None}
use lib.ListN.{length, drop}
use Rattle.memory.specs.Block.{placed}
use Rattle.language.specs.Signs.{Bytes, Table, text_limit, cells_limit}
use Rattle.language.specs.Refusals.{refused_by}
use Rattle.language.specs.Octets.{Octets}
use Rattle.language.specs.BuiltIns.{built_ins}
use Rattle.language.specs.Scanning as S
use Rattle.language.specs.Expansion.{Lent, given, Returned, refusals, overwritten, expanded}
use Rattle.language.specs.Origins.{origins, reads_of, rules_of, Numbers, numbers, GivenNumbers, ReturnedNumbers, returned_with, short_numbers, answered_with, expanded_origins, ExpandedOrigins}
use Rattle.language.proofs.Origins.{accepted_as, ordinary, origins-expanded}
use Rattle.language.specs.Groups.{groups}
use Rattle.machine.specs.Index.{no_heads}
use Rattle.machine.specs.Machine.{fresh, last_scan}
use Rattle.machine.specs.Origins.{Notes}
use Rattle.machine.proofs.Fresh.{fresh_holds}
use Rattle.machine.proofs.Advancing.{range_in}
use Rattle.expander.specs.Reports.{NotedIn}
use Rattle.expander.proofs.Running.{free}

-- from the first place on
from_first : (xs l : List ℕ) → placed 0 xs l ≡ overwritten xs l
from_first xs l = ap (λ (k : ℕ). xs ++ drop k l) (zero-add (length xs))

-- what the machine noted from its fresh standing are the origins of the run
pub noted_all : (T : Table) (text : Bytes) (allowance : ℕ) (m : Lent) (ns ns' : Numbers)
    → Notes T text allowance (fresh (length m.cells)) (no_heads groups) m ns ns' → length m.cells ≤ cells_limit → length text ≤ text_limit → Octets text → allowance ≤ last_scan
    → NotedIn (given T text m allowance) ns ns'
noted_all T text allowance m ns ns' h small short oct fits long =
    let x = fresh_holds text m small oct in
    let all : min allowance (last_scan - 0) ≡ allowance = omega arith in
    let n = rw all at (h.noted (range_in _ _ _ x.in_range)) in
    let os = origins (given T text m allowance) in
    n m.output (S.start text built_ins) x long (omega arith)
    ∙ ap (λ (y : List ℕ). numbers y (placed 0 (rules_of os) ns.rules)) (from_first (reads_of os) ns.origins)
    ∙ ap (numbers (overwritten (reads_of os) ns.origins)) (from_first (rules_of os) ns.rules)

-- a run that is reported so, with its origins
pub expands_origins : (g : GivenNumbers) {x : Returned} {ns : Numbers} → refused_by (refusals g.given) ≡ None → short_numbers g ≡ false
    → x ≡ expanded g.given → NotedIn g.given g.numbers ns → returned_with x ns ≡ expanded_origins g
unfolding expanded_origins
expands_origins g {x} {ns} pass long is h =
    ap (λ (y : Returned). returned_with y ns) (is ∙ sym (ordinary g long))
    ∙ ap (returned_with (expanded_origins g).returned) (h long ∙ ap (λ (r : Option ℕ). (answered_with r g).numbers) (sym ((accepted_as g).1 (pass, long))))

-- a whole run from the built-ins, and demand 3 of it
pub delivers_origins : (g : GivenNumbers) → g.given.definitions ≡ built_ins → {x : ReturnedNumbers} → x ≡ expanded_origins g → ExpandedOrigins g x
delivers_origins g from e = origins-expanded g (free g.given from) e
