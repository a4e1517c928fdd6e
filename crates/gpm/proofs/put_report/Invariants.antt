-- The line begins with the items so far, each of at most 21 bytes.
use Rattle.std.proofs.Common.{◌*◌, ◌≤◌, ◌≡◌, ◌++◌, ℕ, List, [], take}
use Rattle.std.specs.List.{fold}
use Rattle.gpm.specs.Line.{item}
use Rattle.gpm.proofs.put_report.Given as goal

abbrev pub with_item : List ℕ → ℕ × ℕ → List ℕ
with_item line x = line ++ item x.0 x.1

abbrev pub invariant-loop-number : goal.invariant-loop-number
invariant-loop-number l = (l.len ≤ 21 * l.number-index) × (take l.len l.line ≡ fold with_item [] (take l.number-index l.number-items))
