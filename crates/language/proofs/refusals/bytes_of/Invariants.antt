-- The entries of the kind among those that were looked at are counted.
use Rattle.std.proofs.Common.{◌≡◌, ◌≤◌, take, nat_eq}
use Rattle.std.specs.Prelude.{count_by}
use Rattle.language.proofs.refusals.bytes_of.Given as goal

abbrev pub invariant-loop-of : goal.invariant-loop-of
invariant-loop-of l = (l.count ≤ l.of-index) × (l.count ≡ count_by (λ x. nat_eq x l.kind) (take l.of-index l.table))
