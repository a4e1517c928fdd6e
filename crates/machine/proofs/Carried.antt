-- The charge is carried from scan to scan.
use Prim.Native.Nat.{ℕ, ◌≤◌}
use mathlib.Core.Path.{sym}
use lib.ListN.{length}
use Rattle.language.specs.Signs.{Bytes, Table, language, cells_limit}
use Rattle.language.specs.Groups.{groups}
use Rattle.language.specs.BuiltIns.{built_ins}
use Rattle.language.specs.Octets.{Octets}
use Rattle.language.specs.Scanning.{Step, next, stop, start, scans}
use Rattle.language.specs.Expansion.{Lent, limits_of}
use Rattle.language.proofs.Demand.{built_ins_free}
use Rattle.machine.specs.Machine.{Indexed, fresh, goes, keeping, steps}
use Rattle.machine.specs.Index.{no_heads}
use Rattle.machine.specs.Carried.{Carries}
use Rattle.machine.proofs.Represents.{SimulatesIndexed, goes as simulates, stops, charge_is}
use Rattle.machine.proofs.Fresh.{fresh_holds}
use Rattle.machine.proofs.Steps.{steps_sim}

-- "The figure is the one document 01 defines at every scan": of every run, over any text of bytes, under any table, in whatever is
-- lent up to the limit of cells, and after any number of scans.
pub charge_carried : (T : Table) (text : Bytes) (m : Lent) → Octets text → length m.cells ≤ cells_limit → (k : ℕ)
    → Carries (steps k T text (keeping (no_heads groups) (goes (fresh (length m.cells)) m))).after
    (scans (limits_of (length m.cells) (length m.output)) (language T) k (next (start text built_ins)))
charge_carried T text m oct small k =
    let h = fresh_holds text m small oct in
    go _ (steps_sim T text m.output (length m.cells) k h.represents h.octets)
  where
    go : {a : Indexed} (t : Step) → SimulatesIndexed (length m.cells) built_ins text m.output a t → Carries a.after t
    go (next s) (simulates e h) = (e, sym (charge_is built_ins_free h))
    go (stop e) (stops h) = h.answer
