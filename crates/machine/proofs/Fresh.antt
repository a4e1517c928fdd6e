-- The fresh standing of a run.
use Prim.Native.Nat.{ℕ, zero, suc, ◌≤◌, zero-le}
use native.Mathlib.Omega.{arith}
use mathlib.Core.Path.{◌≡◌, refl, sym}
use mathlib.Core.List.{List, [], ◌∷◌}
use lib.ListN.{length, drop}
use Rattle.language.specs.Signs.{Bytes, cells_limit}
use Rattle.language.specs.Groups.{groups}
use Rattle.language.specs.BuiltIns.{built_ins}
use Rattle.language.specs.Octets.{Octets}
use Rattle.language.specs.Scanning as S
use Rattle.language.specs.Expansion.{Lent}
use Rattle.language.proofs.Octets.{octets_start, built_ins_octets}
use Rattle.language.proofs.Demand.{built_ins_free}
use Rattle.machine.specs.Machine.{fresh}
use Rattle.machine.specs.Items.{encode, definitions_of}
use Rattle.machine.specs.Frames.{laid, lefts, calls, bodies, Valid}
use Rattle.machine.specs.Index.{no_heads}
use Rattle.machine.specs.Moving.{Holds}
use Rattle.machine.proofs.Indexing.{no_index}

-- nothing stands past the end of a list
past : (l : List ℕ) (k : ℕ) → length l ≤ k → drop k l ≡ []
past [] zero h = refl
past [] (suc k) h = refl
past (x ∷ l) zero h = absurd (omega arith)
past (x ∷ l) (suc k) h = past l k (omega arith)

-- it holds the state from which a run starts
pub fresh_holds : (text : Bytes) (m : Lent) → length m.cells ≤ cells_limit → Octets text
    → Holds (no_heads groups) text m.output (fresh (length m.cells)) m (S.start text built_ins)
unfolding laid lefts calls bodies Valid encode definitions_of S.calls_charge S.bodies_charge
fresh_holds text m small oct = record {
  represents = record {
    frames = [];
    valid = tt;
    lies = record {
      stands = record { size = refl; right = omega arith; cells = past m.cells (length m.cells) (omega arith); definitions = refl; live = refl };
      indexed = no_index (length m.cells);
      wrote = record { written = refl; output = refl; enough = zero-le };
      read = refl;
      scans = refl;
      most = sym built_ins_free;
    };
    cells_lent = small;
    ordered = zero-le;
    in_use = refl;
    places_are = refl;
    lefts_are = refl;
    calls_are = refl;
    bodies_are = refl;
    ahead = refl;
    quotes = refl;
  };
  octets = octets_start oct built_ins_octets;
  in_range = record {
    ready = record {
      cells_lent = small;
      ordered = zero-le;
      inside = omega arith;
      in_use = refl;
      call_below = omega arith;
      hand_below = zero-le;
      list_below = omega arith;
      body_below = zero-le;
      offset_below = zero-le;
      quotes_below = omega arith;
      live_below = zero-le;
    };
    written = zero-le;
  };
  carries = omega (arith, built_ins_free);
}
