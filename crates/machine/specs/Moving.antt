-- What the one exported call promises: at most so many scans from a standing.
use Rattle.std.specs.Prelude.{ℕ, ◌+◌, ◌-◌, min, ◌≡◌, Bool, true, false, cond, List, length, eqb, leb, ltb}
use Rattle.language.specs.Signs.{Bytes, Table, language, cells_limit}
use Rattle.language.specs.BuiltIns.{built_ins}
use Rattle.language.specs.Octets.{HoldsOctets}
use Rattle.language.specs.Scanning.{State, Step, next, stop, charge, scans}
use Rattle.language.specs.Expansion.{Lent, limits_of}
use Rattle.machine.specs.declared.run.Run.{Run}
use Rattle.machine.specs.declared.run.Answer.TheVariants.{GoesOn, Refused}
use Rattle.machine.specs.declared.run.Stepped.{Stepped}
use Rattle.machine.specs.Walks.{nowhere}
use Rattle.machine.specs.Machine.{last_scan, InRange, leaves}
use Rattle.machine.specs.Held.{Represents, EndsAs}

-- the tests of a standing in n cells and k bytes of output
abbrev pub places_below : Run → Bool
places_below r =
    cond (ltb nowhere r.calls.call) false
    (cond (ltb cells_limit r.calls.hand) false
    (cond (ltb nowhere r.source.list) false
    (cond (ltb nowhere r.source.body) false
    (cond (ltb 4294967296 r.source.offset) false (leb r.quotes r.counts.scans)))))

abbrev pub is_in_range : Run → ℕ → ℕ → Bool
is_in_range r n k =
    cond (ltb cells_limit n) false
    (cond (ltb n r.right) false
    (cond (ltb r.right r.calls.left) false
    (cond (ltb n r.charge) false
    (cond (eqb (r.charge + r.right) (r.calls.left + n))
    (cond (ltb cells_limit r.counts.live) false (cond (ltb k r.counts.written) false (places_below r)))
    false))))

-- The run r, the heads of the index and what is lent hold the state s of a run over the text, and its numbers are in range. `start`
-- is what the output held at first. Whatever bytes it holds now, it holds some state: that with those bytes as its output so far.
pub record Holds (heads : List ℕ) (text start : Bytes) (r : Run) (m : Lent) (s : State) : Type 0 where
  pub represents : Represents (length m.cells) built_ins heads text start r m s
  pub octets : HoldsOctets s
  pub in_range : InRange (length m.cells) (length m.output) r
  -- "The figure is the one document 01 defines": what is carried is the sum over all lists and live definitions
  pub carries : r.charge ≡ charge s

-- what the call leaves is what the scans came to: a state that goes on, or an end
abbrev pub Comes : List ℕ → Bytes → Bytes → Stepped → Lent → Step → Type 0
Comes heads text start st m (next s) = (st.answer ≡ GoesOn) × Holds heads text start st.run m s
Comes heads text start st m (stop e) = EndsAs built_ins start (leaves st m) e

-- no scan is made past the largest count
abbrev pub portion : ℕ → ℕ → ℕ
portion allowance made = min allowance (last_scan - made)

-- At most `due` scans from a standing whose numbers are in range. The heads h and what is lent, m, are those before, h' and m' those
-- afterwards.
pub record Advances (T : Table) (text : Bytes) (due : ℕ) (r : Run) (h : List ℕ) (m : Lent) (st : Stepped) (h' : List ℕ) (m' : Lent) : Type 0 where
  -- it is not refused, and where it goes on its numbers are in range again
  pub answered : st.answer ≡ Refused → ⊥
  pub ranged : st.answer ≡ GoesOn → InRange (length m.cells) (length m.output) st.run
  -- whatever state it holds, it moves as the scanning does
  pub moves : (start : Bytes) (s : State) → Holds h text start r m s
      → Comes h' text start st m' (scans (limits_of (length m.cells) (length m.output)) (language T) due (next s))

-- a standing whose numbers are out of range is refused, and nothing is touched
pub record Moves (T : Table) (text : Bytes) (allowance : ℕ) (r : Run) (h : List ℕ) (m : Lent) (st : Stepped) (h' : List ℕ) (m' : Lent) : Type 0 where
  pub refused : is_in_range r (length m.cells) (length m.output) ≡ false → (st ≡ record { run = r; answer = Refused }) × (h' ≡ h) × (m' ≡ m)
  pub advanced : is_in_range r (length m.cells) (length m.output) ≡ true
      → Advances T text (portion allowance r.counts.scans) r h m st h' m'
