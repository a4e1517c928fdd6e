-- What is read off a run and its memory is the standing that lies there: the cells determine the definitions.
use Prim.Native.Nat.{ℕ, ◌≤◌}
use mathlib.Core.Path.{◌≡◌, refl, sym, ap, ◌∙◌}
use mathlib.Core.Bool.{true, false}
use mathlib.Core.List.{List, [], ◌∷◌}
use lib.ListN.{length, take, drop}
use lib.Seq.{take_at}
use Rattle.language.specs.Signs.{cells_limit}
use Rattle.language.specs.Definitions.{Definition, macro}
use Rattle.language.specs.Scanning.{State, Standing}
use Rattle.language.specs.Expansion.{Lent}
use Rattle.machine.specs.declared.run.Run.{Run}
use Rattle.machine.specs.Walks.{nowhere}
use Rattle.machine.specs.Items.{Head, defined, listed, encode_arguments, encode, definitions_of}
use Rattle.machine.specs.Frames.{Places, Frame, items, places, Valid}
use Rattle.machine.specs.Held.{definitions_held_from, definitions_held, Written, Shows, Lies, Represents}
use Rattle.machine.proofs.Finds.{held_finds}

-- the bytes written are those of the output
written_is : {start o bs : List ℕ} {many : ℕ} → Written start many o bs → take many o ≡ bs
written_is {start} {o} {bs} {many} h = rw h.output (take_at bs (drop (length bs) start) many (sym h.written))

-- a standing that lies in the items of frames is the one that is shown
pub shows_of : {n : ℕ} {older : List Definition} {heads start : List ℕ} {r : Run} {m : Lent} {w : Standing} (fs : List Frame)
    → Valid n (length older) fs → n ≤ cells_limit → r.source.list ≡ (places n (length older) fs).list
    → Lies n older heads start (items n (length older) fs) r m w → Shows older start r m w
shows_of {n} {older} {heads} {start} {r} {m} {w} fs valid small at h =
    let s = h.stands in
    let held : definitions_held m.cells r.right r.source.list ≡ definitions_of (items n (length older) fs) =
    held_finds n (length older) fs valid (record { size = s.size; cells_lent = small; ends = s.right; cells = s.cells }) at in
    record {
      standing = rw (held, sym s.definitions, written_is h.wrote, h.read, h.scans, h.most);
      wrote = h.wrote;
      live = s.live ∙ ap length (sym held);
    }

-- a run shows the standing of the state that it holds
pub state_shown : {n : ℕ} {older : List Definition} {heads whole start : List ℕ} {r : Run} {m : Lent} {s : State}
    → Represents n older heads whole start r m s → Shows older start r m s.standing
state_shown h = shows_of h.frames h.valid h.cells_lent (ap (λ (p : Places). p.list) h.places_are) h.lies

-- Cells that items encode in two ways: `list` says which they are ----------------------------------------------------

abbrev twofold : List ℕ
twofold = 0 ∷ 0 ∷ 0 ∷ 0 ∷ 65536 ∷ 0 ∷ 0 ∷ 2 ∷ 0 ∷ 65536 ∷ 0 ∷ 0 ∷ []

-- unlocked, and the oldest of its group
abbrev plain : Head
plain = record { lock = 0; link = 65536 }

encoded_twice : (encode (defined plain [] [] [] ∷ defined plain [] [] (0 ∷ 0 ∷ []) ∷ []) ≡ twofold)
    × (encode (listed 0 0 0 ([] ∷ []) ∷ defined plain [] [] (0 ∷ 0 ∷ []) ∷ []) ≡ twofold)
unfolding encode encode_arguments
encoded_twice = (refl, refl)

-- a definition without a name, and with an empty value in this room
abbrev empty : ℕ → Definition
empty k = record { name = []; content = macro (record { value = []; room = k; locked = false }) }

pub read_as_definitions : definitions_held twofold 0 nowhere ≡ empty 0 ∷ empty 2 ∷ []
unfolding definitions_held_from
read_as_definitions = refl

pub read_behind_a_list : definitions_held twofold 0 0 ≡ empty 2 ∷ []
unfolding definitions_held_from
read_behind_a_list = refl

-- name, value, defined length and lock, from the cells before them
pub read_whole : definitions_held (7 ∷ 0 ∷ 2 ∷ 3 ∷ 1 ∷ 65536 ∷ 107 ∷ 109 ∷ 97 ∷ 98 ∷ 99 ∷ 1 ∷ 1 ∷ 0 ∷ 0 ∷ 65536 ∷ 107 ∷ []) 1 nowhere
    ≡ record { name = 107 ∷ 109 ∷ []; content = macro (record { value = 97 ∷ []; room = 3; locked = false }) }
    ∷ record { name = 107 ∷ []; content = macro (record { value = []; room = 0; locked = true }) }
    ∷ []
unfolding definitions_held_from
read_whole = refl
