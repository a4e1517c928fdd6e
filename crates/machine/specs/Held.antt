-- Lent memory and a run that hold a standing of the language.
use Rattle.std.specs.Prelude.{Option, None, Some}
use Rattle.std.specs.Prelude.{ℕ, zero, suc, ◌+◌, ◌≤◌, ◌≡◌, cond, List, [], ◌∷◌, ◌++◌, length, take, drop, get_or, eqb, leb}
use Rattle.memory.specs.Block.{block}
use Rattle.language.specs.Signs.{cells_limit}
use Rattle.language.specs.Outcomes.{number_of}
use Rattle.language.specs.Definitions.{Definition, macro}
use Rattle.language.specs.Ends.{End}
use Rattle.language.specs.Scanning.{State, Standing}
use Rattle.language.specs.Expansion.{Lent}
use Rattle.machine.specs.declared.run.Run.{Run}
use Rattle.machine.specs.declared.run.Answer.{Answer}
use Rattle.machine.specs.declared.run.Answer.TheVariants.{GoesOn, Ended, Damaged, Refused}
use Rattle.machine.specs.Walks.{head_size, list_overhead, high, low, is_locked, name_length, room, value_length, size, list_link, group_link}
use Rattle.machine.specs.Items.{Item, encode, width, definitions_of, count}
use Rattle.machine.specs.Index.{Index}
use Rattle.machine.specs.Frames.{Places, Frame, items, places, lefts, calls, bodies, Valid}
use Rattle.machine.specs.Machine.{After}

-- The definitions in the cells ---------------------------------------------------------------------------------------

-- the definition at a position: "name, value and defined length", and whether it is locked
abbrev pub definition_at : List ℕ → ℕ → Definition
definition_at l p = record {
  name = block (p + head_size) (name_length l p) l;
  content = macro (record { value = block (p + head_size + name_length l p) (value_length l p) l; room = room l p; locked = is_locked l p });
}

-- the position and the list behind an item
abbrev pub next_position : List ℕ → ℕ → ℕ → ℕ
next_position l p list = cond (eqb p list) (p + high (list_link l p) + list_overhead) (p + size l p)

abbrev pub next_list : List ℕ → ℕ → ℕ → ℕ
next_list l p list = cond (eqb p list) (low (list_link l p)) list

-- from a position on, newest first, in at most so many turns: the lists of bodies, known by their positions, are stepped over
unfoldable pub definitions_held_from : ℕ → List ℕ → ℕ → ℕ → List Definition
definitions_held_from zero l p list = []
definitions_held_from (suc t) l p list =
    let r = definitions_held_from t l (next_position l p list) (next_list l p list) in
    cond (leb (length l) p) [] (cond (eqb p list) r (definition_at l p ∷ r))

-- the definitions that the cells hold from `right` on, where `list` is the list of the innermost body being read
abbrev pub definitions_held : List ℕ → ℕ → ℕ → List Definition
definitions_held l right list = definitions_held_from (length l) l right list

-- the definitions of a group: from the one at a position on, each linked to the next older one, in at most so many turns
unfoldable pub group_held_from : ℕ → List ℕ → ℕ → List Definition
group_held_from zero l p = []
group_held_from (suc t) l p = let r = group_held_from t l (group_link l p) in cond (leb (length l) p) [] (definition_at l p ∷ r)

abbrev pub group_held : List ℕ → List ℕ → ℕ → List Definition
group_held l heads g = group_held_from (length l) l (get_or heads g 0)

-- What a run shows ---------------------------------------------------------------------------------------------------

-- The standing that is read off a run and what is lent. `older` are the definitions that stand in no cell, older than all
-- others: the built-ins. No law about cells looks at them, so they are a parameter.
abbrev pub shown : List Definition → Run → Lent → Standing
shown older r m = record {
  definitions = definitions_held m.cells r.right r.source.list ++ older;
  output = take r.counts.written m.output;
  read = r.counts.read;
  scans = r.counts.scans;
  most = r.counts.most;
}

-- so many bytes of the output are the bytes bs, and the later ones are as in `start`, which the output held at first
pub record Written (start : List ℕ) (many : ℕ) (o bs : List ℕ) : Type 0 where
  pub written : many ≡ length bs
  pub output : o ≡ bs ++ drop (length bs) start
  pub enough : length bs ≤ length start

-- it shows this standing, and counts the bytes written and the definitions in the cells
pub record Shows (older : List Definition) (start : List ℕ) (r : Run) (m : Lent) (w : Standing) : Type 0 where
  pub standing : shown older r m ≡ w
  pub wrote : Written start r.counts.written m.output w.output
  pub live : r.counts.live ≡ length (definitions_held m.cells r.right r.source.list)

-- the standing that an end reports
abbrev pub standing_of : End → Standing
standing_of e = record { definitions = e.definitions; output = e.output; read = e.read; scans = e.scans; most = e.most }

-- the number of the outcome that a run ended with
abbrev pub outcome_in : Answer → Option ℕ
outcome_in GoesOn = None
outcome_in (Ended outcome) = Some (number_of outcome)
outcome_in Damaged = None
outcome_in Refused = None

-- what a function leaves is that end
pub record EndsAs (older : List Definition) (start : List ℕ) (a : After) (e : End) : Type 0 where
  pub answer : outcome_in a.answer ≡ Some e.outcome
  pub shows : Shows older start a.run a.lent (standing_of e)

-- How a state lies in the cells --------------------------------------------------------------------------------------

-- the right stack of n cells holds the definitions ds, newest first
pub record Stands (n : ℕ) (older : List Definition) (its : List Item) (from stand : ℕ) (l : List ℕ) (ds : List Definition) : Type 0 where
  pub size : length l ≡ n
  pub right : from + width its ≡ n
  pub cells : drop from l ≡ encode its
  pub definitions : ds ≡ definitions_of its ++ older
  pub live : stand ≡ count its

-- a standing lies so, its definitions in these items, which the heads index
pub record Lies (n : ℕ) (older : List Definition) (heads start : List ℕ) (its : List Item) (r : Run) (m : Lent) (w : Standing) : Type 0 where
  pub stands : Stands n older its r.right r.counts.live m.cells w.definitions
  pub indexed : Index n its heads
  pub wrote : Written start r.counts.written m.output w.output
  pub read : r.counts.read ≡ w.read
  pub scans : r.counts.scans ≡ w.scans
  pub most : r.counts.most ≡ w.most

abbrev pub places_of : Run → Places
places_of r = record {
  left = r.calls.left;
  call = r.calls.call;
  hand = r.calls.hand;
  list = r.source.list;
  body = r.source.body;
  offset = r.source.offset;
}

-- the run, the heads and what is lent hold the state s of a run over the text `whole`
pub record Represents (n : ℕ) (older : List Definition) (heads whole start : List ℕ) (r : Run) (m : Lent) (s : State) : Type 0 where
  pub frames : List Frame
  pub valid : Valid n (length older) frames
  pub lies : Lies n older heads start (items n (length older) frames) r m s.standing
  pub cells_lent : n ≤ cells_limit
  pub ordered : r.calls.left ≤ r.right
  -- as many cells are in use as are charged
  pub in_use : r.charge + r.right ≡ r.calls.left + n
  pub places_are : places_of r ≡ places n (length older) frames
  pub lefts_are : take r.calls.left m.cells ≡ lefts n (length older) frames
  pub calls_are : s.calls ≡ calls n (length older) frames
  pub bodies_are : s.bodies ≡ bodies n (length older) frames
  pub ahead : drop r.counts.read whole ≡ s.text
  pub quotes : r.quotes ≡ s.quotes
