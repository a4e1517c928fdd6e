-- The index holds what stands, at every scan; a lookup by it finds what reading all finds; and what each walk costs.
use Prim.Native.Nat.{ℕ, zero, suc, ◌+◌, ◌≤◌}
use native.Mathlib.Omega.{arith}
use mathlib.Core.Path.{◌≡◌, refl, sym, ap, ◌∙◌}
use mathlib.Core.Bool.{Bool, true, false, cond}
use mathlib.Core.List.{List, [], ◌∷◌, ◌++◌}
use Rattle.std.specs.Prelude.{Option}
use lib.ListN.{length, drop}
use lib.Dec.{eqb}
use borrow.Author.Tests.{le-leb, lt-leb, eqb-true}
use Rattle.language.specs.Signs.{Bytes, Table, language, cells_limit}
use Rattle.language.specs.Definitions.{Definition, macro}
use Rattle.language.specs.Definitions as D
use Rattle.language.specs.Groups.{groups, group, of_group, content_of}
use Rattle.language.proofs.Groups.{of_group-append}
use Rattle.language.specs.BuiltIns.{built_ins}
use Rattle.language.specs.Octets.{Octets, HoldsOctets}
use Rattle.language.specs.Scanning.{State, Step, next, stop, start, scans}
use Rattle.language.specs.Expansion.{Lent, limits_of}
use Rattle.machine.specs.declared.run.Run.{Run}
use Rattle.machine.specs.Walks.{mark}
use Rattle.machine.specs.Machine.{Indexed, fresh, goes, keeping, steps}
use Rattle.machine.specs.Items.{Item, defined, listed, encode_item, encode, width, definitions_of, count, Definitions}
use Rattle.machine.specs.Frames.{address, items}
use Rattle.machine.specs.Index.{newest_in, Linked, no_heads}
use Rattle.machine.specs.Held.{definition_at, group_held_from, Represents}
use Rattle.machine.specs.Grouped.{Grouped, Indexes, content_at, position_after}
use Rattle.machine.proofs.Items.{width-cons}
use Rattle.machine.proofs.Represents.{SimulatesIndexed, goes as simulates, stops}
use Rattle.machine.proofs.Finds.{HoldsItems, DefinitionAt, held, holds_rest, item-size, drop-item, definition_read, definition_turned, link_at, Newest, absent, present, newest_finds}
use Rattle.machine.proofs.Fresh.{fresh_holds}
use Rattle.machine.proofs.Steps.{steps_sim}

-- What a group holds -------------------------------------------------------------------------------------------------

-- a group is read as it is, given turns enough
group_in : {n : ℕ} {l : List ℕ} (turns g : ℕ) {p : ℕ} (its : List Item) → HoldsItems n l p its → Linked n its → width its ≤ turns
    → group_held_from turns l (newest_in n g its) ≡ of_group g (definitions_of its)
unfolding group_held_from newest_in Linked encode definitions_of of_group
group_in zero g [] h k w = refl
group_in {n} {l} (suc turns) g [] h k w = rw (le-leb (length l) mark (omega (arith, h.size, h.cells_lent)))
group_in turns g (listed to links reader args ∷ its) h k w =
    group_in turns g its (holds_rest h) k (omega (arith, width-cons (listed to links reader args) its))
group_in zero g (defined f own value spare ∷ its) h k w =
    absurd (omega (arith, width-cons (defined f own value spare) its, item-size (defined f own value spare)))
group_in {n} {l} (suc turns) g {p} (defined f own value spare ∷ its) h k w =
    go (eqb (group own) g) refl (group_in turns g its (holds_rest h) k.1 (omega (arith, a, z))) (group_in (suc turns) g its (holds_rest h) k.1 (omega (arith, a, z)))
  where
    i : Item
    i = defined f own value spare

    a : width (i ∷ its) ≡ length (encode_item i) + width its
    a = width-cons i its

    z : 4 ≤ length (encode_item i)
    z = item-size i

    at : address n (i ∷ its) ≡ p
    at = omega (arith, h.ends)

    go : (b : Bool) → eqb (group own) g ≡ b → group_held_from turns l (newest_in n g its) ≡ of_group g (definitions_of its)
        → group_held_from (suc turns) l (newest_in n g its) ≡ of_group g (definitions_of its)
        → group_held_from (suc turns) l (cond b (address n (i ∷ its)) (newest_in n g its))
        ≡ cond b (definitions_of (i ∷ []) ++ of_group g (definitions_of its)) (of_group g (definitions_of its))
    go true e r₁ r₂ =
        let q : group own ≡ g = eqb-true (group own) g e in
        rw (at, lt-leb (length l) p (omega (arith, h.size, h.ends, a, z)), definition_read l p f own value spare its [] (held h), link_at l p f own value spare its [] (held h) ∙ k.0, q, r₁)
    go false e r₁ r₂ = r₂

-- a definition as its cells have it
definition_is : {l : List ℕ} {d : ℕ} {t : Bytes} {c : D.Macro} → DefinitionAt l d t c → (definition_at l d).content ≡ macro c
definition_is x = rw (x.named, x.valued, x.roomy, x.locking, x.value_is)

-- Wherever a state is held, the index is of what stands in it: from any older definitions.
pub index_held : {n : ℕ} {older : List Definition} {heads whole start : List ℕ} {r : Run} {m : Lent} {s : State} → Represents n older heads whole start r m s
    → Grouped older heads m.cells s.standing.definitions
index_held {n} {older} {heads} {r = r} {m = m} {s = s} h =
    record {
      held = λ g q.
          let read : group_held_from (length l) l (newest_in n g its) ≡ of_group g (definitions_of its) = group_in (length l) g its holds h.lies.indexed.linked (omega (arith, h.lies.stands.right, h.lies.stands.size)) in
          rw (h.lies.indexed.headed g q, read, h.lies.stands.definitions) (sym (of_group-append g (definitions_of its) older));
      finds = λ name t c is fits.
          by t (newest_finds h.frames h.valid holds {heads = heads} name t h.lies.indexed c is (omega (arith, h.lies.stands.size)));
    }
  where
    l : List ℕ
    l = m.cells

    its : List Item
    its = items n (length older) h.frames

    holds : HoldsItems n l r.right its
    holds = record { size = h.lies.stands.size; cells_lent = h.cells_lent; ends = h.lies.stands.right; cells = h.lies.stands.cells }

    by : (t : Bytes) {x : Option ℕ} → Newest n (length older) l r.right its t x
        → content_at l x (content_of (D.newest t older)) ≡ content_of (D.newest t s.standing.definitions)
    by t (absent f) = rw (h.lies.stands.definitions, f older)
    by t (present d f) = rw (h.lies.stands.definitions, f older refl, definition_is d.cells)

-- "after every DEF, UPDATE, LOCK, end of call": after any number of scans from any state that is held, whatever definitions stand in it
pub index_kept : (T : Table) (text first : Bytes) (n : ℕ) {r : Run} {heads : List ℕ} {m : Lent} {s : State} → Represents n built_ins heads text first r m s → HoldsOctets s
    → (k : ℕ) → Indexes (steps k T text (keeping heads (goes r m))) (scans (limits_of n (length first)) (language T) k (next s))
index_kept T text first n h oct k = go _ (steps_sim T text first n k h oct)
  where
    go : {x : Indexed} (t : Step) → SimulatesIndexed n built_ins text first x t → Indexes x t
    go (next s) (simulates e y) = (e, index_held y)
    go (stop e) (stops y) = y.answer

-- so after every scan of every run, over any text of bytes, under any table, in whatever is lent up to the limit of cells
pub index_carried : (T : Table) (text : Bytes) (m : Lent) → Octets text → length m.cells ≤ cells_limit → (k : ℕ)
    → Indexes (steps k T text (keeping (no_heads groups) (goes (fresh (length m.cells)) m)))
    (scans (limits_of (length m.cells) (length m.output)) (language T) k (next (start text built_ins)))
index_carried T text m oct small k =
    let h = fresh_holds text m small oct in
    index_kept T text m.output (length m.cells) h.represents h.octets k

-- What a walk costs --------------------------------------------------------------------------------------------------

-- At the end of a call each walk goes by sizes from one position to another and stops where it has come to the other: that is after
-- one turn for each definition that goes or moves. What else stands does not enter.
pub arrives : (l rest : List ℕ) (p : ℕ) (since : List Item) → drop p l ≡ encode since ++ rest → Definitions since
    → position_after (count since) l p ≡ p + width since
unfolding position_after Definitions encode definitions_of
arrives l rest p [] e ds = omega arith
arrives l rest p (defined f name value spare ∷ since) e ds =
    let i : Item = defined f name value spare in
    ap (λ (k : ℕ). position_after (count since) l (p + k)) (definition_turned l p f name value spare since rest e)
    ∙ omega (arith, arrives l rest (p + length (encode_item i)) since (drop-item l p i since rest e) ds, width-cons i since)
arrives l rest p (listed a links reader list ∷ since) e ds = absurd ds
