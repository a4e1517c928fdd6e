-- UPDATE and LOCK: a definition is changed where it stands. What that is in items, frames, definitions and cells; no width changes,
-- and so no position does.
use Prim.Native.Nat.{ℕ, suc, ◌+◌, ◌-◌, ◌≤◌, ◌<◌}
use native.Mathlib.Omega.{arith}
use mathlib.Core.Path.{◌≡◌, refl, sym, ap, subst, ◌∙◌}
use mathlib.Core.Bool.{Bool, true, false, cond, ◌||◌}
use mathlib.Core.List.{List, [], ◌∷◌, ◌++◌, append_assoc}
use lib.ListN.{length, take, drop, set, length-append, length-take, length-drop, take-append-drop}
use lib.Seq.{take_all, take_at, drop_at, drop-drop, drop-append-le, take-append-le, take-take, length-take-le, set_at}
use lib.Dec.{eqb}
use borrow.Author.Tests.{eq-eqb, ne_eqb, eqb-true}
use Rattle.language.specs.Signs.{Bytes}
use Rattle.language.specs.Definitions.{macro, Definition, Change, updates, locks, changed, altered, among}
use Rattle.language.specs.Groups.{group}
use Rattle.language.specs.Scanning.{reading}
use Rattle.memory.specs.Block.{placed}
use Rattle.machine.proofs.Finds.{HoldsItems}
use Rattle.machine.proofs.Items.{encode-append, width-append, width-cons, definitions-append, count-append}
use Rattle.machine.specs.Items.{Head, macro_of, definition_of, Item, defined, listed, encode_item, encode, width, definitions_of, count, Definitions}
use Rattle.machine.specs.Frames.{Frame, made, collects, reads, address, At, here, there, applying, laid, items, places, lefts, calls, bodies, Valid}
use Rattle.machine.specs.Index.{newest_in, Linked, Index}
use Rattle.machine.specs.Walks.{head_size, with_lock, with_value_length}

-- Items --------------------------------------------------------------------------------------------------------------

-- the lock of a definition that is changed, its link, its value, as far as the room goes, and what that leaves of the room
abbrev pub lock_by : Change → Head → Head
lock_by (updates w) f = f
lock_by locks f = record { lock = 1; link = f.link }

abbrev pub value_by : Change → Bytes → Bytes → Bytes
value_by (updates w) value spare = take (length value + length spare) w
value_by locks value spare = value

abbrev pub spare_by : Change → Bytes → Bytes → Bytes
spare_by (updates w) value spare = drop (length w) (value ++ spare)
spare_by locks value spare = spare

-- the room is as large as before
room_kept : (h : Change) (value spare : Bytes) → length (value_by h value spare) + length (spare_by h value spare) ≡ length value + length spare
room_kept (updates w) value spare = simp (length-append, length-take, length-drop) (omega arith)
room_kept locks value spare = refl

-- definition number k is changed
module _ (k : ℕ) (h : Change) where
  abbrev pub new_lock : ℕ → Head → Head
  new_lock m f = cond (eqb k m) (lock_by h f) f

  abbrev pub new_value : ℕ → Bytes → Bytes → Bytes
  new_value m value spare = cond (eqb k m) (value_by h value spare) value

  abbrev pub new_spare : ℕ → Bytes → Bytes → Bytes
  new_spare m value spare = cond (eqb k m) (spare_by h value spare) spare

  abbrev pub alter_item : ℕ → Item → Item
  alter_item m (defined f name value spare) = defined (new_lock m f) name (new_value m value spare) (new_spare m value spare)
  alter_item m (listed to links reader list) = listed to links reader list

  -- each item by its number; `base` definitions are older than all items
  unfoldable pub alter_items : ℕ → List Item → List Item
  alter_items base [] = []
  alter_items base (i ∷ its) = alter_item (base + count its) i ∷ alter_items base its

  -- an item keeps its width
  item-width : (m : ℕ) (i : Item) → length (encode_item (alter_item m i)) ≡ length (encode_item i)
  item-width m (defined f name value spare) = go (eqb k m)
    where
      go : (t : Bool) → length (encode_item (defined (cond t (lock_by h f) f) name (cond t (value_by h value spare) value) (cond t (spare_by h value spare) spare)))
          ≡ length (encode_item (defined f name value spare))
      go true = simp length-append (omega (arith, room_kept h value spare))
      go false = refl
  item-width m (listed to links reader list) = refl

  -- all items together keep their width, and so their addresses
  pub alter_width : (base : ℕ) (its : List Item) → width (alter_items base its) ≡ width its
  unfolding alter_items
  alter_width base [] = refl
  alter_width base (i ∷ its) =
      let m = base + count its in
      omega (arith, width-cons (alter_item m i) (alter_items base its), item-width m i, alter_width base its, width-cons i its)

  -- as many definitions as before
  pub alter_count : (base : ℕ) (its : List Item) → count (alter_items base its) ≡ count its
  unfolding alter_items definitions_of
  alter_count base [] = refl
  alter_count base (defined f name value spare ∷ its) = ap suc (alter_count base its)
  alter_count base (listed to links reader list ∷ its) = alter_count base its

  -- only definitions, as before
  pub alter_definitions_lem : (base : ℕ) (its : List Item) → Definitions its → Definitions (alter_items base its)
  unfolding alter_items Definitions
  alter_definitions_lem base [] h = h
  alter_definitions_lem base (defined f name value spare ∷ its) h = alter_definitions_lem base its h
  alter_definitions_lem base (listed to links reader list ∷ its) h = absurd h

  -- newer items are altered over the older ones' number
  pub alter_append : (base : ℕ) (a b : List Item) → alter_items base (a ++ b) ≡ alter_items (base + count b) a ++ alter_items base b
  unfolding alter_items
  alter_append base [] b = refl
  alter_append base (i ∷ a) b =
      let e : base + count (a ++ b) ≡ base + count b + count a = omega (arith, count-append a b) in
      rw (e, alter_append base a b)

  -- nothing changes where no definition has the number
  alter_none : (base : ℕ) (its : List Item) → ((m : ℕ) → m < count its → k ≡ base + m → ⊥) → alter_items base its ≡ its
  unfolding alter_items definitions_of
  alter_none base [] h = refl
  alter_none base (defined f name value spare ∷ its) h =
      rw (ne_eqb k (base + count its) (h (count its) (omega arith)), alter_none base its (λ m q. h m (omega arith)))
  alter_none base (listed to links reader list ∷ its) h = rw (alter_none base its h)

  -- the newest of a group stands where it stood
  pub alter_newest : (n g base : ℕ) (its : List Item) → newest_in n g (alter_items base its) ≡ newest_in n g its
  unfolding alter_items newest_in
  alter_newest n g base [] = refl
  alter_newest n g base (defined f name value spare ∷ its) =
      let a : address n (alter_items base (defined f name value spare ∷ its)) ≡ address n (defined f name value spare ∷ its) =
      ap (λ (w : ℕ). n - w) (alter_width base (defined f name value spare ∷ its)) in
      rw (a, alter_newest n g base its)
  alter_newest n g base (listed to links reader list ∷ its) = alter_newest n g base its

  -- and the links stay
  alter_link : (m : ℕ) (f : Head) → (new_lock m f).link ≡ f.link
  alter_link m f = go (eqb k m) h
    where
      go : (t : Bool) (h : Change) → (cond t (lock_by h f) f).link ≡ f.link
      go true (updates w) = refl
      go true locks = refl
      go false h = refl

  alter_linked : (n base : ℕ) (its : List Item) → Linked n its → Linked n (alter_items base its)
  unfolding alter_items Linked
  alter_linked n base [] x = x
  alter_linked n base (defined f name value spare ∷ its) x =
      (alter_link (base + count its) f ∙ x.0 ∙ sym (alter_newest n (group name) base its), alter_linked n base its x.1)
  alter_linked n base (listed to links reader list ∷ its) x = alter_linked n base its x

  pub alter_index : (n base : ℕ) (its : List Item) (heads : List ℕ) → Index n its heads → Index n (alter_items base its) heads
  alter_index n base its heads x = record {
    size = x.size;
    linked = alter_linked n base its x.linked;
    headed = λ g q. x.headed g q ∙ sym (alter_newest n g base its);
  }

  -- a definition stays where it stands, and so does its value, unless the change is of this value
  pub alter_at : {n base d j : ℕ} {its : List Item} {v : Bytes} → At n base its d j v → (j ≡ k → (value spare : Bytes) → value_by h value spare ≡ value)
      → At n base (alter_items base its) d j v
  unfolding alter_items
  alter_at {n} {base} {d} {j} (here {f} {name} {value} {spare} {items = its} e q) kept =
      let i = defined f name value spare in
      let m = base + count its in
      let a : address n (i ∷ its) ≡ address n (alter_item m i ∷ alter_items base its) =
      omega (arith, width-cons i its, item-width m i, alter_width base its, width-cons (alter_item m i) (alter_items base its)) in
      let c : base + count its ≡ base + count (alter_items base its) = omega (arith, alter_count base its) in
      subst (λ (x : Bytes). At n base (alter_item m i ∷ alter_items base its) d j x) (same (eqb k m) refl) (here (e ∙ a) (q ∙ c))
    where
      same : (t : Bool) → eqb k (base + count its) ≡ t → cond t (value_by h value spare) value ≡ value
      same true y = kept (q ∙ sym (eqb-true k (base + count its) y)) value spare
      same false y = refl
  alter_at (there a) kept = there (alter_at a kept)

-- Frames -------------------------------------------------------------------------------------------------------------

-- where the second of two tests passes, one does
or_second : (a b : Bool) → b ≡ true → a || b ≡ true
or_second true b e = refl
or_second false b e = e

module _ (n base k : ℕ) (h : Change) where
  -- a frame's definitions are altered as its items are
  unfoldable pub alter : List Frame → List Frame
  alter [] = []
  alter (made f name value spare ∷ fs) =
      let m = base + count (items n base fs) in
      made (new_lock k h m f) name (new_value k h m value spare) (new_spare k h m value spare) ∷ alter fs
  alter (collects ended hand waits ∷ fs) = collects ended hand waits ∷ alter fs
  alter (reads list since d j v o ∷ fs) = reads list (alter_items k h (base + count (items n base fs)) since) d j v o ∷ alter fs

  -- the items are the altered ones, and the positions stay
  pub alter_laid : (fs : List Frame) → (items n base (alter fs) ≡ alter_items k h base (items n base fs)) × (places n base (alter fs) ≡ places n base fs)
  unfolding laid alter alter_items
  alter_laid [] = (refl, refl)
  alter_laid (made f name value spare ∷ fs) = let r = alter_laid fs in (rw r.0, r.1)
  alter_laid (collects ended hand waits ∷ fs) = let r = alter_laid fs in (r.0, rw r.1)
  alter_laid (reads list since d j v o ∷ fs) =
      let r = alter_laid fs in
      let its = items n base fs in
      let whole = items n base (reads list since d j v o ∷ fs) in
      let i : items n base (alter (reads list since d j v o ∷ fs)) ≡ alter_items k h base whole =
      rw (r.0, r.1, alter_width k h base its, alter_append k h base since its) in
      (i, ap (λ (x : List Item). applying (places n base (alter fs)) (address n x) d o) i ∙ rw (r.1, alter_width k h base whole))

  -- the left stack stays
  pub alter_lefts : (fs : List Frame) → lefts n base (alter fs) ≡ lefts n base fs
  unfolding lefts alter
  alter_lefts [] = refl
  alter_lefts (made f name value spare ∷ fs) = alter_lefts fs
  alter_lefts (collects ended hand waits ∷ fs) =
      let r = alter_laid fs in
      rw (alter_lefts fs, r.0, r.1, alter_width k h base (items n base fs))
  alter_lefts (reads list since d j v o ∷ fs) = alter_lefts fs

  -- the calls stay
  pub alter_calls : (fs : List Frame) → calls n base (alter fs) ≡ calls n base fs
  unfolding calls alter
  alter_calls [] = refl
  alter_calls (made f name value spare ∷ fs) = alter_calls fs
  alter_calls (collects ended hand waits ∷ fs) = rw (alter_calls fs, (alter_laid fs).0, alter_count k h base (items n base fs))
  alter_calls (reads list since d j v o ∷ fs) = alter_calls fs

  -- the bodies stay
  pub alter_bodies : (fs : List Frame) → bodies n base (alter fs) ≡ bodies n base fs
  unfolding bodies alter
  alter_bodies [] = refl
  alter_bodies (made f name value spare ∷ fs) = alter_bodies fs
  alter_bodies (collects ended hand waits ∷ fs) = alter_bodies fs
  alter_bodies (reads list since d j v o ∷ fs) =
      let its = items n base fs in
      rw (alter_bodies fs, alter_calls fs, (alter_laid fs).0, ← alter_append k h base since its, alter_count k h base its, alter_count k h base (since ++ its))

  -- where a body reads the definition, its value stays
  abbrev pub KeepsRead : List ℕ → Type 0
  KeepsRead busy = among k busy ≡ true → (value spare : Bytes) → value_by h value spare ≡ value

  -- so each body's definition stands as before
  pub alter_valid : (fs : List Frame) → KeepsRead (reading (bodies n base fs)) → Valid n base fs → Valid n base (alter fs)
  unfolding Valid bodies alter among reading
  alter_valid [] kept v = v
  alter_valid (made f name value spare ∷ fs) kept v = alter_valid fs kept v
  alter_valid (collects ended hand waits ∷ fs) kept v = alter_valid fs kept v
  alter_valid (reads list since d j x o ∷ fs) kept v =
      let its = items n base fs in
      let busy = among k (reading (bodies n base fs)) in (
        alter_valid fs (λ e. kept (or_second (eqb k j) busy e)) v.0,
        alter_definitions_lem k h (base + count its) since v.1,
        rw ((alter_laid fs).0, ← alter_append k h base since its)
            (alter_at k h v.2 (λ e. kept (ap (λ (y : Bool). y || busy) (eq-eqb k j (sym e))))),
        v.3,
        v.4,
      )

-- The definition -----------------------------------------------------------------------------------------------------

-- where a definition stands among the items, with its lock, its name and what its value leaves of its room
pub record Spot (n base : ℕ) (its : List Item) (d k : ℕ) (v : Bytes) : Type 0 where
  pub newer : List Item
  pub lock : Head
  pub name : Bytes
  pub spare : Bytes
  pub older : List Item
  pub is : its ≡ newer ++ (defined lock name v spare ∷ older)
  pub at : d ≡ address n (defined lock name v spare ∷ older)
  pub number : k ≡ base + count older

-- a definition at a position stands somewhere among the items
pub spot_of : {n base d k : ℕ} {its : List Item} {v : Bytes} → At n base its d k v → Spot n base its d k v
spot_of (here {f} {name} {spare} {items} e q) =
    record { newer = []; lock = f; name = name; spare = spare; older = items; is = refl; at = e; number = q }
spot_of (there {i} a) =
    let r = spot_of a in
    record {
      newer = i ∷ r.newer;
      lock = r.lock;
      name = r.name;
      spare = r.spare;
      older = r.older;
      is = ap (λ (x : List Item). i ∷ x) r.is;
      at = r.at;
      number = r.number;
    }

-- the definition that stands before as many as its number is the one altered
altered_at : (k : ℕ) (h : Change) (a : List Definition) (x : Definition) (b : List Definition) → k ≡ length b
    → altered k h (a ++ (x ∷ b)) ≡ a ++ (record { name = x.name; content = changed h x.content } ∷ b)
unfolding altered
altered_at k h [] x b e = rw (eq-eqb k (length b) e)
altered_at k h (y ∷ a) x b e =
    let l = length-append a (x ∷ b) in
    rw (ne_eqb k (length (a ++ (x ∷ b))) (λ q. omega arith), altered_at k h a x b e)

-- w placed behind b, and y set before b
overwritten : (a b c w : List ℕ) (x y i j : ℕ) → length a ≡ i → j ≡ i + 1 + length b
    → set (placed j w (a ++ (x ∷ (b ++ c)))) i y ≡ a ++ (y ∷ (b ++ (w ++ drop (length w) c)))
overwritten a b c w x y i j e h =
    let p = a ++ (x ∷ b) in
    let q : length p ≡ j = omega (arith, length-append a (x ∷ b)) in
    rw (← append_assoc a (x ∷ b) c, take_at p c j q, ← drop-drop (length w) j (p ++ c), drop_at p c j q, append_assoc a (x ∷ b) (w ++ drop (length w) c))
    (set_at a x (b ++ (w ++ drop (length w) c)) y i e)

-- the cells with the value w and its length stored in the definition of this name at d
abbrev pub stored : ℕ → Bytes → Bytes → List ℕ → List ℕ
stored d name w l = with_value_length (placed (d + head_size + length name) w l) d (length w)

-- a new value is no longer than the room
abbrev pub Fits : Change → ℕ → Type 0
Fits (updates w) room = length w ≤ room
Fits locks room = Unit {0}

-- what the language has of a changed definition
changed_is : (h : Change) (f : Head) (name v spare : Bytes) → Fits h (length v + length spare)
    → definition_of (lock_by h f) name (value_by h v spare) (spare_by h v spare) ≡ record { name = name; content = changed h (macro (macro_of f v spare)) }
changed_is (updates w) f name v spare fit = rw (room_kept (updates w) v spare, take_all (length v + length spare) w fit)
changed_is locks f name v spare fit = refl

module _ {n base d k : ℕ} {its : List Item} {v : Bytes} (s : Spot n base its d k v) (h : Change) where
  -- the definition, changed
  abbrev changed_item : Item
  changed_item = defined (lock_by h s.lock) s.name (value_by h v s.spare) (spare_by h v s.spare)

  -- the items with it
  alter_is : alter_items k h base its ≡ s.newer ++ (changed_item ∷ s.older)
  unfolding alter_items definitions_of
  alter_is =
      let q = s.number in
      let i : Item = defined s.lock s.name v s.spare in
      ap (alter_items k h base) s.is
      ∙ alter_append k h base s.newer (i ∷ s.older)
      ∙ rw (alter_none k h (base + count (i ∷ s.older)) s.newer (λ m y e. omega arith), alter_none k h base s.older (λ m y e. omega arith))
      (rw (eq-eqb k (base + count s.older) q))

  -- the definitions with it
  pub alter_definitions : Fits h (length v + length s.spare) → (older : List Definition) → length older ≡ base
      → definitions_of (alter_items k h base its) ++ older ≡ altered k h (definitions_of its ++ older)
  unfolding definitions_of
  alter_definitions fit older e =
      let q = s.number in
      let x : Definition = definition_of s.lock s.name v s.spare in
      rw (alter_is, s.is)
      (simp (definitions-append, append_assoc, changed_is h s.lock s.name v s.spare fit)
      (sym (altered_at k h (definitions_of s.newer) x (definitions_of s.older ++ older) (omega (arith, length-append (definitions_of s.older) older)))))

-- how many of the cells lie before the items
before : {n : ℕ} {its : List Item} {right : ℕ} {l : List ℕ} → HoldsItems n l right its → length (take right l) ≡ right
before {right = right} {l = l} x = length-take-le right l (omega (arith, x.size, x.ends))

-- the cells l with the items from `right` on altered
pub record Alters (k : ℕ) (h : Change) (base : ℕ) (its : List Item) (right : ℕ) (l l' : List ℕ) : Type 0 where
  pub is : l' ≡ take right l ++ encode (alter_items k h base its)

module _ {n base d k : ℕ} {its : List Item} {v : Bytes} (s : Spot n base its d k v) {right : ℕ} {l : List ℕ} (x : HoldsItems n l right its) where
  -- the cells before the definition, and how many they are
  abbrev ahead : List ℕ
  ahead = take right l ++ encode s.newer

  many : length ahead ≡ d
  many =
      let i : Item = defined s.lock s.name v s.spare in
      omega (
        arith,
        length-append (take right l) (encode s.newer),
        before x,
        x.ends,
        s.at,
        ap width s.is,
        width-append s.newer (i ∷ s.older),
      )

  -- the cells by what stands in them
  whole : l ≡ ahead ++ (s.lock.lock ∷ length s.name ∷ (length v + length s.spare) ∷ length v ∷ s.lock.link ∷ (s.name ++ ((v ++ s.spare) ++ encode s.older)))
  unfolding encode
  whole =
      let i : Item = defined s.lock s.name v s.spare in
      sym (take-append-drop right l) ∙ rw (x.cells, s.is, encode-append s.newer (i ∷ s.older)) (simp append_assoc)

  -- UPDATE: a value that fits, and its length
  pub update_alters : (w : Bytes) → length w ≤ length v + length s.spare → Alters k (updates w) base its right l (stored d s.name w l)
  unfolding encode
  update_alters w fit =
      let head : List ℕ = s.lock.lock ∷ length s.name ∷ (length v + length s.spare) ∷ [] in
      let a = ahead ++ head in
      let c = (v ++ s.spare) ++ encode s.older in
      let unused = drop (length w) (v ++ s.spare) in
      let first : length a ≡ d + 3 = omega (arith, length-append ahead head, many) in
      let split : l ≡ a ++ (length v ∷ ((s.lock.link ∷ s.name) ++ c)) = whole ∙ simp append_assoc in
      let sameRoom : length w + length unused ≡ length v + length s.spare = omega (arith, length-drop (length w) (v ++ s.spare), length-append v s.spare) in
      let items : alter_items k (updates w) base its ≡ s.newer ++ (defined s.lock s.name w unused ∷ s.older) =
      alter_is s (updates w)
      ∙ ap (λ (y : Bytes). s.newer ++ (defined s.lock s.name y unused ∷ s.older)) (take_all (length v + length s.spare) w fit) in
      record {
        is =
            ap (stored d s.name w) split
            ∙ overwritten a (s.lock.link ∷ s.name) c w (length v) (length w) (d + 3) (d + head_size + length s.name) first (omega arith)
            ∙ rw (items, encode-append, drop-append-le (length w) (v ++ s.spare) (encode s.older) (omega (arith, length-append v s.spare)), sameRoom) (simp append_assoc);
      }

  -- LOCK: the lock
  pub lock_alters : Alters k locks base its right l (with_lock l d)
  unfolding encode
  lock_alters =
      let rest : List ℕ = length s.name ∷ (length v + length s.spare) ∷ length v ∷ s.lock.link ∷ (s.name ++ ((v ++ s.spare) ++ encode s.older)) in
      record { is = ap (λ (y : List ℕ). with_lock y d) whole ∙ set_at ahead s.lock.lock rest 1 d many ∙ rw (alter_is s locks, encode-append) (simp append_assoc) }

module _ {n base k : ℕ} {its : List Item} {h : Change} {right : ℕ} {l l' : List ℕ} (x : HoldsItems n l right its) (e : Alters k h base its right l l') where
  -- as many cells as before
  pub alter_size : length l' ≡ n
  alter_size = ap length e.is ∙ omega (arith, length-append (take right l) (encode (alter_items k h base its)), before x, x.ends, alter_width k h base its)

  -- from `right` on stand the altered items
  pub alter_high : drop right l' ≡ encode (alter_items k h base its)
  alter_high = ap (drop right) e.is ∙ drop_at (take right l) (encode (alter_items k h base its)) right (before x)

  -- what stands before `right` stays
  pub alter_low : (p : ℕ) → p ≤ right → take p l' ≡ take p l
  alter_low p q =
      ap (take p) e.is
      ∙ take-append-le p (take right l) (encode (alter_items k h base its)) (omega (arith, before x))
      ∙ take-take p right l q
