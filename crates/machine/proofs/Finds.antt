-- The walks find what they look for in cells that hold what the frames say.
use Prim.Native.Nat.{ℕ, zero, suc, ◌+◌, ◌-◌, ◌≤◌, ◌<◌}
use native.Mathlib.Omega.{arith}
use mathlib.Core.Path.{◌≡◌, refl, sym, ap, subst, ◌∙◌}
use mathlib.Core.Bool.{Bool, true, false, cond, ◌||◌}
use mathlib.Core.List.{List, [], ◌∷◌, ◌++◌, append_assoc, append-nil}
use Rattle.std.specs.Prelude.{Option, None, Some}
use lib.ListN.{length, take, drop, get_or, length-append}
use lib.Seq.{get_or-drop, drop-drop, take_at, drop_at}
use lib.Dec.{eqb, leb, ltb}
use borrow.Author.Tests.{le-leb, lt-leb, eq-eqb, ne_eqb, eqb-true, eqb-false}
use Rattle.language.specs.Signs.{Bytes}
use Rattle.language.specs.Definitions.{Macro, Definition, found, macro, among}
use Rattle.language.specs.Definitions as D
use Rattle.language.specs.Charge.{arguments_price, list_price}
use Rattle.language.specs.Groups.{group, of_group}
use Rattle.language.proofs.Groups.{group_below, other_group, group-length}
use Rattle.language.specs.Scanning.{Body, reading}
use Rattle.memory.specs.Block.{block, same, same_blocks}
use Rattle.memory.proofs.Blocks.{ne_same, same_true, same_blocks_in}
use Rattle.machine.specs.Walks.{head_size, arguments_from, list_overhead, is_locked, name_length, room, value_length, group_link, definition_group, right_before, list_link, return_link, nowhere, mark, packed, high, low, behind, argument, size, newest_from, newest, definitions_from, definitions, is_read_from, is_read}
use Rattle.machine.proofs.Items.{count-width, list_size, definition_size, width-append, width-cons}
use Rattle.machine.specs.Items.{Head, Item, defined, listed, encode_arguments, encode_item, encode, width, macro_of, definition_of, definitions_of, count, Definitions}
use Rattle.machine.specs.Frames.{Frame, made, collects, reads, address, At, here, there, list_item, laid, items, places, bodies, Valid}
use Rattle.machine.specs.Index.{newest_in, Linked, Index}
use Rattle.machine.specs.Held.{definition_at, definitions_held_from, definitions_held}
use Rattle.machine.proofs.Lists.{packed-low, packed-high}

-- Cells of a list ----------------------------------------------------------------------------------------------------

-- a cell behind a position, where it is known what stands from there on
cell_at : (l xs : List ℕ) (p k : ℕ) → drop p l ≡ xs → get_or l (p + k) 0 ≡ get_or xs k 0
cell_at l xs p k e = sym (get_or-drop p l k 0) ∙ ap (λ (x : List ℕ). get_or x k 0) e

-- the cell at the position itself
head_at : (l xs : List ℕ) (p : ℕ) → drop p l ≡ xs → get_or l p 0 ≡ get_or xs 0 0
head_at l xs p e =
    let z : p + 0 ≡ p = omega arith in
    rw z at (cell_at l xs p 0 e)

-- what stands behind a piece
drop_past : (l piece rest : List ℕ) (p k : ℕ) → drop p l ≡ piece ++ rest → length piece ≡ k → drop (p + k) l ≡ rest
drop_past l piece rest p k e s = sym (drop-drop k p l) ∙ ap (drop k) e ∙ drop_at piece rest k s

-- a piece read back
block_of : (l piece rest : List ℕ) (p : ℕ) → drop p l ≡ piece ++ rest → block p (length piece) l ≡ piece
block_of l piece rest p e = ap (take (length piece)) e ∙ take_at piece rest (length piece) refl

-- Arguments ----------------------------------------------------------------------------------------------------------

-- argument k stands at its place among the arguments from p on: its length, then its bytes
pub record ArgumentAt (l : List ℕ) (p : ℕ) (args : List Bytes) (k q : ℕ) : Type 0 where
  pub place : q ≡ p + arguments_price (take k args)
  pub counted : get_or l q 0 ≡ length (get_or args k [])
  pub bytes : block (q + 1) (length (get_or args k [])) l ≡ get_or args k []
  pub within : q + 1 + length (get_or args k []) ≤ p + arguments_price args

-- the first of some arguments: its length, its bytes, and what stands behind them
pub record First (l : List ℕ) (p : ℕ) (a : Bytes) (more : List ℕ) : Type 0 where
  pub counted : get_or l p 0 ≡ length a
  pub bytes : drop (p + 1) l ≡ a ++ more
  pub behind : drop (p + (length a + 1)) l ≡ more

-- some arguments begin so
pub first_of : (l : List ℕ) (p : ℕ) (a : Bytes) (args : List Bytes) (rest : List ℕ) → drop p l ≡ encode_arguments (a ∷ args) ++ rest
    → First l p a (encode_arguments args ++ rest)
unfolding encode_arguments
first_of l p a args rest e =
    let more = encode_arguments args ++ rest in
    let s : drop p l ≡ (length a ∷ a) ++ more = e ∙ ap (λ (x : List ℕ). length a ∷ x) (append_assoc a (encode_arguments args) rest) in
    record {
      counted = head_at l ((length a ∷ a) ++ more) p s;
      bytes = drop_past l (length a ∷ []) (a ++ more) p 1 s refl;
      behind = drop_past l (length a ∷ a) more p (length a + 1) s (omega arith);
    }

-- argument k is found, at this length cell
pub record Supplied (l : List ℕ) (p : ℕ) (args : List Bytes) (k : ℕ) : Type 0 where
  pub at : ℕ
  pub found : argument l p k ≡ Some at
  pub is : ArgumentAt l p args k at

-- an argument is found, unless its place is nowhere
pub argument_at : (l : List ℕ) (p : ℕ) (args : List Bytes) (rest : List ℕ) (k : ℕ)
    → drop p l ≡ encode_arguments args ++ (mark ∷ rest) → arguments_price args ≤ 65536 → (p + arguments_price (take k args) ≡ nowhere → ⊥) → k < length args
    → Supplied l p args k
unfolding arguments_price argument
argument_at l p [] rest k e small elsewhere h = absurd (omega arith)
argument_at l p (a ∷ args) rest zero e small elsewhere h =
    let f = first_of l p a args (mark ∷ rest) e in
    record {
      at = p;
      found = rw (lt-leb mark (get_or l p 0) (omega arith), ne_eqb p nowhere (λ (z : p ≡ nowhere). elsewhere (omega arith)));
      is = record {
        place = omega arith;
        counted = f.counted;
        bytes = block_of l a (encode_arguments args ++ (mark ∷ rest)) (p + 1) f.bytes;
        within = omega arith;
      };
    }
argument_at l p (a ∷ args) rest (suc k) e small elsewhere h =
    let f = first_of l p a args (mark ∷ rest) e in
    let r = argument_at l (p + (length a + 1)) args rest k f.behind (omega arith) (λ z. elsewhere (omega arith)) (omega arith) in
    record {
      at = r.at;
      found = rw (lt-leb mark (get_or l p 0) (omega arith), f.counted) r.found;
      is = record { place = omega (arith, r.is.place); counted = r.is.counted; bytes = r.is.bytes; within = omega (arith, r.is.within) };
    }

-- an argument takes up a cell at least, so the place of one lies before the end of all
pub taken_below : (k : ℕ) (args : List Bytes) → k < length args → arguments_price (take k args) < arguments_price args
unfolding arguments_price
taken_below k [] h = absurd (omega arith)
taken_below zero (a ∷ args) h = omega arith
taken_below (suc k) (a ∷ args) h = omega (arith, taken_below k args (omega arith))

-- the first parameter stands behind the name
pub argument_behind : (l : List ℕ) (p : ℕ) (args : List Bytes) (rest : List ℕ)
    → drop p l ≡ encode_arguments args ++ (mark ∷ rest) → arguments_price args ≤ 65536 → 1 < length args → ArgumentAt l p args 1 (behind l p)
unfolding arguments_price
argument_behind l p [] rest e small h = absurd (omega arith)
argument_behind l p (a ∷ []) rest e small h = absurd (omega arith)
argument_behind l p (a ∷ b ∷ args) rest e small h =
    let f = first_of l p a (b ∷ args) (mark ∷ rest) e in
    let q = p + (length a + 1) in
    let g = first_of l q b args (mark ∷ rest) f.behind in
    let same : q ≡ behind l p = omega (arith, f.counted) in
    subst (ArgumentAt l p (a ∷ b ∷ args) 1) same
    (record {
      place = omega arith;
      counted = g.counted;
      bytes = block_of l b (encode_arguments args ++ (mark ∷ rest)) (q + 1) g.bytes;
      within = omega arith;
    })

-- behind the last argument there is none
pub argument_past : (l : List ℕ) (p : ℕ) (args : List Bytes) (rest : List ℕ) (k : ℕ)
    → drop p l ≡ encode_arguments args ++ (mark ∷ rest) → arguments_price args ≤ 65536 → length args ≤ k → argument l p k ≡ None
unfolding encode_arguments arguments_price argument
argument_past l p [] rest zero e small h = rw (head_at l (mark ∷ rest) p e)
argument_past l p [] rest (suc k) e small h = rw (head_at l (mark ∷ rest) p e)
argument_past l p (a ∷ args) rest zero e small h = absurd (omega arith)
argument_past l p (a ∷ args) rest (suc k) e small h =
    let f = first_of l p a args (mark ∷ rest) e in
    rw (lt-leb mark (get_or l p 0) (omega arith), f.counted) (argument_past l (p + (length a + 1)) args rest k f.behind (omega arith) (omega arith))

-- Items in cells -----------------------------------------------------------------------------------------------------

-- an item takes at least four cells
pub item-size : (i : Item) → 4 ≤ length (encode_item i)
item-size (defined f name value spare) = omega (arith, definition_size f name value spare)
item-size (listed to links reader list) = omega (arith, list_size to links reader list)

-- what stands behind an item
pub drop-item : (l : List ℕ) (p : ℕ) (i : Item) (its : List Item) (rest : List ℕ) → drop p l ≡ encode (i ∷ its) ++ rest
    → drop (p + length (encode_item i)) l ≡ encode its ++ rest
unfolding encode
drop-item l p i its rest e =
    drop_past l (encode_item i) (encode its ++ rest) p (length (encode_item i)) (e ∙ append_assoc (encode_item i) (encode its) rest) refl

-- the cells of a definition: its lock, the lengths of name, room and value, then name and value
pub record DefinitionAt (l : List ℕ) (d : ℕ) (name : Bytes) (c : Macro) : Type 0 where
  pub locking : is_locked l d ≡ c.locked
  pub named : name_length l d ≡ length name
  pub roomy : room l d ≡ c.room
  pub valued : value_length l d ≡ length c.value
  pub fits : length c.value ≤ c.room
  pub name_is : block (d + head_size) (length name) l ≡ name
  pub value_is : block (d + head_size + length name) (length c.value) l ≡ c.value

-- a definition among items has these cells
pub definition_at_lem : (l : List ℕ) (p : ℕ) (f : Head) (name value spare : Bytes) (its : List Item) (rest : List ℕ)
    → drop p l ≡ encode (defined f name value spare ∷ its) ++ rest → DefinitionAt l p name (macro_of f value spare)
unfolding encode
definition_at_lem l p f name value spare its rest e =
    let head : List ℕ = f.lock ∷ length name ∷ (length value + length spare) ∷ length value ∷ f.link ∷ [] in
    let s : drop p l ≡ head ++ (name ++ (value ++ (spare ++ (encode its ++ rest)))) = e ∙ simp append_assoc in
    let g : drop (p + head_size) l ≡ name ++ (value ++ (spare ++ (encode its ++ rest))) = drop_past l head (name ++ (value ++ (spare ++ (encode its ++ rest)))) p head_size s refl in
    let w : drop (p + head_size + length name) l ≡ value ++ (spare ++ (encode its ++ rest)) =
    drop_past l name (value ++ (spare ++ (encode its ++ rest))) (p + head_size) (length name) g refl in
    record {
      locking = ap (ltb 0) (head_at l (head ++ (name ++ (value ++ (spare ++ (encode its ++ rest))))) p s);
      named = cell_at l (head ++ (name ++ (value ++ (spare ++ (encode its ++ rest))))) p 1 s;
      roomy = cell_at l (head ++ (name ++ (value ++ (spare ++ (encode its ++ rest))))) p 2 s;
      valued = cell_at l (head ++ (name ++ (value ++ (spare ++ (encode its ++ rest))))) p 3 s;
      fits = omega arith;
      name_is = block_of l name (value ++ (spare ++ (encode its ++ rest))) (p + head_size) g;
      value_is = block_of l value (spare ++ (encode its ++ rest)) (p + head_size + length name) w;
    }

-- its link
pub link_at : (l : List ℕ) (p : ℕ) (f : Head) (name value spare : Bytes) (its : List Item) (rest : List ℕ)
    → drop p l ≡ encode (defined f name value spare ∷ its) ++ rest → group_link l p ≡ f.link
unfolding encode
link_at l p f name value spare its rest e = cell_at l (encode (defined f name value spare ∷ its) ++ rest) p 4 e

-- its group
pub group_at : (l : List ℕ) (p : ℕ) (f : Head) (name value spare : Bytes) (its : List Item) (rest : List ℕ)
    → drop p l ≡ encode (defined f name value spare ∷ its) ++ rest → definition_group l p ≡ group name
group_at l p f name value spare its rest e =
    let c = definition_at_lem l p f name value spare its rest e in
    rw (c.named, c.name_is)

-- and how many cells it takes
pub definition_turned : (l : List ℕ) (p : ℕ) (f : Head) (name value spare : Bytes) (its : List Item) (rest : List ℕ)
    → drop p l ≡ encode (defined f name value spare ∷ its) ++ rest → size l p ≡ length (encode_item (defined f name value spare))
definition_turned l p f name value spare its rest e =
    let c = definition_at_lem l p f name value spare its rest e in
    omega (arith, definition_size f name value spare, c.named, c.roomy)

-- Definitions counted ------------------------------------------------------------------------------------------------

-- the walk counts the definitions, given turns enough
definitions_in : (t : ℕ) (l : List ℕ) (p to : ℕ) (since : List Item) (rest : List ℕ) → drop p l ≡ encode since ++ rest → Definitions since
    → to ≡ p + width since → width since ≤ t → definitions_from t l p to ≡ count since
unfolding definitions_from Definitions definitions_of encode
definitions_in zero l p to [] rest e ds q h = refl
definitions_in (suc t) l p to [] rest e ds q h = rw (le-leb to p (omega arith))
definitions_in zero l p to (defined f name value spare ∷ since) rest e ds q h = absurd (omega arith)
definitions_in (suc t) l p to (defined f name value spare ∷ since) rest e ds q h =
    let i : Item = defined f name value spare in
    let w = width-cons i since in
    let n = item-size i in
    rw (lt-leb to p (omega arith), definition_turned l p f name value spare since rest e)
    (ap suc (definitions_in t l (p + length (encode_item i)) to since rest (drop-item l p i since rest e) ds (omega arith) (omega arith)))
definitions_in t l p to (listed a links reader list ∷ since) rest e ds q h = absurd ds

-- as many definitions are counted as stand there
pub definitions-count : (l : List ℕ) (p : ℕ) (since : List Item) (rest : List ℕ) → drop p l ≡ encode since ++ rest → Definitions since
    → p + width since ≤ length l → definitions l p (p + width since) ≡ count since
definitions-count l p since rest e ds h = definitions_in (length l) l p (p + width since) since rest e ds refl (omega arith)

-- Cells that hold items ----------------------------------------------------------------------------------------------

-- the cells from p to the end hold the items
pub record HoldsItems (n : ℕ) (l : List ℕ) (p : ℕ) (its : List Item) : Type 0 where
  pub size : length l ≡ n
  pub cells_lent : n ≤ 65536
  pub ends : p + width its ≡ n
  pub cells : drop p l ≡ encode its

-- nothing stands behind them
pub held : {n : ℕ} {l : List ℕ} {p : ℕ} {its : List Item} → HoldsItems n l p its → drop p l ≡ encode its ++ []
held {its = its} h = h.cells ∙ sym (append-nil (encode its))

-- the cells behind the first item hold the others
pub holds_rest : {n : ℕ} {l : List ℕ} {p : ℕ} {i : Item} {its : List Item} → HoldsItems n l p (i ∷ its) → HoldsItems n l (p + length (encode_item i)) its
holds_rest {n} {l} {p} {i} {its} h =
    record {
      size = h.size;
      cells_lent = h.cells_lent;
      ends = omega (arith, h.ends, width-cons i its);
      cells = drop-item l p i its [] (held h) ∙ append-nil (encode its);
    }

-- Definitions and their positions ------------------------------------------------------------------------------------

module _ {n base : ℕ} where
  -- a definition stands among the items, before the end of the cells
  pub at_below : {its : List Item} {d k : ℕ} {v : Bytes} → At n base its d k v → n ≤ 65536 → d < nowhere
  at_below (here {f} {name} {value} {spare} {items} p q) h =
      omega (arith, width-cons (defined f name value spare) items, definition_size f name value spare)
  at_below (there a) h = at_below a h

  -- and not before the items
  pub at_above : {its : List Item} {d k : ℕ} {v : Bytes} → At n base its d k v → n ≤ d + width its
  at_above (here p q) = omega arith
  at_above (there {i} {items} a) = omega (arith, width-cons i items, at_above a)

  -- its number is below theirs
  pub at_number : {its : List Item} {d k : ℕ} {v : Bytes} → At n base its d k v → k < base + count its
  unfolding definitions_of
  at_number (here p q) = omega arith
  at_number (there {i = defined f name value spare} a) = omega (arith, at_number a)
  at_number (there {i = listed to links reader list} a) = at_number a

  -- a value is shorter than the items
  pub at_short : {its : List Item} {d k : ℕ} {v : Bytes} → At n base its d k v → length v + head_size ≤ width its
  at_short (here {f} {name} {value} {spare} {items} p q) =
      omega (arith, width-cons (defined f name value spare) items, definition_size f name value spare)
  at_short (there {i} {items} a) = omega (arith, width-cons i items, at_short a)

  -- of two definitions the positions are equal where the numbers are, and then they are the same
  pub at_same : {its : List Item} {d k d' k' : ℕ} {v v' : Bytes} → width its ≤ n → At n base its d k v → At n base its d' k' v'
      → (d ≡ d' → k ≡ k') × (k ≡ k' → d ≡ d') × (d ≡ d' → v ≡ v')
  at_same h (here p q) (here p' q') = (λ e. q ∙ sym q', λ e. p ∙ sym p', λ e. refl)
  at_same h (here {f} {name} {value} {spare} {items} p q) (there a) =
      let w = width-cons (defined f name value spare) items in
      let z = item-size (defined f name value spare) in
      let b = at_above a in
      let c = at_number a in
      (λ e. absurd (omega arith), λ e. absurd (omega arith), λ e. absurd (omega arith))
  at_same h (there a) (here {f} {name} {value} {spare} {items} p q) =
      let w = width-cons (defined f name value spare) items in
      let z = item-size (defined f name value spare) in
      let b = at_above a in
      let c = at_number a in
      (λ e. absurd (omega arith), λ e. absurd (omega arith), λ e. absurd (omega arith))
  at_same h (there {i} {items} a) (there a') = at_same (omega (arith, width-cons i items)) a a'

  -- so the test of positions is that of numbers
  at_test : {its : List Item} {d k d' k' : ℕ} {v v' : Bytes} → width its ≤ n → At n base its d k v → At n base its d' k' v' → eqb d d' ≡ eqb k' k
  at_test {d = d} {k = k} {d' = d'} {k' = k'} h a a' = go (eqb d d') refl
    where
      go : (t : Bool) → eqb d d' ≡ t → t ≡ eqb k' k
      go true e = sym (eq-eqb k' k (sym ((at_same h a a').0 (eqb-true d d' e))))
      go false e = sym (ne_eqb k' k (λ q. eqb-false d d' e ((at_same h a a').1 (sym q))))

-- a definition among the items that stand from `right` on: its cells lie within theirs
pub record Defines (n base : ℕ) (l : List ℕ) (right : ℕ) (its : List Item) (d k : ℕ) (name : Bytes) (c : Macro) : Type 0 where
  pub at : At n base its d k c.value
  pub cells : DefinitionAt l d name c
  pub from : right ≤ d
  pub within : d + head_size + length name + c.room ≤ n
  pub below : d < nowhere

-- one that stands among older items
defines_there : {n base : ℕ} {l : List ℕ} {p q : ℕ} {i : Item} {its : List Item} {d k : ℕ} {name : Bytes} {c : Macro} → p ≤ q
    → Defines n base l q its d k name c → Defines n base l p (i ∷ its) d k name c
defines_there h c = record { at = there c.at; cells = c.cells; from = omega (arith, c.from); within = c.within; below = c.below }

-- the first of the items, where it is a definition
defines_here : {n base : ℕ} {l : List ℕ} {p : ℕ} {f : Head} {name value spare : Bytes} {its : List Item} → HoldsItems n l p (defined f name value spare ∷ its)
    → Defines n base l p (defined f name value spare ∷ its) p (base + count its) name (macro_of f value spare)
defines_here {n} {base} {l} {p} {f} {name} {value} {spare} {its} h =
    let w = width-cons (defined f name value spare) its in
    let z = definition_size f name value spare in
    let a : p ≡ address n (defined f name value spare ∷ its) = omega arith in
    record { at = here a refl; cells = definition_at_lem l p f name value spare its [] (held h); from = omega arith; within = omega arith; below = omega arith }

-- the cells of any definition among the items
pub at_cells : {n base : ℕ} {l : List ℕ} {p : ℕ} {its : List Item} {d k : ℕ} {v : Bytes} → HoldsItems n l p its → At n base its d k v
    → (name : Bytes) × (room : ℕ) × (locked : Bool) × Defines n base l p its d k name (record { value = v; room = room; locked = locked })
at_cells {p = p} h (here {f = f} {name = name} {value = value} {spare = spare} {d = d} e q) =
    let x : d ≡ p = omega (arith, h.ends) in
    (name, length value + length spare, ltb 0 f.lock, rw (x, q) (defines_here h))
at_cells {p = p} h (there {i} a) = let r = at_cells {p = p + length (encode_item i)} (holds_rest h) a in (r.0, r.1, r.2, defines_there (omega arith) r.3)

-- The lists of the bodies --------------------------------------------------------------------------------------------

-- the cells of a list: what it returns to, its links and its reader, then the arguments, the mark, and what stands behind
pub record ListAt (l : List ℕ) (p to links reader : ℕ) (list : List Bytes) (more : List ℕ) : Type 0 where
  pub to_is : right_before l p ≡ to
  pub links_are : list_link l p ≡ links
  pub reader_is : return_link l p ≡ reader
  pub arguments : drop (p + arguments_from) l ≡ encode_arguments list ++ (mark ∷ more)
  pub behind : drop (p + list_price list) l ≡ more

-- a list among items has these cells
pub list_at : (l : List ℕ) (p to links reader : ℕ) (list : List Bytes) (its : List Item) (rest : List ℕ)
    → drop p l ≡ encode (listed to links reader list ∷ its) ++ rest → ListAt l p to links reader list (encode its ++ rest)
unfolding encode
list_at l p to links reader list its rest e =
    let head : List ℕ = to ∷ links ∷ reader ∷ [] in
    let more = encode its ++ rest in
    let s : drop p l ≡ head ++ (encode_arguments list ++ (mark ∷ more)) = e ∙ simp append_assoc in
    record {
      to_is = head_at l (head ++ (encode_arguments list ++ (mark ∷ more))) p s;
      links_are = cell_at l (head ++ (encode_arguments list ++ (mark ∷ more))) p 1 s;
      reader_is = cell_at l (head ++ (encode_arguments list ++ (mark ∷ more))) p 2 s;
      arguments = drop_past l head (encode_arguments list ++ (mark ∷ more)) p 3 s refl;
      behind = rw (list_size to links reader list) at (drop-item l p (listed to links reader list) its rest e);
    }

-- the size of a list that has its name comes back from its links
size_back : (list : List Bytes) (back : ℕ) → 0 < length list → list_price list ≤ 65536 → high (packed (list_price list - list_overhead) back) + list_overhead ≡ list_price list
unfolding arguments_price
size_back [] back m h = absurd (omega arith)
size_back (a ∷ list) back m h = omega (arith, packed-high (list_price (a ∷ list) - list_overhead) back (omega arith))

-- the list of the innermost body, the definition that it reads, and the numbers of all that are read, in the items: each list
-- links to the one before it
data Chain (n base : ℕ) : List Item → ℕ → ℕ → List ℕ → Type 0 where
  unlinked : Chain n base [] nowhere 0 []
  past : {f : Head} {name value spare : Bytes} {its : List Item} {list body : ℕ} {ks : List ℕ}
      → Chain n base its list body ks → Chain n base (defined f name value spare ∷ its) list body ks
  linked : {to links reader : ℕ} {args : List Bytes} {its : List Item} {list body at d k : ℕ} {v : Bytes} {ks : List ℕ}
      → at ≡ address n (listed to links reader args ∷ its) → high links + list_overhead ≡ list_price args → low links ≡ list → high reader ≡ body
      → At n base its d k v → Chain n base its list body ks → Chain n base (listed to links reader args ∷ its) at d (k ∷ ks)

module _ (n base : ℕ) (lent : n ≤ 65536) where
  -- the list's position is small enough to be packed
  pub list_below : (fs : List Frame) → (places n base fs).list < 65536
  unfolding laid
  list_below [] = omega arith
  list_below (made f name value spare ∷ fs) = list_below fs
  list_below (collects ended hand waits ∷ fs) = list_below fs
  list_below (reads list since d k v o ∷ fs) =
      let i = list_item (places n base fs) (address n (items n base fs)) list in
      let its = since ++ items n base fs in
      omega (arith, width-cons i its, item-size i)

  -- and the body's
  pub body_below : (fs : List Frame) → Valid n base fs → (places n base fs).body < 65536
  unfolding laid Valid
  body_below [] v = omega arith
  body_below (made f name value spare ∷ fs) v = body_below fs v
  body_below (collects ended hand waits ∷ fs) v = body_below fs v
  body_below (reads list since d k x o ∷ fs) v = omega (arith, at_below v.2 lent)

  -- and how far it is read
  pub offset_below : (fs : List Frame) → Valid n base fs → width (items n base fs) ≤ n → (places n base fs).offset < 65536
  unfolding laid Valid
  offset_below [] v h = omega arith
  offset_below (made f name value spare ∷ fs) v h = offset_below fs v (omega (arith, width-cons (defined f name value spare) (items n base fs)))
  offset_below (collects ended hand waits ∷ fs) v h = offset_below fs v h
  offset_below (reads list since d k x o ∷ fs) v h =
      let i = list_item (places n base fs) (address n (items n base fs)) list in
      omega (arith, at_short v.2, v.3, width-cons i (since ++ items n base fs))

  -- definitions leave a chain as it is
  chain_past : (since : List Item) {its : List Item} {list body : ℕ} {ks : List ℕ} → Definitions since
      → Chain n base its list body ks → Chain n base (since ++ its) list body ks
  unfolding Definitions
  chain_past [] ds c = c
  chain_past (defined f name value spare ∷ since) ds c = past (chain_past since ds c)
  chain_past (listed to links reader list ∷ since) ds c = absurd ds

  -- the chain of the frames
  chain_of : (fs : List Frame) → Valid n base fs → width (items n base fs) ≤ n
      → Chain n base (items n base fs) (places n base fs).list (places n base fs).body (reading (bodies n base fs))
  unfolding laid Valid bodies reading
  chain_of [] v h = unlinked
  chain_of (made f name value spare ∷ fs) v h = past (chain_of fs v (omega (arith, width-cons (defined f name value spare) (items n base fs))))
  chain_of (collects ended hand waits ∷ fs) v h = chain_of fs v h
  chain_of (reads list since d k x o ∷ fs) v h =
      let r = places n base fs in
      let its = items n base fs in
      let i = list_item r (address n its) list in
      let a = width-append since its in
      let w = width-cons i (since ++ its) in
      let z = list_size (address n its) (packed (list_price list - list_overhead) r.list) (packed r.body r.offset) list in
      linked refl
      (size_back list r.list v.4 (omega arith))
      (packed-low (list_price list - list_overhead) r.list (list_below fs))
      (packed-high r.body r.offset (body_below fs v.0))
      v.2
      (chain_past since v.1 (chain_of fs v.0 (omega arith)))

  -- no list stands before the items, even if there is none
  chain_above : {its : List Item} {list body : ℕ} {ks : List ℕ} → Chain n base its list body ks → n ≤ list + 1 + width its
  unfolding encode
  chain_above unlinked = omega arith
  chain_above (past {f} {name} {value} {spare} {its} c) = omega (arith, chain_above c, width-cons (defined f name value spare) its)
  chain_above (linked e a b c d r) = omega arith

-- One turn of a walk --------------------------------------------------------------------------------------------------

-- at a definition: it is within the cells, it is no list, and its size leads to the next item
definition_turn : {n base : ℕ} {l : List ℕ} {p : ℕ} {f : Head} {name value spare : Bytes} {its : List Item} {list body : ℕ} {ks : List ℕ}
    → Chain n base its list body ks → HoldsItems n l p (defined f name value spare ∷ its)
    → (leb (length l) p ≡ false) × (eqb p list ≡ false) × (size l p ≡ length (encode_item (defined f name value spare)))
definition_turn {l = l} {p} {f} {name} {value} {spare} {its} {list} c h =
    let i : Item = defined f name value spare in
    let w = width-cons i its in
    let z = item-size i in
    let q : p ≡ list → ⊥ = λ e. omega (arith, chain_above _ _ h.cells_lent c, h.ends) in
    (lt-leb (length l) p (omega (arith, h.size, h.ends)), ne_eqb p list q, definition_turned l p f name value spare its [] (held h))

-- at a list: it is within the cells, it is the list, and its links lead to the next item and the next list
list_turn : {n : ℕ} {l : List ℕ} {p to links reader at list : ℕ} {args : List Bytes} {its : List Item}
    → at ≡ address n (listed to links reader args ∷ its) → high links + list_overhead ≡ list_price args → low links ≡ list
    → HoldsItems n l p (listed to links reader args ∷ its)
    → (leb (length l) p ≡ false) × (eqb p at ≡ true) × (p + high (list_link l p) + list_overhead ≡ p + length (encode_item (listed to links reader args)))
    × (low (list_link l p) ≡ list)
list_turn {n} {l} {p} {to} {links} {reader} {at} {list} {args} {its} a b e h =
    let i : Item = listed to links reader args in
    let y = list_at l p to links reader args its [] (held h) in
    let w = width-cons i its in
    let z = item-size i in
    (lt-leb (length l) p (omega (arith, h.size, h.ends)), eq-eqb p at (omega (arith, h.ends)), omega (arith, ap high y.links_are, list_size to links reader args), ap low y.links_are ∙ e)

-- The newest definition with a name ----------------------------------------------------------------------------------

-- a test for equality, turned
equal-turned : (x y : ℕ) → eqb x y ≡ eqb y x
equal-turned x y = go (eqb y x) refl
  where
    go : (t : Bool) → eqb y x ≡ t → eqb x y ≡ t
    go true e = eq-eqb x y (sym (eqb-true y x e))
    go false e = ne_eqb x y (λ q. eqb-false y x e (sym q))

-- the two tests for equal lists agree, one of them turned
same_turned : (a b : List ℕ) → same a b ≡ D.same b a
unfolding same D.same
same_turned [] [] = refl
same_turned [] (y ∷ b) = refl
same_turned (x ∷ a) [] = refl
same_turned (x ∷ a) (y ∷ b) = rw (equal-turned x y, same_turned a b)

-- nothing has the name, or the definition at d is the newest that has it
pub data Newest (n base : ℕ) (l : List ℕ) (right : ℕ) (its : List Item) (t : Bytes) : Option ℕ → Type 0 where
  absent : ((older : List Definition) → D.newest t (definitions_of its ++ older) ≡ D.newest t older) → Newest n base l right its t None
  present : {d k : ℕ} {c : Macro} → Defines n base l right its d k t c
      → ((older : List Definition) → length older ≡ base → D.newest t (definitions_of its ++ older) ≡ found k (macro c))
      → Newest n base l right its t (Some d)

-- older items have what they have behind a list
newest_listed : {n base : ℕ} {l : List ℕ} {p q : ℕ} {its : List Item} {t : Bytes} {x : Option ℕ} {to links reader : ℕ} {args : List Bytes} → p ≤ q
    → Newest n base l q its t x → Newest n base l p (listed to links reader args ∷ its) t x
unfolding definitions_of
newest_listed h (absent f) = absent f
newest_listed h (present {c = m} c f) = present {c = m} (defines_there h c) f

-- and behind a definition with another name
newest_other : {n base : ℕ} {l : List ℕ} {p q : ℕ} {its : List Item} {t : Bytes} {x : Option ℕ} {f : Head} {name value spare : Bytes} → p ≤ q
    → D.same t name ≡ false → Newest n base l q its t x → Newest n base l p (defined f name value spare ∷ its) t x
unfolding definitions_of D.newest
newest_other h s (absent f) = absent (λ older. rw s (f older))
newest_other h s (present {c = m} c f) = present {c = m} (defines_there h c) (λ older b. rw s (f older b))

-- a definition with the name is the newest
newest_here : {n base : ℕ} {l : List ℕ} {p : ℕ} {its : List Item} {t : Bytes} {f : Head} {name value spare : Bytes} → D.same t name ≡ true
    → HoldsItems n l p (defined f name value spare ∷ its) → Newest n base l p (defined f name value spare ∷ its) t (Some p)
unfolding definitions_of D.newest
newest_here {base = base} {its = its} {t = t} {f = f} {name = name} {value = value} {spare = spare} s h =
    let q : name ≡ t = same_true name t (same_turned name t ∙ s) in
    let c = defines_here {base = base} h in
    present {c = macro_of f value spare}
    (record { at = c.at; cells = rw q at c.cells; from = c.from; within = rw q at c.within; below = c.below })
    (λ older b.
    let e : length (definitions_of its ++ older) ≡ base + count its = omega (arith, length-append (definitions_of its) older) in
    rw (s, e))

-- so a definition is the newest, or those behind it have what they have
newest_pick : {n base : ℕ} {l : List ℕ} {p q : ℕ} {its : List Item} (t : Bytes) {x : Option ℕ} {f : Head} {name value spare : Bytes} → p ≤ q
    → HoldsItems n l p (defined f name value spare ∷ its) → Newest n base l q its t x
    → Newest n base l p (defined f name value spare ∷ its) t (cond (D.same t name) (Some p) x)
newest_pick {n} {base} {l} {p} {its = its} t {x} {f} {name} {value} {spare} o h r = go (D.same t name) refl
  where
    go : (b : Bool) → D.same t name ≡ b → Newest n base l p (defined f name value spare ∷ its) t (cond b (Some p) x)
    go true e = newest_here e h
    go false e = newest_other o e r

module _ {n : ℕ} {l : List ℕ} (name : ℕ) (t : Bytes) (is : block (name + 1) (length t) l ≡ t) (fits : name + 1 + length t ≤ n) where
  -- the walk's test is that of the names
  named_test : {p : ℕ} {f : Head} {own value spare : Bytes} {its : List Item} → HoldsItems n l p (defined f own value spare ∷ its)
      → cond (eqb (name_length l p) (length t)) (same_blocks (p + head_size) (name + 1) (length t) l) false ≡ D.same t own
  named_test {p} {f} {own} {value} {spare} {its} h = rw c.named (go (eqb (length own) (length t)) refl)
    where
      c : DefinitionAt l p own (macro_of f value spare)
      c = definition_at_lem l p f own value spare its [] (held h)

      go : (x : Bool) → eqb (length own) (length t) ≡ x → cond x (same_blocks (p + head_size) (name + 1) (length t) l) false ≡ D.same t own
      go true e =
          let q : length own ≡ length t = eqb-true (length own) (length t) e in
          let b : block (p + head_size) (length t) l ≡ own = rw q at c.name_is in
          let w = width-cons (defined f own value spare) its in
          let z = definition_size f own value spare in
          same_blocks_in (p + head_size) (name + 1) (length t) l (omega (arith, h.ends, h.size)) (omega (arith, h.size)) ∙ rw (b, is) (same_turned own t)
      go false e = sym (sym (same_turned own t) ∙ ne_same own t (λ q. eqb-false (length own) (length t) e (ap length q)))

  -- the walk along a group finds the newest definition with the name, given a turn for each definition of the group
  pub newest_in_lem : {base : ℕ} (turns : ℕ) {p : ℕ} (its : List Item) → HoldsItems n l p its → Linked n its
      → length (of_group (group t) (definitions_of its)) ≤ turns
      → Newest n base l p its t (newest_from turns l (newest_in n (group t) its) name (length t))
  unfolding newest_from newest_in Linked encode definitions_of of_group
  newest_in_lem zero [] h k w = absent (λ older. refl)
  newest_in_lem (suc turns) [] h k w = rw (le-leb (length l) mark (omega (arith, h.size, h.cells_lent))) (absent (λ older. refl))
  newest_in_lem {base} turns {p} (listed to links reader args ∷ its) h k w =
      newest_listed (omega arith) (newest_in_lem turns its (holds_rest h) k w)
  newest_in_lem {base} turns {p} (defined f own value spare ∷ its) h k w =
      go turns (eqb (group own) (group t)) refl w (λ j q. newest_in_lem j its (holds_rest h) k.1 q)
    where
      i : Item
      i = defined f own value spare

      a : width (i ∷ its) ≡ length (encode_item i) + width its
      a = width-cons i its

      z : 4 ≤ length (encode_item i)
      z = item-size i

      at : address n (i ∷ its) ≡ p
      at = omega (arith, h.ends)

      go : (j : ℕ) (b : Bool) → eqb (group own) (group t) ≡ b
          → length (cond b (definition_of f own value spare ∷ of_group (group t) (definitions_of its)) (of_group (group t) (definitions_of its))) ≤ j
          → ((j : ℕ) → length (of_group (group t) (definitions_of its)) ≤ j
          → Newest n base l (p + length (encode_item i)) its t (newest_from j l (newest_in n (group t) its) name (length t)))
          → Newest n base l p (i ∷ its) t (newest_from j l (cond b (address n (i ∷ its)) (newest_in n (group t) its)) name (length t))
      go zero true e w r = absurd (omega arith)
      go (suc j) true e w r =
          let q : group own ≡ group t = eqb-true (group own) (group t) e in
          let link : group_link l p ≡ newest_in n (group t) its = link_at l p f own value spare its [] (held h) ∙ k.0 ∙ ap (λ (g : ℕ). newest_in n g its) q in
          rw (at, lt-leb (length l) p (omega (arith, h.size, h.ends, a, z)), named_test h, link) (newest_pick t (omega arith) h (r j (omega arith)))
      go j false e w r =
          newest_other (omega arith) (other_group t own (λ q. eqb-false (group own) (group t) e (sym q))) (r j w)

-- The definitions read out of the cells ------------------------------------------------------------------------------

-- a definition among items is read as it is
pub definition_read : (l : List ℕ) (p : ℕ) (f : Head) (name value spare : Bytes) (its : List Item) (rest : List ℕ)
    → drop p l ≡ encode (defined f name value spare ∷ its) ++ rest → definition_at l p ≡ definition_of f name value spare
definition_read l p f name value spare its rest e =
    let d = definition_at_lem l p f name value spare its rest e in
    rw (d.locking, d.named, d.valued, d.roomy, d.name_is, d.value_is)

-- the walk reads the definitions of the items, given turns enough
held_in : {n base : ℕ} {l : List ℕ} (turns : ℕ) {p : ℕ} {its : List Item} {list body : ℕ} {ks : List ℕ} → Chain n base its list body ks → HoldsItems n l p its
    → width its ≤ turns → definitions_held_from turns l p list ≡ definitions_of its
unfolding definitions_held_from encode definitions_of
held_in zero unlinked h w = refl
held_in {l = l} (suc turns) {p = p} unlinked h w = rw (le-leb (length l) p (omega (arith, h.size, h.ends)))
held_in zero (past {f} {name} {value} {spare} {its} c) h w =
    absurd (omega (arith, width-cons (defined f name value spare) its, item-size (defined f name value spare)))
held_in {l = l} (suc turns) {p = p} (past {f} {name} {value} {spare} {its} c) h w =
    let a = width-cons (defined f name value spare) its in
    let z = item-size (defined f name value spare) in
    let x = definition_turn c h in
    rw (x.0, x.1, x.2, definition_read l p f name value spare its [] (held h), held_in turns c (holds_rest h) (omega arith))
held_in zero (linked {to} {links} {reader} {args} {its} a b e q d c) h w =
    absurd (omega (arith, width-cons (listed to links reader args) its, item-size (listed to links reader args)))
held_in (suc turns) {p = p} (linked {to} {links} {reader} {args} {its} a b e q d c) h w =
    let o = width-cons (listed to links reader args) its in
    let z = item-size (listed to links reader args) in
    let x = list_turn a b e h in
    rw (x.0, x.1, x.2, x.3, held_in turns c (holds_rest h) (omega arith))

-- Whether a body is read ---------------------------------------------------------------------------------------------

-- a choice of true, as a test
choice : (a b : Bool) → cond a true b ≡ a || b
choice true b = refl
choice false b = refl

module _ {n base : ℕ} {l : List ℕ} {whole : List Item} {d k : ℕ} {v : Bytes} (fit : width whole ≤ n) (at : At n base whole d k v) where
  -- the walk along the lists asks for the number among those that are read, given turns enough
  read_in : (turns : ℕ) {p : ℕ} {its : List Item} {list body : ℕ} {ks : List ℕ} → Chain n base its list body ks → HoldsItems n l p its
      → ((d' k' : ℕ) (v' : Bytes) → At n base its d' k' v' → At n base whole d' k' v') → width its ≤ turns → is_read_from turns l list body d ≡ among k ks
  unfolding is_read_from among
  read_in zero unlinked h up w = refl
  read_in (suc turns) unlinked h up w = refl
  read_in turns (past {f} {name} {value} {spare} {its} c) h up w =
      read_in turns c (holds_rest h) (λ d' k' v' a. up d' k' v' (there a)) (omega (arith, width-cons (defined f name value spare) its))
  read_in zero (linked {to} {links} {reader} {args} {its} a b e q o c) h up w =
      absurd (omega (arith, width-cons (listed to links reader args) its, item-size (listed to links reader args)))
  read_in (suc turns) {p = p} {list = list} (linked {to} {links} {reader} {args} {its} {k = j} {ks = js} a b e q o c) h up w =
      let i : Item = listed to links reader args in
      let y = list_at l p to links reader args its [] (held h) in
      let x = width-cons i its in
      let z = item-size i in
      let g : list ≡ p = omega arith in
      let r = read_in turns c (holds_rest h) (λ d' k' v' a. up d' k' v' (there a)) (omega arith) in
      rw (g, ne_eqb p nowhere (λ j. omega arith), ap low y.links_are ∙ e, ap high y.reader_is ∙ q, at_test fit (up _ _ _ (there o)) at, r)
      (choice (eqb k j) (among k js))

-- The results --------------------------------------------------------------------------------------------------------

-- the list of the innermost body b: its cells, the frames under it, what was defined while it was collected, and what comes
-- back from its links and its reader
pub record Listed (n base : ℕ) (l : List ℕ) (right list : ℕ) (b : Body) (bs : List Body) : Type 0 where
  pub under : List Frame
  pub since : List Item
  pub valid : Valid n base under
  pub bodies_are : bodies n base under ≡ bs
  pub definitions : Definitions since
  pub cells : ListAt l list (address n (items n base under)) (packed (list_price b.list - list_overhead) (places n base under).list)
      (packed (places n base under).body (places n base under).offset) b.list (encode (since ++ items n base under))
  pub opened : b.opened ≡ base + count (items n base under)
  pub applied : b.applied ≡ base + count (since ++ items n base under)
  pub from : right ≤ list
  pub within : list + list_price b.list + width (since ++ items n base under) ≡ n
  pub size_is : high (list_link l list) + list_overhead ≡ list_price b.list
  pub list_is : low (list_link l list) ≡ (places n base under).list
  pub body_is : high (return_link l list) ≡ (places n base under).body
  pub offset_is : low (return_link l list) ≡ (places n base under).offset

-- a list that stands among older items
listed_there : {n base : ℕ} {l : List ℕ} {p q list : ℕ} {b : Body} {bs : List Body} → p ≤ q → Listed n base l q list b bs → Listed n base l p list b bs
listed_there h r = record {
  under = r.under;
  since = r.since;
  valid = r.valid;
  bodies_are = r.bodies_are;
  definitions = r.definitions;
  cells = r.cells;
  opened = r.opened;
  applied = r.applied;
  from = omega (arith, r.from);
  within = r.within;
  size_is = r.size_is;
  list_is = r.list_is;
  body_is = r.body_is;
  offset_is = r.offset_is;
}

-- the list of the innermost body is found in the cells
pub list_cells : {n base : ℕ} {l : List ℕ} {right : ℕ} (fs : List Frame) {b : Body} {bs : List Body} → Valid n base fs
    → HoldsItems n l right (items n base fs) → bodies n base fs ≡ b ∷ bs → Listed n base l right (places n base fs).list b bs
unfolding laid Valid bodies
list_cells [] v h e = let z : ◌≡◌ {A = ℕ} 0 1 = cc in absurd (omega arith)
list_cells {right = right} (made f name value spare ∷ fs) v h e = listed_there (omega arith) (list_cells {right = right + length (encode_item (defined f name value spare))} fs v (holds_rest h) e)
list_cells (collects ended hand waits ∷ fs) v h e = list_cells fs v h e
list_cells {n} {base} {l} {right} (reads list since d k x o ∷ fs) {b} {bs} v h e =
    let u = places n base fs in
    let its = items n base fs in
    let i = list_item u (address n its) list in
    let a = width-append since its in
    let w = width-cons i (since ++ its) in
    let z = list_size (address n its) (packed (list_price list - list_overhead) u.list) (packed u.body u.offset) list in
    let g : address n (i ∷ (since ++ its)) ≡ right = omega (arith, h.ends) in
    let c = rw (append-nil (encode (since ++ its))) at
    (list_at l right (address n its) (packed (list_price list - list_overhead) u.list) (packed u.body u.offset) list (since ++ its) [] (held h)) in
    let q : list ≡ b.list = cc in
    rw (g, ← q)
    (record {
      under = fs;
      since = since;
      valid = v.0;
      bodies_are = cc;
      definitions = v.1;
      cells = c;
      opened = cc;
      applied = cc;
      from = omega arith;
      within = omega (arith, h.ends);
      size_is = rw c.links_are (size_back list u.list v.4 (omega (arith, h.ends, h.cells_lent)));
      list_is = rw c.links_are (packed-low (list_price list - list_overhead) u.list (list_below n base h.cells_lent fs));
      body_is = rw c.reader_is (packed-high u.body u.offset (body_below n base h.cells_lent fs v.0));
      offset_is = rw c.reader_is (packed-low u.body u.offset (offset_below n base h.cells_lent fs v.0 (omega (arith, h.ends))));
    })

module _ {n base : ℕ} {l : List ℕ} {right : ℕ} (fs : List Frame) (valid : Valid n base fs)
    (h : HoldsItems n l right (items n base fs)) where
  -- the newest definition with the name in the cells at a length cell
  pub newest_finds : {heads : List ℕ} (name : ℕ) (t : Bytes) → Index n (items n base fs) heads → get_or l name 0 ≡ length t → block (name + 1) (length t) l ≡ t
      → name + 1 + length t ≤ n → Newest n base l right (items n base fs) t (newest l heads name)
  newest_finds name t x c is fits =
      rw (c, is, x.headed (group t) (group_below t)) (newest_in_lem name t is fits (length l) (items n base fs) h x.linked
      (omega (arith, group-length (group t) (definitions_of (items n base fs)), count-width (items n base fs))))

  -- whether the body of a definition is read is whether its number is among those that are read
  pub is_read_finds : {list body d k : ℕ} {v : Bytes} → list ≡ (places n base fs).list → body ≡ (places n base fs).body
      → At n base (items n base fs) d k v → is_read l list body d ≡ among k (reading (bodies n base fs))
  is_read_finds e q a =
      rw (e, q) (read_in (omega arith) a (length l) (chain_of n base h.cells_lent fs valid (omega arith)) h (λ d' k' v' x. x) (omega arith))

-- the definitions that the cells hold are those of the items
pub held_finds : (n base : ℕ) {l : List ℕ} {right list : ℕ} (fs : List Frame) → Valid n base fs → HoldsItems n l right (items n base fs)
    → list ≡ (places n base fs).list → definitions_held l right list ≡ definitions_of (items n base fs)
held_finds n base {l} fs valid h e = rw e (held_in (length l) (chain_of n base h.cells_lent fs valid (omega (arith, h.ends))) h (omega (arith, h.ends, h.size)))
