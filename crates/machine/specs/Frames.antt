-- How a run lies in the cells. A stack of frames, the newest first, says what was defined, opened and applied, in this order;
-- calls, bodies, items, positions and the cells of the left stack are read off it.
use Rattle.std.specs.Prelude.{ℕ, ◌+◌, ◌-◌, ◌≤◌, ◌<◌, ◌≡◌, List, [], ◌∷◌, ◌++◌, length, drop}
use Rattle.language.specs.Signs.{Bytes}
use Rattle.language.specs.Charge.{arguments_price, collected_price, list_price}
use Rattle.language.specs.Scanning.{Call, Body}
use Rattle.machine.specs.Walks.{nowhere, packed, arguments_from, list_overhead}
use Rattle.machine.specs.Items.{Head, Item, defined, listed, width, count, encode_call, Definitions}

-- the positions of a standing: where the left stack ends, the innermost call and the length cell of its argument in hand; the
-- list of the innermost body, the definition that it reads and how far
pub record Places : Type 0 where
  pub left : ℕ
  pub call : ℕ
  pub hand : ℕ
  pub list : ℕ
  pub body : ℕ
  pub offset : ℕ

-- a definition; a call being collected, with what its waiting length cell holds; a body being read: its name and parameters, the
-- definitions made while they were collected, the definition that is read, its number and value, and how far it is read
pub data Frame : Type 0 where
  made : Head → Bytes → Bytes → Bytes → Frame
  collects : List Bytes → Bytes → ℕ → Frame
  reads : List Bytes → List Item → ℕ → ℕ → Bytes → ℕ → Frame

-- where an item stands that has these items from it on
abbrev pub address : ℕ → List Item → ℕ
address n items = n - width items

-- the definition at a position: its number, counted from the oldest, `base` being older than all items, and its value
pub data At (n base : ℕ) : List Item → ℕ → ℕ → Bytes → Type 0 where
  here : {f : Head} {name value spare : Bytes} {items : List Item} {d k : ℕ}
      → d ≡ address n (defined f name value spare ∷ items) → k ≡ base + count items → At n base (defined f name value spare ∷ items) d k value
  there : {i : Item} {items : List Item} {d k : ℕ} {v : Bytes} → At n base items d k v → At n base (i ∷ items) d k v

abbrev pub bottom : Places
bottom = record { left = 0; call = nowhere; hand = 0; list = nowhere; body = 0; offset = 0 }

abbrev pub opening : Places → List Bytes → Bytes → Places
opening p ended hand = record {
  left = p.left + collected_price ended hand;
  call = p.left;
  hand = p.left + arguments_from + arguments_price ended;
  list = p.list;
  body = p.body;
  offset = p.offset;
}

abbrev pub applying : Places → ℕ → ℕ → ℕ → Places
applying p l d o = record { left = p.left; call = p.call; hand = p.hand; list = l; body = d; offset = o }

-- the list of a body that returns to p; what was defined while it was collected ends before `to`
abbrev pub list_item : Places → ℕ → List Bytes → Item
list_item p to list = listed to (packed (list_price list - list_overhead) p.list) (packed p.body p.offset) list

-- n cells; `base` definitions are older than all items
module _ (n base : ℕ) where
  -- items and positions go together
  unfoldable pub laid : List Frame → List Item × Places
  laid [] = ([], bottom)
  laid (made f name value spare ∷ fs) = let r = laid fs in (defined f name value spare ∷ r.0, r.1)
  laid (collects ended hand waits ∷ fs) = let r = laid fs in (r.0, opening r.1 ended hand)
  laid (reads list since d k v o ∷ fs) =
      let r = laid fs in
      let items = list_item r.1 (address n r.0) list ∷ (since ++ r.0) in
      (items, applying r.1 (address n items) d o)

  abbrev pub items : List Frame → List Item
  items fs = (laid fs).0

  abbrev pub places : List Frame → Places
  places fs = (laid fs).1

  -- the cells of the left stack
  unfoldable pub lefts : List Frame → List ℕ
  lefts [] = []
  lefts (made f name value spare ∷ fs) = lefts fs
  lefts (collects ended hand waits ∷ fs) =
      lefts fs ++ encode_call (address n (items fs)) (places fs).list (packed (places fs).hand (places fs).call) waits ended hand
  lefts (reads list since d k v o ∷ fs) = lefts fs

  unfoldable pub calls : List Frame → List Call
  calls [] = []
  calls (made f name value spare ∷ fs) = calls fs
  calls (collects ended hand waits ∷ fs) = record { ended = ended; hand = hand; stood = base + count (items fs) } ∷ calls fs
  calls (reads list since d k v o ∷ fs) = calls fs

  unfoldable pub bodies : List Frame → List Body
  bodies [] = []
  bodies (made f name value spare ∷ fs) = bodies fs
  bodies (collects ended hand waits ∷ fs) = bodies fs
  bodies (reads list since d k v o ∷ fs) =
      record {
        number = k;
        list = list;
        rest = drop o v;
        calls = length (calls fs);
        opened = base + count (items fs);
        applied = base + count (since ++ items fs);
      } ∷ bodies fs

  unfoldable pub Valid : List Frame → Type 0
  Valid [] = Unit {0}
  Valid (made f name value spare ∷ fs) = Valid fs
  Valid (collects ended hand waits ∷ fs) = Valid fs
  Valid (reads list since d k v o ∷ fs) = Valid fs × Definitions since × At n base (since ++ items fs) d k v × (o ≤ length v) × (0 < length list)
