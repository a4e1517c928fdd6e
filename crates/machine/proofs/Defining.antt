-- DEF with a name: the list goes, and the definition is put before what stood at its `$`.
use Prim.Native.Nat.{ℕ, zero, suc, ◌+◌, ◌-◌, ◌≤◌, ◌<◌}
use native.Mathlib.Omega.{arith}
use mathlib.Core.Path.{◌≡◌, refl, sym, ap, ◌∙◌}
use mathlib.Core.Bool.{false}
use mathlib.Core.List.{List, [], ◌∷◌, ◌++◌, append_assoc, append-nil}
use lib.ListN.{length, take, drop, get_or, set, length-append, length-drop, take-append-drop}
use lib.Seq.{take-append-le, drop_at, take-take, drop-append-le, length-take-le, sets-eq, set_at, take_at, drop-cons, get_or-take}
use borrow.Author.Tests.{le-ltb, lt-leb, ne_eqb}
use Rattle.language.specs.Expansion.{lent}
use Rattle.language.specs.Signs.{Bytes, cells_limit}
use Rattle.language.specs.Definitions.{Definition, oldest, macro}
use Rattle.language.specs.Definitions as D
use Rattle.language.specs.BuiltIns.{parameter}
use Rattle.language.specs.Charge.{arguments_price}
use Rattle.language.specs.Groups.{group}
use Rattle.language.specs.Scanning.{State, next}
use Rattle.language.specs.Scanning as S
use Rattle.memory.specs.Block.{placed, block, moved}
use Rattle.memory.proofs.Blocks.{moved_in}
use Rattle.machine.specs.declared.run.Run.{Run}
use Rattle.machine.specs.Walks.{head_size, with_head, cell, definition_group, removed, headed_at, packed, high, low, arguments_from}
use Rattle.machine.specs.Machine as M
use Rattle.machine.proofs.Items.{encode-append, count-width, width-append, width-cons, count-append, definition_size}
use Rattle.machine.proofs.Represents.{SimulatesIndexed, goes}
use Rattle.machine.proofs.Finds.{ArgumentAt, group_at}
use Rattle.machine.proofs.Indexing.{headed_new}
use Rattle.machine.proofs.Applying.{Applied, list_of}
use Rattle.machine.proofs.Calling.{gone_index, release_is, right_to, to_above, under_cells, take_call, left_definitions, places_left}
use Rattle.machine.specs.Items.{definition_of, Head, Item, defined, width, encode, definitions_of, count}
use Rattle.machine.specs.Frames.{Places, made, address, laid, items, places, lefts, calls, bodies, Valid}
use Rattle.machine.specs.Index.{Index}
use Rattle.machine.specs.Held.{Represents}
use Rattle.machine.proofs.Lists.{cell_is}

-- one argument more is its bytes and its length cell
price_more : (list : List Bytes) (k : ℕ) → k < length list
    → arguments_price (take (suc k) list) ≡ arguments_price (take k list) + (length (get_or list k []) + 1)
unfolding arguments_price
price_more [] k h = absurd (omega arith)
price_more (x ∷ list) zero h = omega arith
price_more (x ∷ list) (suc k) h = omega (arith, price_more list k (omega arith))

-- a block that ends before some position is that of the cells before it
block_before : (t u : List ℕ) (i k : ℕ) → i + k ≤ length t → block i k (t ++ u) ≡ block i k t
block_before t u i k h = ap (take k) (drop-append-le i t u (omega arith)) ∙ take-append-le k (drop i t) u (omega (arith, length-drop i t))

-- the cells before some position keep a block that ends there, whatever stands behind
block_kept : (l u : List ℕ) (i k j : ℕ) → i + k ≤ j → j ≤ length l → block i k (take j l ++ u) ≡ block i k l
block_kept l u i k j h e =
    let s = length-take-le j l e in
    block_before (take j l) u i k (omega arith) ∙ sym (block_before (take j l) (drop j l) i k (omega arith)) ∙ ap (block i k) (take-append-drop j l)

-- four cells set, of the five before a piece
four_set : (l x : List ℕ) (i a b c d : ℕ) → i + 5 ≤ length l
    → set (set (set (set (take (i + 5) l ++ x) i a) (i + 1) b) (i + 2) c) (i + 3) d ≡ take i l ++ (a ∷ b ∷ c ∷ d ∷ get_or l (i + 4) 0 ∷ x)
four_set l x i a b c d h =
    let t = take (i + 5) l ++ x in
    let s : length (take (i + 5) l) ≡ i + 5 = length-take-le (i + 5) l h in
    let one : i + 1 ≡ suc i = omega arith in
    let two : i + 2 ≡ suc (suc i) = omega arith in
    let three : i + 3 ≡ suc (suc (suc i)) = omega arith in
    let five : suc (i + 4) ≡ i + 5 = omega arith in
    let last : drop (i + 4) t ≡ get_or l (i + 4) 0 ∷ x =
    drop-cons t (i + 4) 0 (omega (arith, length-append (take (i + 5) l) x))
    ∙ ap (λ (k : ℕ). get_or t (i + 4) 0 ∷ drop k t) five
    ∙ ap (λ (y : List ℕ). get_or t (i + 4) 0 ∷ y) (drop_at (take (i + 5) l) x (i + 5) s)
    ∙ ap (λ (k : ℕ). k ∷ x) (sym (get_or-take (i + 5) t (i + 4) 0 (omega arith)) ∙ ap (λ (y : List ℕ). get_or y (i + 4) 0) (take_at (take (i + 5) l) x (i + 5) s) ∙ get_or-take (i + 5) l (i + 4) 0 (omega arith)) in
    rw (one, two, three) (sets-eq (a ∷ b ∷ c ∷ d ∷ []) t i (omega (arith, length-append (take (i + 5) l) x)))
    ∙ append_assoc (take i t) (a ∷ b ∷ c ∷ d ∷ []) (drop (i + 4) t)
    ∙ ap (λ (y : List ℕ). y ++ (a ∷ b ∷ c ∷ d ∷ drop (i + 4) t)) (take-append-le i (take (i + 5) l) x (omega arith) ∙ take-take i (i + 5) l (omega arith))
    ∙ ap (λ (y : List ℕ). take i l ++ (a ∷ b ∷ c ∷ d ∷ y)) last

-- a piece moved to end before a position, where what stands behind the position has been put
moved_to : (l u piece : List ℕ) (from at to count : ℕ) → length piece ≡ count → block from count l ≡ piece → from + count ≤ to → at + count ≡ to → to ≤ length l
    → moved from at count (take to l ++ u) ≡ take at l ++ (piece ++ u)
moved_to l u piece from at to count size is before fit e =
    let s = length-take-le to l e in
    let t = take to l ++ u in
    let ts = length-append (take to l) u in
    moved_in from at count t (omega arith) (omega arith)
    ∙ ap (λ (y : List ℕ). placed at y t) (block_kept l u from count to before e ∙ is)
    ∙ ap (λ (k : ℕ). take at t ++ (piece ++ drop (at + k) t)) size
    ∙ ap (λ (k : ℕ). take at t ++ (piece ++ drop k t)) fit
    ∙ ap (λ (y : List ℕ). take at t ++ (piece ++ y)) (drop_at (take to l) u to s)
    ∙ ap (λ (y : List ℕ). y ++ (piece ++ u)) (take-append-le at (take to l) u (omega arith) ∙ take-take at to l (omega arith))

-- the cells with a definition put before a position
put_before : (l name value : List ℕ) (x y to : ℕ) → block (x + 1) (length name) l ≡ name → block (y + 1) (length value) l ≡ value
    → x + 1 + length name + length value ≤ to → y + 1 + length value ≤ to → head_size + length name + length value ≤ to → to ≤ length l → to ≤ 65536
    → with_head (moved (x + 1) (to - (length name + length value)) (length name) (moved (y + 1) (to - length value) (length value) l))
    (to - (head_size + length name + length value)) (length name) (length value)
    ≡ take (to - (head_size + length name + length value)) l
    ++ (0 ∷ length name ∷ length value ∷ length value ∷ get_or l (to - (head_size + length name + length value) + 4) 0 ∷ (name ++ (value ++ drop to l)))
put_before l name value x y to name_is value_is nameFits valueFits fits e small =
    let m = length name in
    let v = length value in
    let d = to - (head_size + m + v) in
    let four : to - (m + v) ≡ d + head_size = omega arith in
    let first : moved (y + 1) (to - v) v l ≡ take (to - v) l ++ (value ++ drop to l) =
    ap (moved (y + 1) (to - v) v) (sym (take-append-drop to l)) ∙ moved_to l (drop to l) value (y + 1) (to - v) to v refl value_is (omega arith) (omega arith) e in
    let second : moved (x + 1) (to - (m + v)) m (take (to - v) l ++ (value ++ drop to l)) ≡ take (to - (m + v)) l ++ (name ++ (value ++ drop to l)) =
    moved_to l (value ++ drop to l) name (x + 1) (to - (m + v)) (to - v) m refl name_is (omega arith) (omega arith) (omega arith) in
    rw (first, second, cell_is m (omega arith), cell_is v (omega arith), four) (four_set l (name ++ (value ++ drop to l)) d 0 m v v (omega arith))

module _ {n : ℕ} {older : List Definition} {heads whole start : List ℕ} {r : Run} {l o : List ℕ} {s : State} (a : Applied n older heads whole start r (lent l o) s) where
  abbrev b : ℕ
  b = length older

  abbrev U : List Item
  U = items n b a.under

  abbrev p : Places
  p = places n b a.under

  abbrev to : ℕ
  to = address n U

  abbrev list : List Bytes
  list = list_of a

  abbrev name : Bytes
  name = parameter 1 list

  abbrev value : Bytes
  value = parameter 2 list

  -- how many cells the definition takes
  abbrev size : ℕ
  size = head_size + length name + length value

  -- the index without what was defined since the `$`, and where the definition will stand
  abbrev older' : List ℕ
  older' = removed l heads r.right to

  abbrev at : ℕ
  at = to - size

  -- its lock and its link
  abbrev head : Head
  head = record { lock = 0; link = get_or older' (group name) 0 }

  -- the run once the definition is made
  abbrev run : Run
  run = M.defined (M.released r 0 to (packed p.hand p.call) (count a.since)) size

  -- the cells of the definition, and what stood at the `$` behind it
  abbrev tail : List ℕ
  tail = 0 ∷ length name ∷ length value ∷ length value ∷ head.link ∷ (name ++ (value ++ drop to l))

  -- the cells once the definition is made
  abbrev cells : List ℕ
  cells = take at l ++ tail

  -- the name and the value stand at these length cells
  module _ {first second : ℕ} (name_at : ArgumentAt l (r.calls.call + arguments_from) list 1 first)
      (value_at : ArgumentAt l (r.calls.call + arguments_from) list 2 second) (long : 2 < length list) (named : 0 < length name) where
    -- what stood at the `$` lies within the cells
    to_within : (to ≤ n) × (n ≤ 65536) × (length l ≡ n) × (to + width U ≡ n)
    to_within = let w = width-append a.since U in (omega arith, a.cells_lent, a.lies.stands.size, omega (arith, a.lies.stands.right))

    -- the list is longer than the definition, and the name ends before the value
    fits : (first + 1 + length name ≤ second) × (second + 1 + length value ≤ r.calls.left) × (r.calls.call + 3 ≤ first) × (r.calls.left + 1 ≤ to)
    fits =
        let x = name_at in
        let y = value_at in
        (omega (arith, x.place, y.place, price_more list 1 (omega arith)), omega (arith, y.within, a.left_is), omega (arith, x.place), to_above a)

    -- its cells before it is linked
    unlinked : M.defined_cells to first second (length name) (length value) l ≡ take at l ++ (0 ∷ length name ∷ length value ∷ length value ∷ get_or l (at + 4) 0 ∷ (name ++ (value ++ drop to l)))
    unlinked =
        let x = name_at in
        let y = value_at in
        let f = fits in
        let w = to_within in
        put_before l name value first second to x.bytes y.bytes (omega arith) (omega arith) (omega arith) (omega arith) (omega arith)

    before : length (take at l) ≡ at
    before = let w = to_within in length-take-le at l (omega arith)

    -- the cells of the definition and of what stands behind it are the items, the definition the newest of them
    encoded : (f : Head) → encode (defined f name value [] ∷ U) ≡ f.lock ∷ length name ∷ length value ∷ length value ∷ f.link ∷ (name ++ (value ++ drop to l))
    unfolding encode
    encoded f =
        let z : length value + 0 ≡ length value = omega arith in
        rw (z, append-nil value, append_assoc name value (encode U), under_cells a)

    -- its group is that of its name
    group_is : definition_group (M.defined_cells to first second (length name) (length value) l) at ≡ group name
    group_is =
        let f : Head = record { lock = 0; link = get_or l (at + 4) 0 } in
        group_at (M.defined_cells to first second (length name) (length value) l) at f name value [] U []
        (ap (drop at) unlinked
        ∙ drop_at (take at l) (0 ∷ length name ∷ length value ∷ length value ∷ get_or l (at + 4) 0 ∷ (name ++ (value ++ drop to l))) at before
        ∙ sym (encoded f)
        ∙ sym (append-nil (encode (defined f name value [] ∷ U))))

    -- the index without what goes
    removed_is : Index n U older'
    removed_is =
        gone_index a a.since U l a.definitions refl a.lies.stands.size (a.lies.stands.cells ∙ encode-append a.since U) a.lies.indexed

    -- the cells with its link
    linked : set (take at l ++ (0 ∷ length name ∷ length value ∷ length value ∷ get_or l (at + 4) 0 ∷ (name ++ (value ++ drop to l)))) (at + 4) head.link ≡ cells
    linked =
        let four : List ℕ = 0 ∷ length name ∷ length value ∷ length value ∷ [] in
        let e : length (take at l ++ four) ≡ at + 4 = omega (arith, length-append (take at l) four, before) in
        ap (λ (c : List ℕ). set c (at + 4) head.link) (sym (append_assoc (take at l) four (get_or l (at + 4) 0 ∷ (name ++ (value ++ drop to l)))))
        ∙ set_at (take at l ++ four) (get_or l (at + 4) 0) (name ++ (value ++ drop to l)) head.link (at + 4) e
        ∙ append_assoc (take at l) four (head.link ∷ (name ++ (value ++ drop to l)))

    -- what DEF leaves
    def_is : M.def r first second heads (lent l o) ≡ record { after = M.goes run (lent cells o); heads = headed_at (M.defined_cells to first second (length name) (length value) l) older' at }
    def_is =
        let x = name_at in
        let y = value_at in
        let f = fits in
        let w = to_within in
        rw (
          release_is a r 0 o refl refl refl,
          x.counted,
          y.counted,
          ne_eqb (length name) 0 (λ (e : length name ≡ 0). absurd (omega arith)),
          le-ltb to (size + (r.calls.call + 0)) (omega arith),
          lt-leb cells_limit (r.counts.live - count a.since) (omega (arith, a.lies.stands.live, count-append a.since U, count-width U, width-append a.since U, to_above a)),
          group_is,
        )
        (ap (λ (c : List ℕ). record { after = M.goes run (lent c o); heads = set older' (group name) (cell at) })
        (ap (λ (c : List ℕ). set c (at + 4) (get_or older' (group name) 0)) unlinked ∙ linked))

    -- the standing once the definition is made
    stands : Represents n older (headed_at (M.defined_cells to first second (length name) (length value) l) older' at) whole start run (lent cells o)
        (S.with_calls (calls n b a.under) (S.with_definitions (D.defined name value ∷ oldest (b + count U) s.standing.definitions) s))
    unfolding laid lefts calls bodies Valid definitions_of
    stands =
        let f = fits in
        let w = to_within in
        let z : r.calls.call + 0 ≡ r.calls.call = omega arith in
        let v : length value ≡ length value + 0 = omega arith in
        let lo = before in
        record {
          frames = made head name value [] ∷ a.under;
          valid = a.valid;
          lies = record {
            stands = record {
              size = omega (arith, length-append (take (to - size) l) tail, length-append name (value ++ drop to l), length-append value (drop to l), length-drop to l);
              right = omega (arith, width-cons (defined head name value []) U, definition_size head name value []);
              cells = drop_at (take (to - size) l) tail (to - size) lo ∙ sym (encoded head);
              definitions =
                  ap (λ (k : ℕ). record { name = name; content = macro (record { value = value; room = k; locked = false }) } ∷ oldest (b + count U) s.standing.definitions) v
                  ∙ ap (λ (t : List Definition). definition_of head name value [] ∷ t) (left_definitions a);
              live = omega (arith, a.lies.stands.live, count-append a.since U);
            };
            read = a.lies.read;
            scans = a.lies.scans;
            most = a.lies.most;
            wrote = a.lies.wrote;
            indexed = headed_new (M.defined_cells to first second (length name) (length value) l) older' at 0 [] group_is
                (omega (arith, width-cons (defined head name value []) U, definition_size head name value [])) (omega arith) removed_is;
          };
          cells_lent = a.cells_lent;
          ordered = omega arith;
          in_use = omega (arith, a.in_use, a.left_is, right_to a);
          places_are =
              ap (λ (j : ℕ). record { left = j; call = low (packed p.hand p.call); hand = high (packed p.hand p.call); list = r.source.list; body = r.source.body; offset = r.source.offset }) z
              ∙ places_left a;
          lefts_are =
              ap (λ (j : ℕ). take j cells) z
              ∙ take-append-le r.calls.call (take (to - size) l) tail (omega arith)
              ∙ take-take r.calls.call (to - size) l (omega arith)
              ∙ take_call a;
          calls_are = refl;
          bodies_are = a.bodies_are;
          ahead = a.ahead;
          quotes = a.quotes;
        }

    -- DEF with a name does what the scanning says
    pub def_sim : SimulatesIndexed n older whole start (M.def r first second heads (lent l o))
        (next (S.with_calls (calls n b a.under) (S.with_definitions (D.defined name value ∷ oldest (b + count U) s.standing.definitions) s)))
    def_sim = rw def_is (goes refl stands)
