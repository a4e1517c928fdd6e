-- What an applied call leads to in the cells: its list moves to the right and a body is read, or it goes.
use Prim.Native.Nat.{ℕ, suc, ◌+◌, ◌-◌, ◌≤◌, ◌<◌, zero-le}
use native.Mathlib.Omega.{arith}
use mathlib.Core.Path.{◌≡◌, refl, sym, ap, subst, ◌∙◌}
use mathlib.Core.List.{List, [], ◌∷◌, ◌++◌, append_assoc}
use lib.ListN.{length, take, drop, get_or, set, length-append, length-drop}
use lib.Seq.{take-append-le, take_at, drop_at, take-take, drop-drop, drop-append-add, get_or-append-add, length-take-le}
use borrow.Author.Tests.{le-ltb}
use Rattle.language.specs.Expansion.{lent}
use Rattle.language.specs.Signs.{Bytes}
use Rattle.language.specs.Definitions.{Definition, oldest}
use Rattle.language.specs.Charge.{list_price, definitions_price}
use Rattle.language.specs.Scanning.{State, Body}
use Rattle.language.specs.Scanning as S
use Rattle.language.proofs.Prices.{arguments_last, price_append}
use Rattle.memory.specs.Block.{placed, block, moved}
use Rattle.memory.proofs.Blocks.{moved_in}
use Rattle.machine.specs.declared.run.Run.{Run}
use Rattle.machine.specs.Walks.{list_overhead, mark, packed, high, low, definitions, removed, arguments_from, return_link, with_links}
use Rattle.machine.specs.Machine as M
use Rattle.machine.proofs.Items.{encode-append, width-append, width-cons, count-append, definitions-append, arguments_size, list_size}
use Rattle.machine.proofs.Stack.{left_is as framesLeft}
use Rattle.machine.proofs.Represents.{calls_charge, right_charge, definitions_width}
use Rattle.machine.proofs.Finds.{definitions-count}
use Rattle.machine.proofs.Indexing.{removed_in}
use Rattle.machine.proofs.Applying.{Applied, list_of}
use Rattle.machine.specs.Items.{Item, encode_item, width, encode, encode_arguments, definitions_of, count, Definitions}
use Rattle.machine.specs.Frames.{Places, Frame, made, collects, reads, address, At, list_item, laid, items, places, lefts, calls, bodies, Valid}
use Rattle.machine.specs.Index.{newest_in, Linked, Index}
use Rattle.machine.specs.Held.{Represents}
use Rattle.machine.proofs.Lists.{packed-low, packed-high}

-- positions on the left are below 65536
pub left_below : (n b : ℕ) (fs : List Frame) → n ≤ 65536 → (places n b fs).left ≤ n → ((places n b fs).call < 65536) × ((places n b fs).hand < 65536)
unfolding laid
left_below n b [] h e = (omega arith, omega arith)
left_below n b (made f name value spare ∷ fs) h e = left_below n b fs h e
left_below n b (collects ended hand waits ∷ fs) h e = (omega arith, omega arith)
left_below n b (reads list since d k v o ∷ fs) h e = left_below n b fs h e

-- the second and the third cell of a list set anew
two_set : (t : List ℕ) (x y z y' z' : ℕ) (c : List ℕ) (i : ℕ) → length t ≡ i
    → set (set (t ++ (x ∷ y ∷ z ∷ c)) (i + 1) y') (i + 2) z' ≡ t ++ (x ∷ y' ∷ z' ∷ c)
two_set [] x y z y' z' c i e = let q : i ≡ 0 = sym e in rw q
two_set (u ∷ t) x y z y' z' c i e =
    let q : i + 1 ≡ suc (length t + 1) = omega arith in
    let p : i + 2 ≡ suc (length t + 2) = omega arith in
    rw (q, p) (ap (λ (w : List ℕ). u ∷ w) (two_set t x y z y' z' c (length t) refl))

-- the definitions that stood at a moment
pub oldest_items : (since under : List Item) (older : List Definition) → oldest (length older + count under) (definitions_of (since ++ under) ++ older) ≡ definitions_of under ++ older
oldest_items since under older =
    let ds = definitions_of (since ++ under) ++ older in
    let split : ds ≡ definitions_of since ++ (definitions_of under ++ older) =
    ap (λ (x : List Definition). x ++ older) (definitions-append since under) ∙ append_assoc (definitions_of since) (definitions_of under) older in
    let size : length ds ≡ count since + (count under + length older) =
    ap length split ∙ omega (arith, length-append (definitions_of since) (definitions_of under ++ older), length-append (definitions_of under) older) in
    ap (λ (x : List Definition). drop (length ds - (length older + count under)) x) split
    ∙ drop_at (definitions_of since) (definitions_of under ++ older) (length ds - (length older + count under)) (omega arith)

module _ {n : ℕ} {older : List Definition} {heads whole start : List ℕ} {r : Run} {l o : List ℕ} {s : State} (a : Applied n older heads whole start r (lent l o) s) where
  abbrev b : ℕ
  b = length older

  abbrev U : List Item
  U = items n b a.under

  abbrev p : Places
  p = places n b a.under

  abbrev to : ℕ
  to = address n U

  abbrev list : List Bytes
  list = list_of a

  abbrev rest : List ℕ
  rest = drop (r.calls.left + 1) l

  under_size : length (lefts n b a.under) ≡ r.calls.call
  under_size = sym (a.call_is ∙ framesLeft n b a.under)

  widths : (width (a.since ++ U) ≡ width a.since + width U) × (r.right + (width a.since + width U) ≡ n)
  widths = let w = width-append a.since U in (w, omega (arith, a.lies.stands.right))

  -- the cells of the list, from its head on
  pub arguments_at : drop (r.calls.call + arguments_from) l ≡ encode_arguments list ++ (mark ∷ rest)
  arguments_at =
      ap (λ (k : ℕ). drop (k + arguments_from) l) (sym under_size)
      ∙ ap (drop (length (lefts n b a.under) + 3)) a.cells
      ∙ drop-append-add (lefts n b a.under) (to ∷ p.list ∷ packed p.hand p.call ∷ (encode_arguments list ++ (mark ∷ rest))) 3

  head_at : (k v : ℕ) → get_or (to ∷ p.list ∷ packed p.hand p.call ∷ (encode_arguments list ++ (mark ∷ rest))) k 0 ≡ v → get_or l (r.calls.call + k) 0 ≡ v
  head_at k v e =
      ap (λ (j : ℕ). get_or l (j + k) 0) (sym under_size)
      ∙ ap (λ (t : List ℕ). get_or t (length (lefts n b a.under) + k) 0) a.cells
      ∙ get_or-append-add (lefts n b a.under) (to ∷ p.list ∷ packed p.hand p.call ∷ (encode_arguments list ++ (mark ∷ rest))) k 0
      ∙ e

  pub to_is : get_or l r.calls.call 0 ≡ to
  to_is = let z : r.calls.call + 0 ≡ r.calls.call = omega arith in ap (λ (k : ℕ). get_or l k 0) (sym z) ∙ head_at 0 to refl

  pub links_is : return_link l r.calls.call ≡ packed p.hand p.call
  links_is = head_at 2 (packed p.hand p.call) refl

  pub outer_call : low (packed p.hand p.call) ≡ p.call
  outer_call = packed-low p.hand p.call (left_below n b a.under a.cells_lent (omega (arith, a.call_is, a.left_is, a.room, widths.1))).0

  pub outer_hand : high (packed p.hand p.call) ≡ p.hand
  outer_hand = packed-high p.hand p.call (left_below n b a.under a.cells_lent (omega (arith, a.call_is, a.left_is, a.room, widths.1))).1

  pub take_call : take r.calls.call l ≡ lefts n b a.under
  take_call = ap (take r.calls.call) a.cells ∙ take_at (lefts n b a.under) _ r.calls.call under_size

  -- the size of the list, with its mark
  size_is : r.calls.left - r.calls.call + 1 ≡ list_price list
  size_is = omega (arith, a.left_is)

  -- the definitions made since the `$`
  pub gone_is : definitions l r.right to ≡ count a.since
  gone_is =
      let w = widths in
      let e : r.right + width a.since ≡ to = omega (arith, w.1) in
      subst (λ (k : ℕ). definitions l r.right k ≡ count a.since) e
      (definitions-count l r.right a.since (encode U) (a.lies.stands.cells ∙ encode-append a.since U) a.definitions (omega (arith, w.1, a.lies.stands.size)))

  -- what was defined since then is taken out of the index, wherever the items then stand
  pub gone_index : (since' under' : List Item) (l' : List ℕ) → Definitions since' → width since' ≡ width a.since → length l' ≡ n
      → drop r.right l' ≡ encode since' ++ encode under' → Index n (since' ++ under') heads → Index n under' (removed l' heads r.right to)
  gone_index since' under' l' ds size lent' cells' x =
      let w = widths in
      removed_in (length l') n l' heads r.right to since' under' (encode under') cells' ds (omega (arith, w.1)) (omega (arith, w.1)) x

  -- The body of a definition is read ---------------------------------------------------------------------------------

  module _ (d k : ℕ) (v : Bytes) (at : At n b (a.since ++ U) d k v) where
    abbrev I : Item
    I = list_item p to list

    abbrev pub at' : ℕ
    at' = r.right - (r.calls.left - r.calls.call + 1)

    list_width : width (I ∷ (a.since ++ U)) ≡ list_price list + (width a.since + width U)
    list_width =
        omega (arith, width-cons I (a.since ++ U), list_size to (packed (list_price list - list_overhead) p.list) (packed p.body p.offset) list, width-append a.since U)

    at'Is : at' ≡ address n (I ∷ (a.since ++ U))
    at'Is = let w = widths in omega (arith, size_is, list_width, a.left_is, a.room, w.1)

    -- the list as it stood on the left
    abbrev body : List ℕ
    body = encode_arguments list ++ (mark ∷ [])

    block_is : block r.calls.call (r.calls.left - r.calls.call + 1) l ≡ to ∷ p.list ∷ packed p.hand p.call ∷ body
    block_is =
        let whole' : l ≡ lefts n b a.under ++ ((to ∷ p.list ∷ packed p.hand p.call ∷ body) ++ rest) =
        a.cells ∙ ap (λ (t : List ℕ). lefts n b a.under ++ (to ∷ p.list ∷ packed p.hand p.call ∷ t)) (sym (append_assoc (encode_arguments list) (mark ∷ []) rest)) in
        let size : length (to ∷ p.list ∷ packed p.hand p.call ∷ body) ≡ r.calls.left - r.calls.call + 1 =
        omega (arith, length-append (encode_arguments list) (mark ∷ []), arguments_size list, a.left_is) in
        ap (λ (t : List ℕ). take (r.calls.left - r.calls.call + 1) (drop r.calls.call t)) whole'
        ∙ ap (take (r.calls.left - r.calls.call + 1)) (drop_at (lefts n b a.under) ((to ∷ p.list ∷ packed p.hand p.call ∷ body) ++ rest) r.calls.call under_size)
        ∙ take_at (to ∷ p.list ∷ packed p.hand p.call ∷ body) rest (r.calls.left - r.calls.call + 1) size

    pub moved_is : M.list_moved r at' (r.calls.left - r.calls.call + 1) l ≡ take at' l ++ (encode_item I ++ drop r.right l)
    moved_is =
        let w = widths in
        let fit : at' + (r.calls.left - r.calls.call + 1) ≡ r.right = omega (arith, a.room) in
        let placedEq : moved r.calls.call at' (r.calls.left - r.calls.call + 1) l ≡ take at' l ++ ((to ∷ p.list ∷ packed p.hand p.call ∷ body) ++ drop r.right l) =
        moved_in r.calls.call at' (r.calls.left - r.calls.call + 1) l (omega (arith, a.left_is, a.room, w.1, a.lies.stands.size)) (omega (arith, w.1, a.lies.stands.size))
        ∙ ap (λ (t : List ℕ). placed at' t l) block_is
        ∙ ap (λ (j : ℕ). take at' l ++ ((to ∷ p.list ∷ packed p.hand p.call ∷ body) ++ drop j l))
        (let size : at' + length (to ∷ p.list ∷ packed p.hand p.call ∷ body) ≡ r.right =
        omega (arith, length-append (encode_arguments list) (mark ∷ []), arguments_size list, a.left_is) in size) in
        let lo : length (take at' l) ≡ at' = length-take-le at' l (omega (arith, w.1, a.lies.stands.size)) in
        let one : length (take at' l ++ (to ∷ [])) ≡ at' + 1 = omega (arith, length-append (take at' l) (to ∷ [])) in
        let two : length (take at' l ++ (to ∷ packed (list_price list - list_overhead) p.list ∷ [])) ≡ at' + 2 = omega (arith, length-append (take at' l) (to ∷ packed (list_price list - list_overhead) p.list ∷ [])) in
        ap (λ (j : ℕ). with_links (moved r.calls.call at' (r.calls.left - r.calls.call + 1) l) at' (packed (j - list_overhead) r.source.list) (packed r.source.body r.source.offset)) size_is
        ∙ ap (λ (j : ℕ). with_links (moved r.calls.call at' (r.calls.left - r.calls.call + 1) l) at' (packed (list_price list - list_overhead) j) (packed r.source.body r.source.offset)) a.list_is
        ∙ ap (λ (j : ℕ). with_links (moved r.calls.call at' (r.calls.left - r.calls.call + 1) l) at' (packed (list_price list - list_overhead) p.list) (packed j r.source.offset)) a.body_is
        ∙ ap (λ (j : ℕ). with_links (moved r.calls.call at' (r.calls.left - r.calls.call + 1) l) at' (packed (list_price list - list_overhead) p.list) (packed p.body j)) a.offset_is
        ∙ ap (λ (t : List ℕ). with_links t at' (packed (list_price list - list_overhead) p.list) (packed p.body p.offset)) placedEq
        ∙ two_set (take at' l) to p.list (packed p.hand p.call) (packed (list_price list - list_overhead) p.list) (packed p.body p.offset) (body ++ drop r.right l) at' lo

    -- the standing once the body has begun
    pub begun : 0 < length list → Represents n older heads whole start (M.body_begun r d at' (packed p.hand p.call)) (lent (take at' l ++ (encode_item I ++ drop r.right l)) o)
        (S.with_bodies (record { number = k; list = list; rest = v; calls = length (calls n b a.under); opened = b + count U; applied = length s.standing.definitions } ∷ s.bodies) (S.with_calls (calls n b a.under) s))
    unfolding laid lefts calls bodies Valid encode definitions_of Linked newest_in
    begun named =
        let w = widths in
        let lw = list_width in
        let lo : length (take at' l) ≡ at' = length-take-le at' l (omega (arith, w.1, a.lies.stands.size)) in
        let stands : length s.standing.definitions ≡ b + count (a.since ++ U) =
        ap length a.lies.stands.definitions ∙ omega (arith, length-append (definitions_of (a.since ++ U)) older) in
        record {
          frames = reads list a.since d k v 0 ∷ a.under;
          valid = (a.valid, a.definitions, at, zero-le, named);
          lies = record {
            stands = record {
              size =
                  omega (
                    arith,
                    length-append (take at' l) (encode_item I ++ drop r.right l),
                    length-append (encode_item I) (drop r.right l),
                    list_size to (packed (list_price list - list_overhead) p.list) (packed p.body p.offset) list,
                    length-drop r.right l,
                    a.lies.stands.size,
                    w.1,
                    size_is,
                    a.left_is,
                    a.room,
                  );
              right = omega (arith, lw, at'Is, w.1, size_is, a.left_is, a.room);
              cells = drop_at (take at' l) (encode_item I ++ drop r.right l) at' lo ∙ ap (λ (t : List ℕ). encode_item I ++ t) a.lies.stands.cells;
              definitions = a.lies.stands.definitions;
              live = a.lies.stands.live;
            };
            wrote = a.lies.wrote;
            indexed = record { size = a.lies.indexed.size; linked = a.lies.indexed.linked; headed = a.lies.indexed.headed };
            read = a.lies.read;
            scans = a.lies.scans;
            most = a.lies.most;
          };
          cells_lent = a.cells_lent;
          ordered = omega (arith, a.left_is, a.room);
          in_use = omega (arith, a.in_use, a.left_is, a.room);
          places_are =
              ap (λ (j : ℕ). record { left = r.calls.call; call = low (packed p.hand p.call); hand = high (packed p.hand p.call); list = j; body = d; offset = 0 }) at'Is
              ∙ ap (λ (j : ℕ). record { left = j; call = low (packed p.hand p.call); hand = high (packed p.hand p.call); list = address n (I ∷ (a.since ++ U)); body = d; offset = 0 }) a.call_is
              ∙ ap (λ (j : ℕ). record { left = p.left; call = j; hand = high (packed p.hand p.call); list = address n (I ∷ (a.since ++ U)); body = d; offset = 0 }) outer_call
              ∙ ap (λ (j : ℕ). record { left = p.left; call = p.call; hand = j; list = address n (I ∷ (a.since ++ U)); body = d; offset = 0 }) outer_hand;
          lefts_are =
              take-append-le r.calls.call (take at' l) (encode_item I ++ drop r.right l) (omega (arith, a.left_is, a.room))
              ∙ take-take r.calls.call at' l (omega (arith, a.left_is, a.room))
              ∙ take_call;
          calls_are = refl;
          bodies_are =
              ap (λ (j : ℕ). record { number = k; list = list; rest = v; calls = length (calls n b a.under); opened = b + count U; applied = j } ∷ s.bodies) stands
              ∙ ap (λ (t : List Body). record { number = k; list = list; rest = v; calls = length (calls n b a.under); opened = b + count U; applied = b + count (a.since ++ U) } ∷ t) a.bodies_are;
          ahead = a.ahead;
          quotes = a.quotes;
        }

  -- The list goes ----------------------------------------------------------------------------------------------------

  -- the charge with the applying `;`
  pub charge_is : definitions_price older ≡ 0 → S.charge s + 1 ≡ r.charge
  unfolding S.calls_charge
  charge_is free =
      let w = widths in
      omega (
        arith,
        free,
        ap S.calls_charge a.calls_are,
        calls_charge n b a.under,
        ap S.bodies_charge a.bodies_are,
        right_charge n b a.under a.valid,
        ap definitions_price a.lies.stands.definitions,
        price_append (definitions_of (a.since ++ U)) older,
        ap definitions_price (definitions-append a.since U),
        price_append (definitions_of a.since) (definitions_of U),
        definitions_width n b a.since a.definitions,
        arguments_last a.ended a.hand,
        a.call_is,
        a.left_is,
        a.in_use,
        w.1,
      )

  pub release_is : (q : Run) (kept : ℕ) (o' : List ℕ) → q.calls.call ≡ r.calls.call → q.right ≡ r.right → q.counts.live ≡ r.counts.live
      → M.release q kept (lent l o') ≡ M.goes (M.released q kept to (packed p.hand p.call) (count a.since)) (lent l o')
  release_is q kept o' c t v =
      let w = widths in
      let toEq : get_or l q.calls.call 0 ≡ to = ap (λ (k : ℕ). get_or l k 0) c ∙ to_is in
      let linksEq : return_link l q.calls.call ≡ packed p.hand p.call = ap (λ (k : ℕ). return_link l k) c ∙ links_is in
      let goneEq : definitions l q.right (get_or l q.calls.call 0) ≡ count a.since =
      ap (λ (k : ℕ). definitions l k (get_or l q.calls.call 0)) t ∙ ap (λ (k : ℕ). definitions l r.right k) toEq ∙ gone_is in
      rw (
        goneEq,
        toEq,
        linksEq,
        le-ltb to q.right (omega (arith, w.1)),
        le-ltb (length l) to (omega (arith, a.lies.stands.size)),
        le-ltb q.counts.live (count a.since) (omega (arith, a.lies.stands.live, count-append a.since U)),
      )

  -- where the list ends and what stood at its `$` begins
  pub to_above : r.calls.left + 1 ≤ to
  to_above = let w = widths in omega (arith, a.room, w.1)

  pub right_to : r.right + width a.since ≡ to
  right_to = let w = widths in omega (arith, w.1)

  pub under_cells : drop to l ≡ encode U
  under_cells =
      let w = widths in
      let e : r.right + width a.since ≡ to = omega (arith, w.1) in
      ap (λ (k : ℕ). drop k l) (sym e)
      ∙ sym (drop-drop (width a.since) r.right l)
      ∙ ap (drop (width a.since)) (a.lies.stands.cells ∙ encode-append a.since U)
      ∙ drop_at (encode a.since) (encode U) (width a.since) refl

  pub left_definitions : oldest (b + count U) s.standing.definitions ≡ definitions_of U ++ older
  left_definitions = ap (oldest (b + count U)) a.lies.stands.definitions ∙ oldest_items a.since U older

  pub places_left : record { left = r.calls.call; call = low (packed p.hand p.call); hand = high (packed p.hand p.call); list = r.source.list; body = r.source.body; offset = r.source.offset } ≡ p
  places_left =
      ap (λ (j : ℕ). record { left = j; call = low (packed p.hand p.call); hand = high (packed p.hand p.call); list = r.source.list; body = r.source.body; offset = r.source.offset }) a.call_is
      ∙ ap (λ (j : ℕ). record { left = p.left; call = j; hand = high (packed p.hand p.call); list = r.source.list; body = r.source.body; offset = r.source.offset }) outer_call
      ∙ ap (λ (j : ℕ). record { left = p.left; call = p.call; hand = j; list = r.source.list; body = r.source.body; offset = r.source.offset }) outer_hand
      ∙ ap (λ (j : ℕ). record { left = p.left; call = p.call; hand = p.hand; list = j; body = r.source.body; offset = r.source.offset }) a.list_is
      ∙ ap (λ (j : ℕ). record { left = p.left; call = p.call; hand = p.hand; list = p.list; body = j; offset = r.source.offset }) a.body_is
      ∙ ap (λ (j : ℕ). record { left = p.left; call = p.call; hand = p.hand; list = p.list; body = p.body; offset = j }) a.offset_is

  -- nothing stands in place of the list
  pub freed : (fs' : List Frame) (l' : List ℕ) (ds : List Definition) → Valid n b fs' → places n b fs' ≡ p → lefts n b fs' ≡ lefts n b a.under
      → calls n b fs' ≡ calls n b a.under → bodies n b fs' ≡ bodies n b a.under
      → length l' ≡ n → take r.calls.call l' ≡ take r.calls.call l → width (items n b fs') ≡ width U → drop to l' ≡ encode (items n b fs')
      → ds ≡ definitions_of (items n b fs') ++ older → count (items n b fs') ≡ count U → {heads' : List ℕ} → Index n (items n b fs') heads'
      → Represents n older heads' whole start (M.released r 0 to (packed p.hand p.call) (count a.since)) (lent l' o)
      (S.with_calls (calls n b a.under) (S.with_definitions ds s))
  freed fs' l' ds v pl le ca bo size low' wd hi dd cn ix =
      let w = widths in
      let z : r.calls.call + 0 ≡ r.calls.call = omega arith in
      record {
        frames = fs';
        valid = v;
        lies = record {
          stands = record {
            size = size;
            right = omega (arith, w.1);
            cells = hi;
            definitions = dd;
            live = omega (arith, a.lies.stands.live, count-append a.since U);
          };
          read = a.lies.read;
          scans = a.lies.scans;
          most = a.lies.most;
          wrote = a.lies.wrote;
          indexed = ix;
        };
        cells_lent = a.cells_lent;
        ordered = omega (arith, to_above, a.left_is);
        in_use = omega (arith, w.1, a.in_use, a.left_is);
        places_are = ap (λ (j : ℕ). record { left = j; call = low (packed p.hand p.call); hand = high (packed p.hand p.call); list = r.source.list; body = r.source.body; offset = r.source.offset }) z ∙ places_left ∙ sym pl;
        lefts_are = ap (λ (j : ℕ). take j l') z ∙ low' ∙ take_call ∙ sym le;
        calls_are = sym ca;
        bodies_are = a.bodies_are ∙ sym bo;
        ahead = a.ahead;
        quotes = a.quotes;
      }
