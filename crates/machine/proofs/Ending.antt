-- The end of a body: its list goes, with the definitions made while it was collected.
use Prim.Native.Nat.{ℕ, ◌+◌, ◌-◌, ◌≤◌, ◌<◌, zero-le}
use native.Mathlib.Omega.{arith}
use mathlib.Core.Path.{◌≡◌, refl, sym, ap, subst, ◌∙◌}
use mathlib.Core.Bool.{Bool, true, false}
use mathlib.Core.List.{List, [], ◌∷◌, ◌++◌, append_assoc, append-nil}
use lib.ListN.{length, take, drop, get_or, length-append}
use lib.Seq.{get_or-take, take-take, take_at, drop_at, drop-drop, length-take-le}
use lib.Dec.{eqb, ltb}
use borrow.Author.Tests.{le-ltb, eq-eqb, ne_eqb, ltb-false}
use Rattle.language.specs.Signs.{Bytes}
use Rattle.language.specs.Definitions.{Definition, newer, oldest, without}
use Rattle.language.specs.Charge.{arguments_price, list_price, definitions_price}
use Rattle.language.specs.Scanning.{State, Call, Body, calls_below}
use Rattle.language.specs.Scanning as S
use Rattle.language.specs.Expansion.{limits_of, lent}
use Rattle.memory.specs.Block.{placed, block, moved}
use Rattle.memory.proofs.Blocks.{moved_in, take-placed, drop-placed, placed-length}
use Rattle.machine.specs.declared.run.Run.{Run}
use Rattle.machine.specs.Walks.{list_overhead, right_before, list_link, nowhere, packed, high, low, definitions, removed, relinked, restored, return_link}
use Rattle.machine.specs.Machine as M
use Rattle.machine.proofs.Items.{encode-append, width-append, width-cons, count-append, definitions-append, list_size}
use Rattle.machine.proofs.Stack.{no_call}
use Rattle.machine.proofs.Moves.{Collects, made_all, made_laid, made_lefts, made_calls, made_bodies, made_valid, unmade_valid, OwnBody, own_body_of}
use Rattle.machine.proofs.Represents.{SimulatesIndexed, goes}
use Rattle.machine.proofs.Finds.{ListAt, list_at, definitions-count, body_below, offset_below}
use Rattle.machine.proofs.Indexing.{removed_in, relinked_items, relinked-width, relinked-definitions, relinked_only, relinked_in, shifted_index}
use Rattle.machine.proofs.Putting.{refusal, call_before}
use Rattle.machine.proofs.Opening.{list_below, own_test}
use Rattle.machine.specs.Items.{Item, width, encode, definitions_of, count}
use Rattle.machine.specs.Frames.{Places, Frame, reads, address, applying, list_item, laid, items, places, lefts, calls, bodies, Valid}
use Rattle.machine.specs.Index.{newest_in, Linked, Index}
use Rattle.machine.specs.Held.{Represents, places_of}
use Rattle.machine.proofs.Lists.{packed-low, packed-high}
use Rattle.language.specs.declared.outcomes.Outcome.TheVariants.{BodyInCall}

-- a list has a name at least
list_at_least : (list : List Bytes) → 0 < length list → 5 ≤ list_price list
unfolding arguments_price
list_at_least [] h = absurd (omega arith)
list_at_least (a ∷ more) h = omega arith

-- the definitions that are left where those between two moments go
pub without_items : (since collected under : List Item) (older : List Definition) (opened applied : ℕ)
    → opened ≡ length older + count under → applied ≡ length older + count (collected ++ under)
    → without opened applied (definitions_of (since ++ (collected ++ under)) ++ older) ≡ definitions_of (since ++ under) ++ older
without_items since collected under older opened applied e f =
    let ds = definitions_of (since ++ (collected ++ under)) ++ older in
    let split : ds ≡ definitions_of since ++ (definitions_of (collected ++ under) ++ older) =
    ap (λ (x : List Definition). x ++ older) (definitions-append since (collected ++ under)) ∙ append_assoc (definitions_of since) (definitions_of (collected ++ under)) older in
    let split₂ : ds ≡ (definitions_of since ++ definitions_of collected) ++ (definitions_of under ++ older) =
    split
    ∙ ap (λ (x : List Definition). definitions_of since ++ (x ++ older)) (definitions-append collected under)
    ∙ ap (λ (x : List Definition). definitions_of since ++ x) (append_assoc (definitions_of collected) (definitions_of under) older)
    ∙ sym (append_assoc (definitions_of since) (definitions_of collected) (definitions_of under ++ older)) in
    let size : length ds ≡ count since + (count (collected ++ under) + length older) =
    ap length split ∙ omega (arith, length-append (definitions_of since) (definitions_of (collected ++ under) ++ older), length-append (definitions_of (collected ++ under)) older) in
    let part = count-append collected under in
    let new : newer applied ds ≡ definitions_of since =
    ap (λ (x : List Definition). take (length ds - applied) x) split
    ∙ take_at (definitions_of since) (definitions_of (collected ++ under) ++ older) (length ds - applied) (omega arith) in
    let old : oldest opened ds ≡ definitions_of under ++ older =
    ap (λ (x : List Definition). drop (length ds - opened) x) split₂
    ∙ drop_at (definitions_of since ++ definitions_of collected) (definitions_of under ++ older) (length ds - opened)
    (omega (arith, length-append (definitions_of since) (definitions_of collected))) in
    ap (λ (x : List Definition). x ++ oldest opened ds) new
    ∙ ap (λ (x : List Definition). definitions_of since ++ x) old
    ∙ sym (append_assoc (definitions_of since) (definitions_of under) older)
    ∙ ap (λ (x : List Definition). x ++ older) (sym (definitions-append since under))

-- Whether a call of the body being read is open: the code's test is the scanning's.
pub own_is : {n : ℕ} {older : List Definition} {heads whole start : List ℕ} {r : Run} {l o : List ℕ} {s : State}
    → Represents n older heads whole start r (lent l o) s → M.own_call r l ≡ S.own_call s
own_is {n} {older} {heads} {whole} {start} {r} {l} {o} {s} h = go (calls n b fs) refl
  where
    b : ℕ
    b = length older

    fs : List Frame
    fs = h.frames

    call_eq : r.calls.call ≡ (places n b fs).call
    call_eq = ap (λ (p : Places). p.call) h.places_are

    abstract' : S.own_call s ≡ ltb (calls_below (bodies n b fs)) (length (calls n b fs))
    abstract' = ap (λ (x : List Body). ltb (calls_below x) (length s.calls)) h.bodies_are ∙ ap (λ (x : List Call). ltb (calls_below (bodies n b fs)) (length x)) h.calls_are

    go : (cs : List Call) → calls n b fs ≡ cs → M.own_call r l ≡ S.own_call s
    go [] e =
        let q : eqb r.calls.call nowhere ≡ true = eq-eqb _ _ (call_eq ∙ no_call n b fs e) in
        rw q (sym (abstract' ∙ ap (λ (x : List Call). ltb (calls_below (bodies n b fs)) (length x)) e ∙ le-ltb (calls_below (bodies n b fs)) 0 zero-le))
    go (k ∷ cs) e =
        let c : Collects n b fs = rw e (omega arith) in
        let g : r.calls.left ≡ (places n b fs).left = ap (λ (p : Places). p.left) h.places_are in
        let before = call_before n b fs c in
        let q : eqb r.calls.call nowhere ≡ false = ne_eqb r.calls.call nowhere (λ (z : r.calls.call ≡ nowhere). absurd (omega (arith, call_eq, h.ordered, h.lies.stands.right, h.cells_lent))) in
        let cellEq : list_link l r.calls.call ≡ get_or (lefts n b fs) ((places n b fs).call + 1) 0 =
        sym (get_or-take r.calls.left l (r.calls.call + 1) 0 (omega (arith, call_eq))) ∙ ap (λ (x : List ℕ). get_or x (r.calls.call + 1) 0) h.lefts_are ∙ ap (λ (x : ℕ). get_or (lefts n b fs) (x + 1) 0) call_eq in
        let list_eq : r.source.list ≡ (places n b fs).list = ap (λ (p : Places). p.list) h.places_are in
        rw q (ap (λ (x : ℕ). eqb x r.source.list) cellEq ∙ ap (λ (x : ℕ). eqb (get_or (lefts n b fs) ((places n b fs).call + 1) 0) x) list_eq
        ∙ own_test n b h.cells_lent fs c (omega (arith, h.lies.stands.right)) ∙ sym abstract')

-- what the frames say where the body being read is the innermost of them
module _ {n : ℕ} {older : List Definition} {heads whole start : List ℕ} {r : Run} {l o : List ℕ} {s : State}
    (h : Represents n older heads whole start r (lent l o) s) (x : OwnBody n (length older) h.frames) where
  abbrev b' : ℕ
  b' = length older

  abbrev U : List Item
  U = items n b' x.under

  abbrev I : Item
  I = list_item (places n b' x.under) (address n U) x.list

  abbrev R : Frame
  R = reads x.list x.collected x.at x.number x.value x.offset

  items_is : items n b' h.frames ≡ x.since ++ (I ∷ (x.collected ++ U))
  unfolding laid
  items_is = ap (items n b') x.is ∙ (made_laid n b' x.since (R ∷ x.under) x.definitions).0

  places_is : places_of r ≡ applying (places n b' x.under) (address n (I ∷ (x.collected ++ U))) x.at x.offset
  unfolding laid
  places_is = h.places_are ∙ ap (places n b') x.is ∙ (made_laid n b' x.since (R ∷ x.under) x.definitions).1

  lefts_is : take r.calls.left l ≡ lefts n b' x.under
  unfolding lefts
  lefts_is = h.lefts_are ∙ ap (lefts n b') x.is ∙ made_lefts n b' x.since (R ∷ x.under)

  calls_is : s.calls ≡ calls n b' x.under
  unfolding calls
  calls_is = h.calls_are ∙ ap (calls n b') x.is ∙ made_calls n b' x.since (R ∷ x.under)

  abbrev body_is : Body
  body_is = record {
    number = x.number;
    list = x.list;
    rest = drop x.offset x.value;
    calls = length (calls n b' x.under);
    opened = b' + count U;
    applied = b' + count (x.collected ++ U);
  }

  bodies_is : s.bodies ≡ body_is ∷ bodies n b' x.under
  unfolding bodies
  bodies_is = h.bodies_are ∙ ap (bodies n b') x.is ∙ made_bodies n b' x.since (R ∷ x.under)

  valid_is : Valid n b' (R ∷ x.under)
  valid_is = unmade_valid n b' x.since (R ∷ x.under) (subst (Valid n b') x.is h.valid)

  counts_is : count (items n b' h.frames) ≡ count x.since + (count x.collected + count U)
  unfolding definitions_of
  counts_is =
      ap length (ap definitions_of items_is ∙ definitions-append x.since (I ∷ (x.collected ++ U)) ∙ sym (definitions-append x.since (x.collected ++ U)))
      ∙ count-append x.since (x.collected ++ U)
      ∙ ap (λ (k : ℕ). count x.since + k) (count-append x.collected U)

  -- Where things stand.
  abbrev A : ℕ
  A = address n (I ∷ (x.collected ++ U))

  abbrev to : ℕ
  to = address n U

  list_eq : r.source.list ≡ A
  list_eq = ap (λ (p : Places). p.list) places_is

  widths : (width (I ∷ (x.collected ++ U)) ≡ list_price x.list + (width x.collected + width U)) × (r.right + (width x.since + width (I ∷ (x.collected ++ U))) ≡ n)
  widths = (
    omega (
      arith,
      width-cons I (x.collected ++ U),
      list_size (address n U) (packed (list_price x.list - list_overhead) (places n b' x.under).list) (packed (places n b' x.under).body (places n b' x.under).offset) x.list,
      width-append x.collected U,
    ),
    omega (arith, h.lies.stands.right, ap width items_is, width-append x.since (I ∷ (x.collected ++ U))),
  )

  cells_from : drop r.right l ≡ encode x.since ++ encode (I ∷ (x.collected ++ U))
  cells_from = h.lies.stands.cells ∙ ap encode items_is ∙ encode-append x.since (I ∷ (x.collected ++ U))

  cells_at : drop A l ≡ encode (I ∷ (x.collected ++ U)) ++ []
  cells_at =
      let w = widths in
      let q : A ≡ r.right + width x.since = omega (arith, w.1) in
      ap (λ (k : ℕ). drop k l) q
      ∙ sym (drop-drop (width x.since) r.right l)
      ∙ ap (drop (width x.since)) cells_from
      ∙ drop_at (encode x.since) (encode (I ∷ (x.collected ++ U))) (width x.since) refl
      ∙ sym (append-nil (encode (I ∷ (x.collected ++ U))))

  lists : ListAt l A (address n U) (packed (list_price x.list - list_overhead) (places n b' x.under).list)
      (packed (places n b' x.under).body (places n b' x.under).offset) x.list (encode (x.collected ++ U) ++ [])
  lists = list_at l A _ _ _ x.list (x.collected ++ U) [] cells_at

  -- the definitions that go are those made while the list was collected
  gone_is : definitions l (A + list_price x.list) to ≡ count x.collected
  unfolding Valid
  gone_is =
      let w = widths in
      let e : A + list_price x.list + width x.collected ≡ to = omega (arith, w.0, w.1) in
      let d : drop (A + list_price x.list) l ≡ encode x.collected ++ encode U =
      lists.behind ∙ append-nil (encode (x.collected ++ U)) ∙ encode-append x.collected U in
      subst (λ (k : ℕ). definitions l (A + list_price x.list) k ≡ count x.collected) e
      (definitions-count l (A + list_price x.list) x.collected (encode U) d valid_is.1 (omega (arith, w.0, w.1, h.lies.stands.size)))

  -- the definitions made in the body move up to where the others end
  abbrev up_to : ℕ
  up_to = r.right + (to - r.source.list)

  moved_is : moved r.right up_to (r.source.list - r.right) l ≡ placed up_to (encode x.since) l
  moved_is =
      let w = widths in
      let q : r.source.list - r.right ≡ width x.since = omega (arith, list_eq, w.1) in
      let block_is : block r.right (r.source.list - r.right) l ≡ encode x.since =
      ap (take (r.source.list - r.right)) cells_from
      ∙ take_at (encode x.since) (encode (I ∷ (x.collected ++ U))) (r.source.list - r.right) (sym q) in
      moved_in r.right up_to (r.source.list - r.right) l (omega (arith, list_eq, w.0, w.1, h.lies.stands.size)) (omega (arith, list_eq, w.0, w.1, h.lies.stands.size))
      ∙ ap (λ (k : List ℕ). placed up_to k l) block_is

  -- The index as they move ------------------------------------------------------------------------------------------

  -- those made in the body, linked over what they then stand on
  abbrev S' : List Item
  S' = relinked_items n U x.since

  -- the heads once they are taken out, and once those are that go
  abbrev heads₁ : List ℕ
  heads₁ = removed l heads r.right r.source.list

  abbrev heads₂ : List ℕ
  heads₂ = removed l heads₁ (A + list_price x.list) to

  index₁ : Index n (x.collected ++ U) heads₁
  unfolding Linked newest_in
  index₁ =
      let w = widths in
      let y = removed_in (length l) n l heads r.right r.source.list x.since (I ∷ (x.collected ++ U)) (encode (I ∷ (x.collected ++ U))) cells_from
      x.definitions (omega (arith, list_eq, w.1)) (omega (arith, w.1, h.lies.stands.size)) (subst (λ (t : List Item). Index n t heads) items_is h.lies.indexed) in
      record { size = y.size; linked = y.linked; headed = y.headed }

  index₂ : Index n U heads₂
  unfolding Valid
  index₂ =
      let w = widths in
      removed_in (length l) n l heads₁ (A + list_price x.list) to x.collected U (encode U)
      (lists.behind ∙ append-nil (encode (x.collected ++ U)) ∙ encode-append x.collected U) valid_is.1 (omega (arith, w.0, w.1))
      (omega (arith, w.0, w.1, h.lies.stands.size)) index₁

  -- the cells then
  abbrev cells' : List ℕ
  cells' = placed up_to (encode S') l

  -- what the body's definitions take of them
  same_width : width S' ≡ width x.since
  same_width = relinked-width n U x.since

  fits : (up_to + width x.since ≡ to) × (to ≤ length l) × (up_to + width S' ≤ length l)
  fits = let w = widths in let e = same_width in (omega (arith, list_eq, w.0, w.1), omega (arith, list_eq, w.0, w.1, h.lies.stands.size), omega (arith, list_eq, w.0, w.1, h.lies.stands.size))

  relink_is : relinked (placed up_to (encode x.since) l) heads₂ up_to to r.source.list (to - r.source.list) ≡ cells'
  relink_is =
      let w = widths in
      let X = I ∷ (x.collected ++ U) in
      let l' = placed up_to (encode x.since) l in
      let by : to - A ≡ width X - width U = omega (arith, w.0, w.1) in
      let size : length l' ≡ length l = placed-length up_to (encode x.since) l (omega (arith, fits)) in
      ap (λ (e : ℕ). relinked l' heads₂ up_to to e (to - e)) list_eq
      ∙ ap (relinked l' heads₂ up_to to A) by
      ∙ relinked_in n U X h.cells_lent (length l') l' heads₂ (take up_to l) (drop (up_to + width x.since) l) up_to to x.since refl
      (length-take-le up_to l (omega (arith, fits))) x.definitions (omega (arith, fits)) (omega (arith, fits, size)) (omega (arith, w.0))
      (omega (arith, width-append x.since X, w.1)) (subst (Linked n) items_is h.lies.indexed.linked) index₂
      ∙ ap (λ (k : ℕ). take up_to l ++ (encode S' ++ drop (up_to + k) l)) (sym same_width)

  -- the index then
  abbrev heads₃ : List ℕ
  heads₃ = restored cells' heads₂ up_to to

  index₃ : Index n (S' ++ U) heads₃
  index₃ =
      let w = widths in
      let f = fits in
      let e = same_width in
      shifted_index n U x.since cells' heads₂ (drop (up_to + width S') l) up_to to h.cells_lent x.definitions
      (drop-placed up_to (encode S') l (omega arith)) (omega arith) refl (omega (arith, w.0, w.1)) (omega (arith, placed-length up_to (encode S') l f.2)) index₂

  -- the standing once the body has ended
  ends_body : Represents n older heads₃ whole start
      (M.body_ended r to (packed (list_price x.list - list_overhead) (places n b' x.under).list) (packed (places n b' x.under).body (places n b' x.under).offset) (count x.collected))
      (lent cells' o)
      (S.with_quotes 0 (S.with_bodies (bodies n b' x.under) (S.with_definitions (without (b' + count U) (b' + count (x.collected ++ U)) s.standing.definitions) s)))
  unfolding Valid definitions_of
  ends_body =
      let w = widths in
      let ml = made_laid n b' S' x.under (relinked_only n U x.since x.definitions) in
      let p = places n b' x.under in
      let e = same_width in
      let fit : up_to + width S' ≤ length l = fits.2 in
      let sameCount : count S' ≡ count x.since = ap length (relinked-definitions n U x.since) in
      let inner : width U ≤ n = omega (arith, list_eq, w.0, w.1) in
      let lowList : low (packed (list_price x.list - list_overhead) p.list) ≡ p.list = packed-low (list_price x.list - list_overhead) p.list (omega (arith, list_below n b' h.cells_lent x.under inner)) in
      let highBody : high (packed p.body p.offset) ≡ p.body = packed-high p.body p.offset (body_below n b' h.cells_lent x.under valid_is.0) in
      let lowOffset : low (packed p.body p.offset) ≡ p.offset = packed-low p.body p.offset (offset_below n b' h.cells_lent x.under valid_is.0 inner) in
      let ds : definitions_of (items n b' h.frames) ≡ definitions_of (x.since ++ (x.collected ++ U)) =
      ap definitions_of items_is ∙ definitions-append x.since (I ∷ (x.collected ++ U)) ∙ sym (definitions-append x.since (x.collected ++ U)) in
      let counts : count (items n b' h.frames) ≡ count x.since + (count x.collected + count U) =
      ap length ds ∙ count-append x.since (x.collected ++ U) ∙ ap (λ (k : ℕ). count x.since + k) (count-append x.collected U) in
      record {
        frames = made_all S' x.under;
        valid = made_valid n b' S' x.under valid_is.0;
        lies = rw ml.0 (record {
          stands = record {
            size = placed-length up_to (encode S') l fit ∙ h.lies.stands.size;
            right = omega (arith, list_eq, w.0, w.1, width-append S' U);
            cells =
                drop-placed up_to (encode S') l (omega arith)
                ∙ ap (λ (k : ℕ). encode S' ++ drop k l) (let e : up_to + width S' ≡ A + list_price x.list + width x.collected = omega (arith, list_eq, w.0, w.1) in e)
                ∙ ap (λ (k : List ℕ). encode S' ++ k)
                (sym (drop-drop (width x.collected) (A + list_price x.list) l)
                ∙ ap (drop (width x.collected)) (lists.behind ∙ append-nil (encode (x.collected ++ U)) ∙ encode-append x.collected U)
                ∙ drop_at (encode x.collected) (encode U) (width x.collected) refl)
                ∙ sym (encode-append S' U);
            definitions =
                ap (without (b' + count U) (b' + count (x.collected ++ U))) (h.lies.stands.definitions ∙ ap (λ (k : List Definition). k ++ older) ds)
                ∙ without_items x.since x.collected U older (b' + count U) (b' + count (x.collected ++ U)) refl refl
                ∙ ap (λ (k : List Definition). k ++ older)
                (definitions-append x.since U ∙ ap (λ (k : List Definition). k ++ definitions_of U) (sym (relinked-definitions n U x.since)) ∙ sym (definitions-append S' U));
            live = omega (arith, h.lies.stands.live, counts, count-append S' U);
          };
          read = h.lies.read;
          scans = h.lies.scans;
          most = h.lies.most;
          wrote = h.lies.wrote;
          indexed = index₃;
        });
        cells_lent = h.cells_lent;
        ordered = omega (arith, h.ordered);
        in_use = omega (arith, list_eq, h.in_use, h.ordered, w.0, w.1);
        places_are =
            ap (λ (k : ℕ). record { left = r.calls.left; call = r.calls.call; hand = r.calls.hand; list = k; body = high (packed p.body p.offset); offset = low (packed p.body p.offset) }) lowList
            ∙ ap (λ (k : ℕ). record { left = r.calls.left; call = r.calls.call; hand = r.calls.hand; list = p.list; body = k; offset = low (packed p.body p.offset) }) highBody
            ∙ ap (λ (k : ℕ). record { left = r.calls.left; call = r.calls.call; hand = r.calls.hand; list = p.list; body = p.body; offset = k }) lowOffset
            ∙ ap (λ (k : Places). record { left = k.left; call = k.call; hand = k.hand; list = p.list; body = p.body; offset = p.offset }) places_is
            ∙ sym ml.1;
        lefts_are =
            sym (take-take r.calls.left up_to cells' (omega (arith, h.ordered)))
            ∙ ap (take r.calls.left) (take-placed up_to (encode S') l (omega arith))
            ∙ take-take r.calls.left up_to l (omega (arith, h.ordered))
            ∙ lefts_is
            ∙ sym (made_lefts n b' S' x.under);
        calls_are = calls_is ∙ sym (made_calls n b' S' x.under);
        bodies_are = sym (made_bodies n b' S' x.under);
        ahead = h.ahead;
        quotes = refl;
      }

  -- the code comes to that standing
  ends_to : M.end_body_to r (right_before l r.source.list) (list_link l r.source.list) (return_link l r.source.list)
      (definitions l (r.source.list + high (list_link l r.source.list) + list_overhead) (right_before l r.source.list)) heads (lent l o)
      ≡ (record {
        after = M.goes (M.body_ended r to (packed (list_price x.list - list_overhead) (places n b' x.under).list) (packed (places n b' x.under).body (places n b' x.under).offset) (count x.collected))
            (lent cells' o);
        heads = heads₃;
      })
  unfolding Valid arguments_price
  ends_to =
      let w = widths in
      let p = places n b' x.under in
      let named : 5 ≤ list_price x.list = list_at_least x.list valid_is.4 in
      let links = packed (list_price x.list - list_overhead) p.list in
      let toEq : right_before l r.source.list ≡ to = ap (λ (k : ℕ). get_or l k 0) list_eq ∙ lists.to_is in
      let linksEq : list_link l r.source.list ≡ links = ap (λ (k : ℕ). list_link l k) list_eq ∙ lists.links_are in
      let readerEq : return_link l r.source.list ≡ packed p.body p.offset = ap (λ (k : ℕ). return_link l k) list_eq ∙ lists.reader_is in
      let highEq : high links ≡ list_price x.list - list_overhead = packed-high (list_price x.list - list_overhead) p.list (omega (arith, w.0, w.1, h.cells_lent)) in
      let fromEq : r.source.list + high links + list_overhead ≡ A + list_price x.list = omega (arith, list_eq, highEq) in
      let goneEq : definitions l (r.source.list + high (list_link l r.source.list) + list_overhead) (right_before l r.source.list) ≡ count x.collected =
      ap (λ (k : ℕ). definitions l (r.source.list + high k + list_overhead) (right_before l r.source.list)) linksEq
      ∙ ap (λ (k : ℕ). definitions l (r.source.list + high links + list_overhead) k) toEq
      ∙ ap (λ (k : ℕ). definitions l k to) fromEq
      ∙ gone_is in
      let counts : count (items n b' h.frames) ≡ count x.since + (count x.collected + count U) = counts_is in
      rw (
        goneEq,
        toEq,
        readerEq,
        linksEq,
        le-ltb to r.source.list (omega (arith, list_eq, w.0, w.1)),
        le-ltb (length l) to (omega (arith, h.lies.stands.size)),
        le-ltb r.source.list r.right (omega (arith, list_eq, w.1)),
        le-ltb r.counts.live (count x.collected) (omega (arith, h.lies.stands.live)),
        fromEq,
        moved_is,
        relink_is,
      )

-- The end of a body.
pub end_body_sim : {n : ℕ} {older : List Definition} {heads whole start : List ℕ} {r : Run} {l o : List ℕ} {s : State}
    → definitions_price older ≡ 0 → (h : Represents n older heads whole start r (lent l o) s) (B : Body) (Bs : List Body) → s.bodies ≡ B ∷ Bs
    → SimulatesIndexed n older whole start (M.end_body r heads (lent l o)) (S.body_end (limits_of n (length start)) (S.own_call s) B Bs s)
end_body_sim {n} {older} {heads} {whole} {start} {r} {l} {o} {s} free h B Bs e = go (S.own_call s) refl
  where
    go : (t : Bool) → S.own_call s ≡ t → SimulatesIndexed n older whole start (M.end_body r heads (lent l o)) (S.body_end (limits_of n (length start)) t B Bs s)
    go true q = rw (own_is h ∙ q) (refusal free h BodyInCall)
    go false q =
        let b = length older in
        let below : length s.calls ≤ calls_below s.bodies = ltb-false (calls_below s.bodies) (length s.calls) q in
        let x = own_body_of n b h.frames B Bs (sym h.bodies_are ∙ e)
        (omega (arith, ap length h.calls_are, ap calls_below h.bodies_are)) in
        let eqs : B ∷ Bs ≡ body_is h x ∷ bodies n b x.under = sym e ∙ bodies_is h x in
        let body_eq : B ≡ body_is h x = cc in
        let restEq : Bs ≡ bodies n b x.under = cc in
        let done : SimulatesIndexed n older whole start (M.end_body r heads (lent l o)) (S.body_end (limits_of n (length start)) false (body_is h x) (bodies n b x.under) s) =
        rw (own_is h ∙ q, ends_to h x) (goes refl (ends_body h x)) in
        subst (λ (z : Body). SimulatesIndexed n older whole start (M.end_body r heads (lent l o)) (S.body_end (limits_of n (length start)) false z Bs s)) (sym body_eq)
        (subst (λ (z : List Body). SimulatesIndexed n older whole start (M.end_body r heads (lent l o)) (S.body_end (limits_of n (length start)) false (body_is h x) z s)) (sym restEq) done)
