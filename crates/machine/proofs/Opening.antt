-- `$`, `,` and the ends: what they do in the cells is what the scanning does.
use Prim.Native.Nat.{ℕ, zero, suc, ◌+◌, ◌-◌, ◌≤◌, ◌<◌}
use native.Mathlib.Omega.{arith}
use native.Mathlib.Numerals.{add-one}
use mathlib.Core.Path.{◌≡◌, refl, sym, ap, subst, ◌∙◌}
use mathlib.Core.Bool.{Bool, true, false, cond}
use mathlib.Core.List.{List, [], ◌∷◌, ◌++◌, append_assoc}
use lib.ListN.{length, take, drop, get_or, set, length-append, length-set, take-append-drop}
use lib.Seq.{set_at, take_at, drop-set-lt, drop-cons, get_or-append-add}
use lib.Dec.{eqb, ltb}
use borrow.Author.Tests.{lt-ltb, le-ltb, eq-eqb, ne_eqb}
use Rattle.language.specs.Signs.{Bytes}
use Rattle.language.specs.Definitions.{Definition}
use Rattle.language.specs.Charge.{arguments_price, open_price, definitions_price}
use Rattle.language.specs.Scanning.{State, Step, next, Call, Body, calls_below}
use Rattle.language.specs.Scanning as S
use Rattle.language.specs.Expansion.{limits_of, lent}
use Rattle.memory.specs.Block.{placed}
use Rattle.memory.proofs.Blocks.{placed-after}
use Rattle.machine.specs.declared.run.Run.{Run}
use Rattle.machine.specs.Walks.{nowhere, packed, cell}
use Rattle.machine.specs.Machine as M
use Rattle.machine.specs.Machine.{After}
use Rattle.machine.proofs.Items.{width-cons, width-append, list_size}
use Rattle.machine.proofs.Stack.{left_is, below_is, no_call, in_text}
use Rattle.machine.proofs.Moves.{end_argument, separate_head, Collects, Reads, hand_of, end_laid, end_calls, end_bodies, end_valid}
use Rattle.machine.proofs.Represents.{Simulates, goes, charge_is}
use Rattle.machine.proofs.Putting.{refusal, charging, charging_one, put_byte, placed_low, placed_high, placed_size, room_is, call_is}
use Rattle.machine.specs.Items.{Item, defined, width, encode, encode_arguments, definitions_of, count, encode_call}
use Rattle.machine.specs.Frames.{Places, Frame, made, collects, reads, address, opening, list_item, laid, items, places, lefts, calls, bodies, Valid}
use Rattle.machine.specs.Held.{Represents}
use Rattle.machine.proofs.Lists.{cell_is, set-placed}
use Rattle.language.specs.declared.outcomes.Outcome.TheVariants.{Finished, FinishedAtQuote, ParameterInText, QuoteInCall, TextInCall, TextInQuotes}

-- three cells set, and the one behind them as it was
three_set : (l : List ℕ) (i x y z : ℕ) → i + 4 ≤ length l
    → set (set (set l i x) (i + 1) y) (i + 2) z ≡ placed i (x ∷ y ∷ z ∷ get_or l (i + 3) 0 ∷ []) l
three_set l i x y z h =
    let a : set l i x ≡ placed i (x ∷ []) l = set-placed l i x (omega arith) in
    let b : set (placed i (x ∷ []) l) (i + 1) y ≡ placed i (x ∷ y ∷ []) l = placed-after i (x ∷ []) l y (omega arith) in
    let c : set (placed i (x ∷ y ∷ []) l) (i + 2) z ≡ placed i (x ∷ y ∷ z ∷ []) l = placed-after i (x ∷ y ∷ []) l z (omega arith) in
    let e : suc (i + 3) ≡ i + 4 = omega arith in
    let d : drop (i + 3) l ≡ get_or l (i + 3) 0 ∷ drop (i + 4) l = drop-cons l (i + 3) 0 (omega arith) ∙ ap (λ (k : ℕ). get_or l (i + 3) 0 ∷ drop k l) e in
    ap (λ (t : List ℕ). set (set t (i + 1) y) (i + 2) z) a
    ∙ ap (λ (t : List ℕ). set t (i + 2) z) b
    ∙ c
    ∙ ap (λ (t : List ℕ). take i l ++ (x ∷ y ∷ z ∷ t)) d

-- Positions ----------------------------------------------------------------------------------------------------------

module _ (n b : ℕ) (small : n ≤ 65536) where
  list_width : (list : List Bytes) (since : List Item) (fs : List Frame)
      → width (list_item (places n b fs) (address n (items n b fs)) list ∷ (since ++ items n b fs)) ≡ 4 + arguments_price list + (width since + width (items n b fs))
  list_width list since fs =
      omega (
        arith,
        width-cons (list_item (places n b fs) (address n (items n b fs)) list) (since ++ items n b fs),
        list_size (address n (items n b fs)) (packed (4 + arguments_price list - 5) (places n b fs).list) (packed (places n b fs).body (places n b fs).offset) list,
        width-append since (items n b fs),
      )

  -- the innermost list stands before all older items, and the text after all cells
  pub list_above : (fs : List Frame) → width (items n b fs) ≤ n → address n (items n b fs) ≤ (places n b fs).list + 1
  unfolding laid encode
  list_above [] h = omega arith
  list_above (made f name value spare ∷ fs) h =
      let w = width-cons (defined f name value spare) (items n b fs) in
      let k = list_above fs (omega arith) in
      omega arith
  list_above (collects ended hand waits ∷ fs) h = list_above fs h
  list_above (reads list since d k v o ∷ fs) h = omega arith

  pub list_below : (fs : List Frame) → width (items n b fs) ≤ n → (places n b fs).list ≤ 65535
  unfolding laid encode
  list_below [] h = omega arith
  list_below (made f name value spare ∷ fs) h = let w = width-cons (defined f name value spare) (items n b fs) in list_below fs (omega arith)
  list_below (collects ended hand waits ∷ fs) h = list_below fs h
  list_below (reads list since d k v o ∷ fs) h = let w = list_width list since fs in omega arith

  -- a body is being read: its list stands in the cells
  pub list_inside : (fs : List Frame) → Reads n b fs → width (items n b fs) ≤ n → (places n b fs).list + 4 ≤ n
  unfolding laid bodies encode
  list_inside [] r h = absurd (omega arith)
  list_inside (made f name value spare ∷ fs) r h = let w = width-cons (defined f name value spare) (items n b fs) in list_inside fs r (omega arith)
  list_inside (collects ended hand waits ∷ fs) r h = list_inside fs r h
  list_inside (reads list since d k v o ∷ fs) r h = let w = list_width list since fs in omega arith

  -- the list that was read when the innermost call was opened, as its cell says
  from_above : (fs : List Frame) → Collects n b fs → width (items n b fs) ≤ n
      → address n (items n b fs) ≤ get_or (lefts n b fs) ((places n b fs).call + 1) 0 + 1
  unfolding laid calls lefts
  from_above [] c h = absurd (omega arith)
  from_above (made f name value spare ∷ fs) c h =
      let w = width-cons (defined f name value spare) (items n b fs) in
      let k = from_above fs c (omega arith) in
      omega arith
  from_above (collects ended hand waits ∷ fs) c h =
      let p = places n b fs in
      let x = encode_call (address n (items n b fs)) p.list (packed p.hand p.call) waits ended hand in
      let e : get_or (lefts n b fs ++ x) (p.left + 1) 0 ≡ p.list =
      ap (λ (k : ℕ). get_or (lefts n b fs ++ x) (k + 1) 0) (left_is n b fs) ∙ get_or-append-add (lefts n b fs) x 1 0 in
      let k = list_above fs h in
      omega arith
  from_above (reads list since d k v o ∷ fs) c h =
      let w = list_width list since fs in
      let q = from_above fs c (omega arith) in
      omega arith

  -- whether the innermost call was begun in the body being read: the code compares lists, the scanning counts calls
  pub own_test : (fs : List Frame) → Collects n b fs → width (items n b fs) ≤ n
      → eqb (get_or (lefts n b fs) ((places n b fs).call + 1) 0) (places n b fs).list ≡ ltb (calls_below (bodies n b fs)) (length (calls n b fs))
  unfolding laid calls lefts bodies
  own_test [] c h = absurd (omega arith)
  own_test (made f name value spare ∷ fs) c h =
      let w = width-cons (defined f name value spare) (items n b fs) in
      own_test fs c (omega arith)
  own_test (collects ended hand waits ∷ fs) c h =
      let p = places n b fs in
      let x = encode_call (address n (items n b fs)) p.list (packed p.hand p.call) waits ended hand in
      let e : get_or (lefts n b fs ++ x) (p.left + 1) 0 ≡ p.list =
      ap (λ (k : ℕ). get_or (lefts n b fs ++ x) (k + 1) 0) (left_is n b fs) ∙ get_or-append-add (lefts n b fs) x 1 0 in
      let q = below_is n b fs in
      eq-eqb _ _ e ∙ sym (lt-ltb (calls_below (bodies n b fs)) (suc (length (calls n b fs))) (omega arith))
  own_test (reads list since d k v o ∷ fs) c h =
      let w = list_width list since fs in
      let q = from_above fs c (omega arith) in
      let f = get_or (lefts n b fs) ((places n b fs).call + 1) 0 in
      let a = address n (list_item (places n b fs) (address n (items n b fs)) list ∷ (since ++ items n b fs)) in
      let z : f ≡ a → ⊥ = λ (e : f ≡ a). omega arith in
      ne_eqb f a z ∙ sym (le-ltb (length (calls n b fs)) (length (calls n b fs)) (omega arith))

module _ {n : ℕ} {older : List Definition} {heads whole start : List ℕ} {r : Run} {l o : List ℕ} {s : State}
    (free : definitions_price older ≡ 0) (h : Represents n older heads whole start r (lent l o) s) where
  abbrev b : ℕ
  b = length older

  abbrev fs : List Frame
  fs = h.frames

  right_is : r.right ≡ address n (items n b fs)
  right_is = omega (arith, h.lies.stands.right)

  width_below : width (items n b fs) ≤ n
  width_below = omega (arith, h.lies.stands.right)

  -- how many definitions stand
  pub stands : length s.standing.definitions ≡ b + count (items n b fs)
  stands = ap length h.lies.stands.definitions ∙ omega (arith, length-append (definitions_of (items n b fs)) older)

  -- `$`
  opened : r.charge + open_price ≤ n
      → Represents n older heads whole start (M.opened r)
      (lent (M.open_at r r.calls.left l) o)
      (S.with_calls (S.new_call (S.noting (S.charge s + open_price) s) ∷ s.calls) (S.noting (S.charge s + open_price) s))
  unfolding laid calls lefts bodies Valid arguments_price encode_arguments
  opened e =
      let fit = room_is free h 4 e in
      let w = get_or l (r.calls.left + 3) 0 in
      let zero' : r.calls.left + 3 ≡ r.calls.left + 3 + 0 = omega arith in
      let bs : List ℕ = r.right ∷ r.source.list ∷ packed r.calls.hand r.calls.call ∷ w ∷ [] in
      let small : r.source.list < 4294967296 = let q : r.source.list ≡ (places n b fs).list = ap (λ (x : Places). x.list) h.places_are in omega (arith, list_below n b h.cells_lent fs width_below) in
      let cells : M.open_at r r.calls.left l ≡ placed r.calls.left bs l =
      rw (cell_is r.right (omega (arith, h.lies.stands.right, h.cells_lent)), cell_is r.source.list small)
      (three_set l r.calls.left r.right r.source.list (packed r.calls.hand r.calls.call) (omega (arith, h.lies.stands.right, h.lies.stands.size))) in
      subst (λ (x : List ℕ). Represents n older heads whole start (M.opened r) (lent x o) (S.with_calls (S.new_call (S.noting (S.charge s + open_price) s) ∷ s.calls) (S.noting (S.charge s + open_price) s)))
      (sym cells)
      (record {
        frames = collects [] [] w ∷ fs;
        valid = h.valid;
        lies = record {
          stands = record {
            size = placed_size free h bs fit;
            right = h.lies.stands.right;
            cells = placed_high free h bs fit ∙ h.lies.stands.cells;
            definitions = h.lies.stands.definitions;
            live = h.lies.stands.live;
          };
          read = h.lies.read;
          scans = h.lies.scans;
          most = rw (charge_is free h, h.lies.most);
          wrote = h.lies.wrote;
          indexed = h.lies.indexed;
        };
        cells_lent = h.cells_lent;
        ordered = fit;
        in_use = omega (arith, h.in_use);
        places_are = ap (λ (x : ℕ). record { left = r.calls.left + open_price; call = r.calls.left; hand = x; list = r.source.list; body = r.source.body; offset = r.source.offset }) zero' ∙ ap (λ (p : Places). opening p [] []) h.places_are;
        lefts_are = placed_low free h bs fit ∙ ap (λ (x : List ℕ). x ++ bs) h.lefts_are
            ∙ ap (λ (p : Places). lefts n b fs ++ (r.right ∷ p.list ∷ packed p.hand p.call ∷ w ∷ [])) h.places_are
            ∙ ap (λ (x : ℕ). lefts n b fs ++ (x ∷ (places n b fs).list ∷ packed (places n b fs).hand (places n b fs).call ∷ w ∷ [])) right_is;
        calls_are =
            ap (λ (x : ℕ). record { ended = []; hand = []; stood = x } ∷ s.calls) stands
            ∙ ap (λ (x : List Call). record { ended = []; hand = []; stood = b + count (items n b fs) } ∷ x) h.calls_are;
        bodies_are = h.bodies_are;
        ahead = h.ahead;
        quotes = h.quotes;
      })

  pub open_sim : Simulates n older heads whole start (M.open_call r (lent l o)) (S.open_call (limits_of n (length start)) s)
  open_sim = charging free h 4 λ e. goes refl (opened e)

module _ {n : ℕ} {older : List Definition} {heads whole start : List ℕ} {r : Run} {l o : List ℕ} {s : State}
    (free : definitions_price older ≡ 0) (h : Represents n older heads whole start r (lent l o) s) where
  -- the argument in hand of the innermost call, in the cells, and the cells once its length is written
  pub record Ending : Type 0 where
    pub before : List ℕ
    pub hand : Bytes
    pub next : ℕ
    pub at : r.calls.hand ≡ length before
    pub left : r.calls.left ≡ length before + 1 + length hand
    pub cells : M.end_argument r l ≡ before ++ (length hand ∷ (hand ++ (next ∷ drop (r.calls.left + 1) l)))
    pub frames : lefts n (length older) (end_argument next h.frames) ≡ before ++ (length hand ∷ (hand ++ (next ∷ [])))

  pub ending_of : Collects n (length older) h.frames → r.calls.left < r.right → Ending
  ending_of c fit =
      let fs = h.frames in
      let b = length older in
      let x = hand_of n b fs c in
      let w = get_or l r.calls.left 0 in
      let at : r.calls.hand ≡ length x.before = ap (λ (p : Places). p.hand) h.places_are ∙ x.at in
      let left : r.calls.left ≡ length x.before + 1 + length x.hand =
      ap (λ (p : Places). p.left) h.places_are ∙ left_is n b fs ∙ ap length x.is ∙ omega (arith, length-append x.before (x.waits ∷ x.hand)) in
      let test : ltb r.calls.hand r.calls.left ≡ true = lt-ltb r.calls.hand r.calls.left (omega arith) in
      let count : cell (r.calls.left - (r.calls.hand + 1)) ≡ length x.hand =
      cell_is (r.calls.left - (r.calls.hand + 1)) (omega (arith, h.cells_lent, h.lies.stands.right)) ∙ omega arith in
      let tail : drop r.calls.left l ≡ w ∷ drop (r.calls.left + 1) l =
      drop-cons l r.calls.left 0 (omega (arith, h.lies.stands.right, h.lies.stands.size)) ∙ ap (λ (k : ℕ). w ∷ drop k l) (sym (add-one r.calls.left)) in
      let whole' : l ≡ x.before ++ (x.waits ∷ (x.hand ++ (w ∷ drop (r.calls.left + 1) l))) =
      sym (take-append-drop r.calls.left l)
      ∙ ap (λ (t : List ℕ). t ++ drop r.calls.left l) (h.lefts_are ∙ x.is)
      ∙ ap (λ (t : List ℕ). (x.before ++ (x.waits ∷ x.hand)) ++ t) tail
      ∙ append_assoc x.before (x.waits ∷ x.hand) (w ∷ drop (r.calls.left + 1) l) in
      let set' : set l r.calls.hand (length x.hand) ≡ x.before ++ (length x.hand ∷ (x.hand ++ (w ∷ drop (r.calls.left + 1) l))) =
      ap (λ (t : List ℕ). set t r.calls.hand (length x.hand)) whole'
      ∙ ap (λ (k : ℕ). set (x.before ++ (x.waits ∷ (x.hand ++ (w ∷ drop (r.calls.left + 1) l)))) k (length x.hand)) at
      ∙ set_at x.before x.waits (x.hand ++ (w ∷ drop (r.calls.left + 1) l)) (length x.hand) (length x.before) refl in
      record {
        before = x.before;
        hand = x.hand;
        next = w;
        at = at;
        left = left;
        cells = rw (test, count) set';
        frames = x.ended w;
      }

  end_size : length (M.end_argument r l) ≡ n
  end_size = go (ltb r.calls.hand r.calls.left)
    where
      go : (t : Bool) → length (cond t (set l r.calls.hand (cell (r.calls.left - (r.calls.hand + 1)))) l) ≡ n
      go true = length-set l r.calls.hand (cell (r.calls.left - (r.calls.hand + 1))) ∙ h.lies.stands.size
      go false = h.lies.stands.size

  end_high : r.calls.hand < r.right → drop r.right (M.end_argument r l) ≡ drop r.right l
  end_high e = go (ltb r.calls.hand r.calls.left)
    where
      go : (t : Bool) → drop r.right (cond t (set l r.calls.hand (cell (r.calls.left - (r.calls.hand + 1)))) l) ≡ drop r.right l
      go true = drop-set-lt r.right l r.calls.hand (cell (r.calls.left - (r.calls.hand + 1))) e
      go false = refl

  -- `,` in a call
  separated : Collects n (length older) h.frames → r.charge + 1 ≤ n
      → Represents n older heads whole start (M.separated r) (lent (M.end_argument r l) o) (S.with_calls (separate_head s.calls) (S.noting (S.charge s + 1) s))
  separated c e =
      let b = length older in
      let fs = h.frames in
      let fit = room_is free h 1 e in
      let x = ending_of c (omega arith) in
      let el = end_laid n b x.next fs c in
      let low : take (r.calls.left + 1) (M.end_argument r l) ≡ x.before ++ (length x.hand ∷ (x.hand ++ (x.next ∷ []))) =
      ap (take (r.calls.left + 1))
      (x.cells
      ∙ ap (λ (t : List ℕ). x.before ++ (length x.hand ∷ t)) (sym (append_assoc x.hand (x.next ∷ []) (drop (r.calls.left + 1) l)))
      ∙ sym (append_assoc x.before (length x.hand ∷ (x.hand ++ (x.next ∷ []))) (drop (r.calls.left + 1) l)))
      ∙ take_at (x.before ++ (length x.hand ∷ (x.hand ++ (x.next ∷ [])))) (drop (r.calls.left + 1) l) (r.calls.left + 1)
      (omega (arith, x.left, length-append x.before (length x.hand ∷ (x.hand ++ (x.next ∷ []))), length-append x.hand (x.next ∷ []))) in
      record {
        frames = end_argument x.next fs;
        valid = end_valid n b x.next fs c h.valid;
        lies = rw el.0 (record {
          stands = record {
            size = end_size;
            right = h.lies.stands.right;
            cells = end_high (omega (arith, x.at, x.left)) ∙ h.lies.stands.cells;
            definitions = h.lies.stands.definitions;
            live = h.lies.stands.live;
          };
          read = h.lies.read;
          scans = h.lies.scans;
          most = rw (charge_is free h, h.lies.most);
          wrote = h.lies.wrote;
          indexed = h.lies.indexed;
        });
        cells_lent = h.cells_lent;
        ordered = fit;
        in_use = omega (arith, h.in_use);
        places_are = rw (el.1, ← h.places_are);
        lefts_are = low ∙ sym x.frames;
        calls_are = ap separate_head h.calls_are ∙ sym (end_calls n b x.next fs);
        bodies_are = h.bodies_are ∙ sym (end_bodies n b x.next fs c);
        ahead = h.ahead;
        quotes = h.quotes;
      }

  -- By whether a call is open: where none is, the byte is written.
  by_calls : (x : ℕ) (a : After) (f : List Call → Step)
      → f [] ≡ S.put (limits_of n (length start)) (x ∷ []) s
      → ((c : Call) (cs : List Call) → s.calls ≡ c ∷ cs → Collects n (length older) h.frames → Simulates n older heads whole start a (f (c ∷ cs)))
      → Simulates n older heads whole start (cond (eqb r.calls.call nowhere) (M.write r x (lent l o)) a) (f s.calls)
  by_calls x a f None Some = go (calls n (length older) h.frames) refl
    where
      go : (cs : List Call) → calls n (length older) h.frames ≡ cs → Simulates n older heads whole start (cond (eqb r.calls.call nowhere) (M.write r x (lent l o)) a) (f s.calls)
      go [] e =
          let q : eqb r.calls.call nowhere ≡ true = eq-eqb _ _ (ap (λ (p : Places). p.call) h.places_are ∙ no_call n (length older) h.frames e) in
          let p : Simulates n older heads whole start (M.write r x (lent l o)) (S.put (limits_of n (length start)) (x ∷ []) s) = rw q at (put_byte free h x) in
          subst (λ (z : List Call). Simulates n older heads whole start (cond (eqb r.calls.call nowhere) (M.write r x (lent l o)) a) (f z)) (sym (h.calls_are ∙ e)) (rw (q, None) p)
      go (k ∷ cs) e =
          let p : Collects n (length older) h.frames = rw e (omega arith) in
          subst (λ (z : List Call). Simulates n older heads whole start (cond (eqb r.calls.call nowhere) (M.write r x (lent l o)) a) (f z)) (sym (h.calls_are ∙ e))
          (rw (call_is free h p) (Some k cs (h.calls_are ∙ e) p))

  -- `,`
  pub separate_sim : (x : ℕ) → Simulates n older heads whole start (M.separate r x (lent l o)) (S.separate (limits_of n (length start)) s.calls x s)
  separate_sim x =
      by_calls x (M.end_by_comma r (lent l o)) (λ cs. S.separate (limits_of n (length start)) cs x s) refl
      λ c cs e p. charging_one free h λ q.
      subst (λ (z : List Call). Simulates n older heads whole start (M.goes (M.separated r) (lent (M.end_argument r l) o)) (next (S.with_calls (separate_head z) (S.noting (S.charge s + 1) s))))
      e (goes refl (separated p q))

  -- `~` in the text
  pub fetch_text_sim : (x : ℕ) → Simulates n older heads whole start (M.fetch_in_text r x (lent l o)) (S.fetch_in_text (limits_of n (length start)) s.calls x s)
  fetch_text_sim x = by_calls x (M.ends ParameterInText r (lent l o)) (λ cs. S.fetch_in_text (limits_of n (length start)) cs x s) refl λ c cs e p. refusal free h ParameterInText

  -- By whether a body is being read.
  pub by_bodies_in : {A : Type 0} (P : A → Step → Type 0) (a c : A) (f : List Body → Step) → (s.bodies ≡ [] → P a (f []))
      → ((B : Body) (Bs : List Body) → s.bodies ≡ B ∷ Bs → P c (f (B ∷ Bs)))
      → P (cond (eqb r.source.list nowhere) a c) (f s.bodies)
  by_bodies_in P a c f None Some = go (bodies n (length older) h.frames) refl
    where
      fs : List Frame
      fs = h.frames

      list_is : r.source.list ≡ (places n (length older) fs).list
      list_is = ap (λ (p : Places). p.list) h.places_are

      go : (Bs : List Body) → bodies n (length older) h.frames ≡ Bs → P (cond (eqb r.source.list nowhere) a c) (f s.bodies)
      go [] e =
          let q : eqb r.source.list nowhere ≡ true = eq-eqb _ _ (list_is ∙ in_text n (length older) fs e) in
          subst (λ (z : List Body). P (cond (eqb r.source.list nowhere) a c) (f z)) (sym (h.bodies_are ∙ e)) (rw q (None (h.bodies_are ∙ e)))
      go (B ∷ Bs) e =
          let p : Reads n (length older) fs = rw e (omega arith) in
          let k : r.source.list < nowhere = omega (arith, list_is, list_inside n (length older) h.cells_lent fs p (omega (arith, h.lies.stands.right)), h.cells_lent) in
          let q : eqb r.source.list nowhere ≡ false = ne_eqb r.source.list nowhere (λ (z : r.source.list ≡ nowhere). absurd (omega arith)) in
          subst (λ (z : List Body). P (cond (eqb r.source.list nowhere) a c) (f z)) (sym (h.bodies_are ∙ e)) (rw q (Some B Bs (h.bodies_are ∙ e)))

  pub by_bodies : (a c : After) (f : List Body → Step) → (s.bodies ≡ [] → Simulates n older heads whole start a (f []))
      → ((B : Body) (Bs : List Body) → s.bodies ≡ B ∷ Bs → Simulates n older heads whole start c (f (B ∷ Bs)))
      → Simulates n older heads whole start (cond (eqb r.source.list nowhere) a c) (f s.bodies)
  by_bodies a c f None Some = by_bodies_in (Simulates n older heads whole start) a c f None Some

  -- the same of calls, for answers that differ by that alone
  pub by_call : (a c : After) (f : List Call → Step) → Simulates n older heads whole start a (f [])
      → ((k : Call) (ks : List Call) → Simulates n older heads whole start c (f (k ∷ ks)))
      → Simulates n older heads whole start (cond (eqb r.calls.call nowhere) a c) (f s.calls)
  by_call a c f None Some = go (calls n (length older) h.frames) refl
    where
      go : (ks : List Call) → calls n (length older) h.frames ≡ ks → Simulates n older heads whole start (cond (eqb r.calls.call nowhere) a c) (f s.calls)
      go [] e =
          let q : eqb r.calls.call nowhere ≡ true = eq-eqb _ _ (ap (λ (p : Places). p.call) h.places_are ∙ no_call n (length older) h.frames e) in
          subst (λ (z : List Call). Simulates n older heads whole start (cond (eqb r.calls.call nowhere) a c) (f z)) (sym (h.calls_are ∙ e)) (rw q None)
      go (k ∷ ks) e =
          let p : Collects n (length older) h.frames = rw e (omega arith) in
          subst (λ (z : List Call). Simulates n older heads whole start (cond (eqb r.calls.call nowhere) a c) (f z)) (sym (h.calls_are ∙ e)) (rw (call_is free h p) (Some k ks))

  -- an unquoted `>`
  pub unquote_sim : (x : ℕ) → Simulates n older heads whole start (M.unquote r x (lent l o)) (S.unquote (limits_of n (length start)) s.bodies s.calls x s)
  unquote_sim x =
      by_bodies (cond (eqb r.calls.call nowhere) (M.ends FinishedAtQuote r (lent l o)) (M.ends QuoteInCall r (lent l o))) (M.put r x (lent l o)) (λ Bs. S.unquote (limits_of n (length start)) Bs s.calls x s)
      (λ e. by_call (M.ends FinishedAtQuote r (lent l o)) (M.ends QuoteInCall r (lent l o)) (λ ks. S.unquote (limits_of n (length start)) [] ks x s) (refusal free h FinishedAtQuote) (λ k ks. refusal free h QuoteInCall))
      (λ B Bs e. put_byte free h x)

  -- the end of the text
  pub end_text_sim : Simulates n older heads whole start (M.end_text r (lent l o)) (S.text_end (limits_of n (length start)) s.quotes s.calls s)
  end_text_sim = go s.quotes refl
    where
      go : (q : ℕ) → s.quotes ≡ q → Simulates n older heads whole start (M.end_text r (lent l o)) (S.text_end (limits_of n (length start)) q s.calls s)
      go zero e =
          let t : ltb 0 r.quotes ≡ false = le-ltb 0 r.quotes (omega (arith, h.quotes)) in
          rw t (by_call (M.ends Finished r (lent l o)) (M.ends TextInCall r (lent l o)) (λ ks. S.text_end (limits_of n (length start)) zero ks s) (refusal free h Finished) (λ k ks. refusal free h TextInCall))
      go (suc q) e =
          let t : ltb 0 r.quotes ≡ true = lt-ltb 0 r.quotes (omega (arith, h.quotes)) in
          rw t (refusal free h TextInQuotes)
