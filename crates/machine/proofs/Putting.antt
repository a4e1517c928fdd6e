-- Bytes put into the cells or the output are those that the scanning puts.
use Prim.Native.Nat.{ℕ, ◌+◌, ◌-◌, ◌≤◌, ◌<◌}
use native.Mathlib.Omega.{arith}
use mathlib.Core.Path.{◌≡◌, refl, sym, ap, subst, ◌∙◌}
use mathlib.Core.Bool.{Bool, true, false, cond, not}
use mathlib.Core.List.{List, [], ◌∷◌, ◌++◌, append_assoc}
use lib.ListN.{length, take, drop, length-append}
use lib.Seq.{take_at, length-take-le, drop-drop}
use lib.Dec.{eqb, leb, ltb}
use borrow.Author.Tests.{lt-ltb, le-ltb, le-leb, lt-leb, eq-eqb, ne_eqb, leb-true, leb-false}
use Rattle.language.specs.Outcomes
use Rattle.language.specs.Signs.{Bytes}
use Rattle.language.specs.Definitions.{Definition}
use Rattle.language.specs.Charge.{open_price, definitions_price}
use Rattle.language.specs.Scanning.{State, Step, next, Call, Limits}
use Rattle.language.specs.Scanning as S
use Rattle.language.specs.Expansion.{limits_of, lent}
use Rattle.memory.specs.Block.{placed, block, moved, copied, low_bytes}
use Rattle.memory.proofs.Blocks.{placed-length, moved_in, copied_in, length-low_bytes, drop_past_placed}
use Rattle.machine.specs.declared.run.Run.{Run}
use Rattle.machine.specs.Walks.{nowhere}
use Rattle.machine.specs.Machine as M
use Rattle.machine.specs.Machine.{After}
use Rattle.machine.proofs.Stack.{no_call}
use Rattle.machine.proofs.Moves.{collect, put_hand, Collects, collect_laid, collect_lefts, collect_calls, collect_bodies, collect_valid}
use Rattle.machine.proofs.Represents.{Simulates, goes, stops, charge_is, output_size}
use Rattle.machine.proofs.Showing.{state_shown}
use Rattle.machine.specs.Frames.{Places, Frame, made, collects, reads, laid, places, calls}
use Rattle.machine.specs.Held.{Represents}
use Rattle.machine.proofs.Lists.{set-placed, overwrite}
use Rattle.language.specs.Outcomes.{number_of}
use Rattle.language.specs.declared.outcomes.Outcome.{Outcome}
use Rattle.language.specs.declared.outcomes.Outcome.TheVariants.{NoCellsLeft, NoOutputLeft}

-- Tests that agree ---------------------------------------------------------------------------------------------------

-- there is room for k more of at most m
pub room_test : (m c k : ℕ) → c ≤ m → ltb (m - c) k ≡ not (leb (c + k) m)
room_test m c k h = go (leb (c + k) m) refl
  where
    go : (t : Bool) → leb (c + k) m ≡ t → ltb (m - c) k ≡ not t
    go true e = let q = leb-true (c + k) m e in le-ltb (m - c) k (omega arith)
    go false e = let q = leb-false (c + k) m e in lt-ltb (m - c) k (omega arith)

pub one_test : (m c : ℕ) → leb m c ≡ not (leb (c + 1) m)
one_test m c = go (leb (c + 1) m) refl
  where
    go : (t : Bool) → leb (c + 1) m ≡ t → leb m c ≡ not t
    go true e = let q = leb-true (c + 1) m e in lt-leb m c (omega arith)
    go false e = let q = leb-false (c + 1) m e in le-leb m c (omega arith)

module _ {n : ℕ} {older : List Definition} {heads whole start : List ℕ} {r : Run} {l o : List ℕ} {s : State}
    (free : definitions_price older ≡ 0) (h : Represents n older heads whole start r (lent l o) s) where
  abbrev b : ℕ
  b = length older

  abbrev fs : List Frame
  fs = h.frames

  -- an outcome with nothing changed
  pub refusal : (outcome : Outcome) → Simulates n older heads whole start (M.ends outcome r (lent l o)) (S.ends (number_of outcome) s)
  refusal outcome = stops (record { answer = refl; shows = state_shown h })

  -- bytes collected: they stand behind the left stack, and the right one is as it was
  pub collecting : (bs : Bytes) (l' : List ℕ) → Collects n b fs → r.calls.left + length bs ≤ r.right
      → length l' ≡ n → take (r.calls.left + length bs) l' ≡ take r.calls.left l ++ bs → drop r.right l' ≡ drop r.right l
      → Represents n older heads whole start (M.collected (length bs) r) (lent l' o) (S.with_calls (put_hand bs s.calls) (S.noting (S.charge s + length bs) s))
  collecting bs l' c fit size lo hi =
      let cl = collect_laid n b bs fs c in
      let ch = charge_is free h in
      record {
        frames = collect bs fs;
        valid = collect_valid n b bs fs c h.valid;
        lies = rw cl.0 (record {
          stands = record {
            size = size;
            right = h.lies.stands.right;
            cells = hi ∙ h.lies.stands.cells;
            definitions = h.lies.stands.definitions;
            live = h.lies.stands.live;
          };
          read = h.lies.read;
          scans = h.lies.scans;
          most = rw (ch, h.lies.most);
          wrote = h.lies.wrote;
          indexed = h.lies.indexed;
        });
        cells_lent = h.cells_lent;
        ordered = fit;
        in_use = omega (arith, h.in_use);
        places_are = rw (cl.1, ← h.places_are);
        lefts_are = lo ∙ rw (h.lefts_are, collect_lefts n b bs fs c);
        calls_are = ap (put_hand bs) h.calls_are ∙ sym (collect_calls n b bs fs);
        bodies_are = h.bodies_are ∙ sym (collect_bodies n b bs fs c);
        ahead = h.ahead;
        quotes = h.quotes;
      }

  -- bytes written: they stand behind the output
  pub writes : (bs : Bytes) → length s.standing.output + length bs ≤ length start
      → Represents n older heads whole start (M.wrote (length bs) r)
      (lent l ((s.standing.output ++ bs) ++ drop (length (s.standing.output ++ bs)) start))
      (S.with_output (s.standing.output ++ bs) s)
  writes bs fit = record {
    frames = fs;
    valid = h.valid;
    lies = record {
      stands = h.lies.stands;
      read = h.lies.read;
      scans = h.lies.scans;
      most = h.lies.most;
      indexed = h.lies.indexed;
      wrote = record {
        written = omega (arith, h.lies.wrote.written, length-append s.standing.output bs);
        output = refl;
        enough = omega (arith, length-append s.standing.output bs);
      };
    };
    cells_lent = h.cells_lent;
    ordered = h.ordered;
    in_use = h.in_use;
    places_are = h.places_are;
    lefts_are = h.lefts_are;
    calls_are = h.calls_are;
    bodies_are = h.bodies_are;
    ahead = h.ahead;
    quotes = h.quotes;
  }

  -- the cells that are free
  pub room_is : (k : ℕ) → r.charge + k ≤ n → r.calls.left + k ≤ r.right
  room_is k e = omega (arith, h.in_use, h.lies.stands.right)

  charge_below : r.charge ≤ n
  charge_below = omega (arith, h.in_use, h.ordered, h.lies.stands.right)

  -- a block placed behind the left stack
  pub placed_low : (bs : Bytes) → r.calls.left + length bs ≤ r.right → take (r.calls.left + length bs) (placed r.calls.left bs l) ≡ take r.calls.left l ++ bs
  placed_low bs fit =
      let e : length (take r.calls.left l) ≡ r.calls.left = length-take-le r.calls.left l (omega (arith, h.lies.stands.right, h.lies.stands.size)) in
      let q : r.calls.left + length bs ≡ length (take r.calls.left l ++ bs) = omega (arith, length-append (take r.calls.left l) bs) in
      ap (take (r.calls.left + length bs)) (sym (append_assoc (take r.calls.left l) bs (drop (r.calls.left + length bs) l)))
      ∙ take_at (take r.calls.left l ++ bs) (drop (r.calls.left + length bs) l) (r.calls.left + length bs) (sym q)

  pub placed_high : (bs : Bytes) → r.calls.left + length bs ≤ r.right → drop r.right (placed r.calls.left bs l) ≡ drop r.right l
  placed_high bs fit =
      let m = r.right - (r.calls.left + length bs) in
      let q : r.calls.left + length bs + m ≡ r.right = omega arith in
      let p : drop (r.calls.left + length bs) (placed r.calls.left bs l) ≡ drop (r.calls.left + length bs) l =
      drop_past_placed r.calls.left bs l (omega (arith, h.lies.stands.right, h.lies.stands.size)) in
      ap (λ (x : ℕ). drop x (placed r.calls.left bs l)) (sym q)
      ∙ sym (drop-drop m (r.calls.left + length bs) (placed r.calls.left bs l))
      ∙ ap (drop m) p
      ∙ drop-drop m (r.calls.left + length bs) l
      ∙ ap (λ (x : ℕ). drop x l) q

  pub placed_size : (bs : Bytes) → r.calls.left + length bs ≤ r.right → length (placed r.calls.left bs l) ≡ n
  placed_size bs fit = placed-length r.calls.left bs l (omega (arith, h.lies.stands.right, h.lies.stands.size)) ∙ h.lies.stands.size

  pub collects_placed : (bs : Bytes) → Collects n b fs → r.charge + length bs ≤ n
      → Represents n older heads whole start (M.collected (length bs) r) (lent (placed r.calls.left bs l) o)
      (S.with_calls (put_hand bs s.calls) (S.noting (S.charge s + length bs) s))
  collects_placed bs c e =
      let fit = room_is (length bs) e in
      collecting bs (placed r.calls.left bs l) c fit (placed_size bs fit) (placed_low bs fit) (placed_high bs fit)

  pick_in : {A : Type 0} (P : A → Step → Type 0) (t : Bool) {a c : A} {u v : Step} → (t ≡ true → P a u) → P c v → P (cond (not t) c a) (cond t u v)
  pick_in P true x y = x refl
  pick_in P false x y = y

  -- where the limit of cells enters a scan: the machine's test, in either form, is the scanning's
  pub charging : (k : ℕ) {a : After} {t : Step} → (r.charge + k ≤ n → Simulates n older heads whole start a t)
      → Simulates n older heads whole start (cond (ltb (length l - r.charge) k) (M.ends NoCellsLeft r (lent l o)) a) (cond (leb (S.charge s + k) n) t (S.ends Outcomes.no_cells_left s))
  charging k {a} {t} go =
      let e : ltb (length l - r.charge) k ≡ not (leb (r.charge + k) n) = rw h.lies.stands.size (room_test n r.charge k charge_below) in
      rw (e, charge_is free h) (pick_in (Simulates n older heads whole start) (leb (r.charge + k) n) (λ q. go (leb-true (r.charge + k) n q)) (refusal NoCellsLeft))

  pub charging_one_in : {A : Type 0} (P : A → Step → Type 0) {a c : A} {t : Step} → P c (S.ends Outcomes.no_cells_left s) → (r.charge + 1 ≤ n → P a t)
      → P (cond (leb (length l) r.charge) c a) (cond (leb (S.charge s + 1) n) t (S.ends Outcomes.no_cells_left s))
  charging_one_in P {a} {c} {t} refused go =
      let e : leb (length l) r.charge ≡ not (leb (r.charge + 1) n) = rw h.lies.stands.size (one_test n r.charge) in
      rw (e, charge_is free h) (pick_in P (leb (r.charge + 1) n) (λ q. go (leb-true (r.charge + 1) n q)) refused)

  pub charging_one : {a : After} {t : Step} → (r.charge + 1 ≤ n → Simulates n older heads whole start a t)
      → Simulates n older heads whole start (cond (leb (length l) r.charge) (M.ends NoCellsLeft r (lent l o)) a) (cond (leb (S.charge s + 1) n) t (S.ends Outcomes.no_cells_left s))
  charging_one go = charging_one_in (Simulates n older heads whole start) (refusal NoCellsLeft) go

  -- and where that of the output does
  pub writing : (k : ℕ) {a : After} {t : Step} → (length s.standing.output + k ≤ length start → Simulates n older heads whole start a t)
      → Simulates n older heads whole start (cond (ltb (length o - r.counts.written) k) (M.ends NoOutputLeft r (lent l o)) a)
      (cond (leb (length s.standing.output + k) (length start)) t (S.ends Outcomes.no_output_left s))
  writing k {a} {t} go =
      let w = length s.standing.output in
      let e : ltb (length o - r.counts.written) k ≡ not (leb (w + k) (length start)) =
      rw (output_size h.lies, h.lies.wrote.written) (room_test (length start) w k h.lies.wrote.enough) in
      rw e (pick_in (Simulates n older heads whole start) (leb (w + k) (length start)) (λ q. go (leb-true (w + k) (length start) q)) (refusal NoOutputLeft))

  pub writing_one : {a : After} {t : Step} → (length s.standing.output + 1 ≤ length start → Simulates n older heads whole start a t)
      → Simulates n older heads whole start (cond (leb (length o) r.counts.written) (M.ends NoOutputLeft r (lent l o)) a)
      (cond (leb (length s.standing.output + 1) (length start)) t (S.ends Outcomes.no_output_left s))
  writing_one {a} {t} go =
      let w = length s.standing.output in
      let e : leb (length o) r.counts.written ≡ not (leb (w + 1) (length start)) = rw (output_size h.lies, h.lies.wrote.written) (one_test (length start) w) in
      rw e (pick_in (Simulates n older heads whole start) (leb (w + 1) (length start)) (λ q. go (leb-true (w + 1) (length start) q)) (refusal NoOutputLeft))

-- the innermost call has a head of four cells
pub call_before : (n b : ℕ) (fs : List Frame) → Collects n b fs → (places n b fs).call + open_price ≤ (places n b fs).left
unfolding laid calls
call_before n b [] h = absurd (omega arith)
call_before n b (made f name value spare ∷ fs) h = call_before n b fs h
call_before n b (collects ended hand waits ∷ fs) h = omega arith
call_before n b (reads list since d k v o ∷ fs) h = call_before n b fs h

module _ {n : ℕ} {older : List Definition} {heads whole start : List ℕ} {r : Run} {l o : List ℕ} {s : State}
    (free : definitions_price older ≡ 0) (h : Represents n older heads whole start r (lent l o) s) where
  abbrev L : Limits
  L = limits_of n (length start)

  pub call_is : Collects n (length older) h.frames → eqb r.calls.call nowhere ≡ false
  call_is c =
      let e : r.calls.call ≡ (places n (length older) h.frames).call = ap (λ (p : Places). p.call) h.places_are in
      let g : r.calls.left ≡ (places n (length older) h.frames).left = ap (λ (p : Places). p.left) h.places_are in
      let k : r.calls.call < nowhere = omega (arith, call_before n (length older) h.frames c, h.ordered, h.lies.stands.right, h.cells_lent) in
      ne_eqb r.calls.call nowhere (λ q. absurd (omega arith))

  -- bytes that go to the call, or to the output: whatever forms the tests have
  pub put_sim : (bs : Bytes) (a c : After)
      → (Collects n (length older) h.frames → Simulates n older heads whole start a (cond (leb (S.charge s + length bs) n) (next (S.with_calls (put_hand bs s.calls) (S.noting (S.charge s + length bs) s))) (S.ends Outcomes.no_cells_left s)))
      → Simulates n older heads whole start c (S.writing L bs s next)
      → Simulates n older heads whole start (cond (eqb r.calls.call nowhere) c a) (S.put L bs s)
  put_sim bs a c x y = go (calls n (length older) h.frames) refl
    where
      go : (cs : List Call) → calls n (length older) h.frames ≡ cs → Simulates n older heads whole start (cond (eqb r.calls.call nowhere) c a) (S.put L bs s)
      go [] e =
          let q : eqb r.calls.call nowhere ≡ true = eq-eqb _ _ (ap (λ (p : Places). p.call) h.places_are ∙ no_call n (length older) h.frames e) in
          subst (λ (z : List Call). Simulates n older heads whole start (cond (eqb r.calls.call nowhere) c a) (S.put_to L z bs s)) (sym (h.calls_are ∙ e)) (rw q y)
      go (k ∷ cs) e =
          let p : Collects n (length older) h.frames = rw e (omega arith) in
          subst (λ (z : List Call). Simulates n older heads whole start (cond (eqb r.calls.call nowhere) c a) (S.put_to L z bs s)) (sym (h.calls_are ∙ e))
          (rw (call_is p)
          (subst (λ (z : List Call). Simulates n older heads whole start a (cond (leb (S.charge s + length bs) n) (next (S.with_calls (put_hand bs z) (S.noting (S.charge s + length bs) s))) (S.ends Outcomes.no_cells_left s))) (h.calls_are ∙ e) (x p)))

  -- the output with a piece placed behind what was written
  placed_output : (bs : Bytes) → length s.standing.output + length bs ≤ length start
      → placed r.counts.written bs o ≡ (s.standing.output ++ bs) ++ drop (length (s.standing.output ++ bs)) start
  placed_output bs e =
      ap (λ (x : ℕ). placed x bs o) h.lies.wrote.written
      ∙ ap (placed (length s.standing.output) bs) h.lies.wrote.output
      ∙ overwrite s.standing.output start bs e

  writes_placed : (bs : Bytes) → length s.standing.output + length bs ≤ length start
      → Simulates n older heads whole start (M.goes (M.wrote (length bs) r) (lent l (placed r.counts.written bs o))) (next (S.with_output (s.standing.output ++ bs) s))
  writes_placed bs e =
      subst (λ (x : List ℕ). Simulates n older heads whole start (M.goes (M.wrote (length bs) r) (lent l x)) (next (S.with_output (s.standing.output ++ bs) s)))
      (sym (placed_output bs e)) (goes refl (writes free h bs e))

  -- one byte
  pub put_byte : (x : ℕ) → Simulates n older heads whole start (M.put r x (lent l o)) (S.put L (x ∷ []) s)
  put_byte x =
      put_sim (x ∷ []) (M.collect r x (lent l o)) (M.write r x (lent l o))
      (λ c. charging_one free h λ e.
      let fit : r.calls.left < length l = omega (arith, h.in_use, h.lies.stands.right, h.lies.stands.size) in
      subst (λ (z : List ℕ). Simulates n older heads whole start (M.goes (M.collected 1 r) (lent z o)) (next (S.with_calls (put_hand (x ∷ []) s.calls) (S.noting (S.charge s + 1) s))))
      (sym (set-placed l r.calls.left x fit)) (goes refl (collects_placed free h (x ∷ []) c e)))
      (writing_one free h λ e.
      let fit : r.counts.written < length o = omega (arith, output_size h.lies, h.lies.wrote.written) in
      subst (λ (z : List ℕ). Simulates n older heads whole start (M.goes (M.wrote 1 r) (lent l z)) (next (S.with_output (s.standing.output ++ (x ∷ [])) s)))
      (sym (set-placed o r.counts.written x fit)) (writes_placed (x ∷ []) e))

  -- a block of bytes that stand in the cells: a parameter
  pub copy_block : (from : ℕ) (bs : Bytes) → from + length bs ≤ n → block from (length bs) l ≡ bs → block from (length bs) (low_bytes l) ≡ bs
      → Simulates n older heads whole start (M.copy r from (length bs) (lent l o)) (S.put L bs s)
  copy_block from bs fit is low =
      put_sim bs (M.collect_block r from (length bs) (lent l o)) (M.write_block r from (length bs) (lent l o))
      (λ c. charging free h (length bs) λ e.
      let q : moved from r.calls.left (length bs) l ≡ placed r.calls.left bs l =
      moved_in from r.calls.left (length bs) l (omega (arith, h.lies.stands.size)) (omega (arith, h.in_use, h.lies.stands.right, h.lies.stands.size)) ∙ ap (λ (z : List ℕ). placed r.calls.left z l) is in
      subst (λ (z : List ℕ). Simulates n older heads whole start (M.goes (M.collected (length bs) r) (lent z o)) (next (S.with_calls (put_hand bs s.calls) (S.noting (S.charge s + length bs) s))))
      (sym q) (goes refl (collects_placed free h bs c e)))
      (writing free h (length bs) λ e.
      let q : copied from r.counts.written (length bs) (low_bytes l) o ≡ placed r.counts.written bs o =
      copied_in from r.counts.written (length bs) (low_bytes l) o (omega (arith, h.lies.stands.size, length-low_bytes l)) (omega (arith, output_size h.lies, h.lies.wrote.written)) ∙ ap (λ (z : List ℕ). placed r.counts.written z o) low in
      subst (λ (z : List ℕ). Simulates n older heads whole start (M.goes (M.wrote (length bs) r) (lent l z)) (next (S.with_output (s.standing.output ++ bs) s)))
      (sym q) (writes_placed bs e))
