-- `;`: the call that is applied, as it stands in the cells once its mark is set.
use Prim.Native.Nat.{ℕ, ◌+◌, ◌-◌, ◌≤◌, ◌<◌}
use native.Mathlib.Omega.{arith}
use native.Mathlib.Numerals.{add-one}
use mathlib.Core.Path.{◌≡◌, refl, sym, ap, subst, ◌∙◌}
use mathlib.Core.Bool.{true}
use mathlib.Core.List.{List, [], ◌∷◌, ◌++◌, append_assoc}
use lib.ListN.{length, take, drop, get_or, set, length-append, length-drop, take-append-drop}
use lib.Seq.{set_at, drop_at, drop-drop, drop-cons}
use lib.Dec.{ltb}
use borrow.Author.Tests.{lt-ltb, ltb-true}
use Rattle.language.specs.Signs.{Bytes}
use Rattle.language.specs.Definitions.{Definition}
use Rattle.language.specs.Charge.{arguments_price, open_price, definitions_price}
use Rattle.language.specs.Scanning.{State, calls_below}
use Rattle.language.specs.Scanning as S
use Rattle.language.specs.Expansion.{Lent, lent}
use Rattle.language.proofs.Prices.{arguments_last}
use Rattle.machine.specs.declared.run.Run.{Run}
use Rattle.machine.specs.Walks.{mark, packed, cell}
use Rattle.machine.specs.Machine as M
use Rattle.machine.proofs.Items.{arguments_size, encode_arguments_last}
use Rattle.machine.proofs.Stack.{left_is as framesLeft}
use Rattle.machine.proofs.Moves.{made_laid, made_lefts, made_calls, made_bodies, unmade_valid, own_call_of}
use Rattle.machine.proofs.Represents.{charge_is}
use Rattle.machine.proofs.Putting.{room_is}
use Rattle.machine.specs.Items.{Item, encode_arguments, count, encode_call, Definitions}
use Rattle.machine.specs.Frames.{Places, Frame, collects, address, opening, laid, items, places, lefts, calls, bodies, Valid}
use Rattle.machine.specs.Held.{Lies, Represents, places_of}
use Rattle.machine.proofs.Lists.{cell_is}

-- The run r in the cells l, where the innermost call with this list is ended by its mark and its `;` is charged. `under` are the
-- frames around the call, `since` what was defined since its `$`.
pub record Applied (n : ℕ) (older : List Definition) (heads whole start : List ℕ) (r : Run) (m : Lent) (s : State) : Type 0 where
  pub under : List Frame
  pub since : List Item
  pub ended : List Bytes
  pub hand : Bytes
  pub valid : Valid n (length older) under
  pub definitions : Definitions since
  pub lies : Lies n older heads start (since ++ items n (length older) under) r m s.standing
  pub cells_lent : n ≤ 65536
  pub room : r.calls.left + 1 ≤ r.right
  pub in_use : r.charge + r.right ≡ r.calls.left + 1 + n
  pub call_is : r.calls.call ≡ (places n (length older) under).left
  pub left_is : r.calls.left ≡ r.calls.call + 3 + arguments_price (ended ++ (hand ∷ []))
  pub list_is : r.source.list ≡ (places n (length older) under).list
  pub body_is : r.source.body ≡ (places n (length older) under).body
  pub offset_is : r.source.offset ≡ (places n (length older) under).offset
  pub cells : m.cells
      ≡ lefts n (length older) under
      ++ (address n (items n (length older) under) ∷ (places n (length older) under).list
      ∷ packed (places n (length older) under).hand (places n (length older) under).call
      ∷ (encode_arguments (ended ++ (hand ∷ [])) ++ (mark ∷ drop (r.calls.left + 1) m.cells)))
  pub calls_are : s.calls ≡ record { ended = ended; hand = hand; stood = length older + count (items n (length older) under) } ∷ calls n (length older) under
  pub bodies_are : s.bodies ≡ bodies n (length older) under
  pub ahead : drop r.counts.read whole ≡ s.text
  pub quotes : r.quotes ≡ s.quotes

abbrev pub list_of : {n : ℕ} {older : List Definition} {heads whole start : List ℕ} {r : Run} {m : Lent} {s : State} → Applied n older heads whole start r m s → List Bytes
list_of x = x.ended ++ (x.hand ∷ [])

regroup : (a head c : List ℕ) (w : ℕ) (hand t : List ℕ) → (a ++ (head ++ (c ++ (w ∷ hand)))) ++ t ≡ (a ++ (head ++ c)) ++ (w ∷ (hand ++ t))
regroup a head c w hand t = simp append_assoc

-- the innermost call of the body being read, its mark set
pub applied_of : {n : ℕ} {older : List Definition} {heads whole start : List ℕ} {r : Run} {l o : List ℕ} {s : State}
    → definitions_price older ≡ 0 → (h : Represents n older heads whole start r (lent l o) s) → S.own_call s ≡ true → r.charge + 1 ≤ n
    → Applied n older heads whole start (M.charged 1 r) (lent (set (M.end_argument r l) r.calls.left mark) o) (S.noting (S.charge s + 1) s)
unfolding laid calls lefts bodies Valid
applied_of {n} {older} {heads} {whole} {start} {r} {l} {o} {s} free h own e =
    let b = length older in
    let fs = h.frames in
    let fit = room_is free h 1 e in
    let below : calls_below (bodies n b fs) < length (calls n b fs) =
    omega (arith, ltb-true (calls_below s.bodies) (length s.calls) own, ap length h.calls_are, ap calls_below h.bodies_are) in
    let x = own_call_of n b fs below in
    let C = collects x.ended x.hand x.waits in
    let U = items n b x.under in
    let p = places n b x.under in
    let ml = made_laid n b x.since (C ∷ x.under) x.definitions in
    let itemsEq : items n b fs ≡ x.since ++ U = ap (items n b) x.is ∙ ml.0 in
    let placesEq : places_of r ≡ opening p x.ended x.hand = h.places_are ∙ ap (places n b) x.is ∙ ml.1 in
    let leftsEq : take r.calls.left l ≡ lefts n b x.under ++ encode_call (address n U) p.list (packed p.hand p.call) x.waits x.ended x.hand =
    h.lefts_are ∙ ap (lefts n b) x.is ∙ made_lefts n b x.since (C ∷ x.under) in
    let a = arguments_last x.ended x.hand in
    let left_eq : r.calls.left ≡ p.left + (open_price + (arguments_price x.ended + length x.hand)) = ap (λ (q : Places). q.left) placesEq in
    let call_eq : r.calls.call ≡ p.left = ap (λ (q : Places). q.call) placesEq in
    let handEq : r.calls.hand ≡ p.left + 3 + arguments_price x.ended = ap (λ (q : Places). q.hand) placesEq in
    let head : List ℕ = address n U ∷ p.list ∷ packed p.hand p.call ∷ [] in
    let before = lefts n b x.under ++ (head ++ encode_arguments x.ended) in
    let beforeSize : length before ≡ r.calls.hand =
    omega (arith, length-append (lefts n b x.under) (head ++ encode_arguments x.ended), arguments_size x.ended, framesLeft n b x.under) in
    let w = get_or l r.calls.left 0 in
    let tail : drop r.calls.left l ≡ w ∷ drop (r.calls.left + 1) l =
    drop-cons l r.calls.left 0 (omega (arith, h.lies.stands.right, h.lies.stands.size)) ∙ ap (λ (k : ℕ). w ∷ drop k l) (sym (add-one r.calls.left)) in
    let rest = drop (r.calls.left + 1) l in
    let list = x.ended ++ (x.hand ∷ []) in
    let wholeEq : l ≡ before ++ (x.waits ∷ (x.hand ++ (w ∷ rest))) =
    sym (take-append-drop r.calls.left l)
    ∙ ap (λ (t : List ℕ). t ++ drop r.calls.left l) leftsEq
    ∙ ap (λ (t : List ℕ). (lefts n b x.under ++ (head ++ (encode_arguments x.ended ++ (x.waits ∷ x.hand)))) ++ t) tail
    ∙ regroup (lefts n b x.under) head (encode_arguments x.ended) x.waits x.hand (w ∷ rest) in
    let test : ltb r.calls.hand r.calls.left ≡ true = lt-ltb r.calls.hand r.calls.left (omega arith) in
    let counted : cell (r.calls.left - (r.calls.hand + 1)) ≡ length x.hand = cell_is (r.calls.left - (r.calls.hand + 1)) (omega (arith, h.cells_lent, h.lies.stands.right)) ∙ omega arith in
    let endEq : M.end_argument r l ≡ before ++ (length x.hand ∷ (x.hand ++ (w ∷ rest))) =
    rw (test, counted)
    (ap (λ (t : List ℕ). set t r.calls.hand (length x.hand)) wholeEq
    ∙ ap (λ (k : ℕ). set (before ++ (x.waits ∷ (x.hand ++ (w ∷ rest)))) k (length x.hand)) (sym beforeSize)
    ∙ set_at before x.waits (x.hand ++ (w ∷ rest)) (length x.hand) (length before) refl) in
    let ended = before ++ (length x.hand ∷ x.hand) in
    let ended_size : length ended ≡ r.calls.left = omega (arith, length-append before (length x.hand ∷ x.hand)) in
    let markEq : set (M.end_argument r l) r.calls.left mark ≡ ended ++ (mark ∷ rest) =
    ap (λ (t : List ℕ). set t r.calls.left mark) (endEq ∙ sym (append_assoc before (length x.hand ∷ x.hand) (w ∷ rest)))
    ∙ ap (λ (k : ℕ). set (ended ++ (w ∷ rest)) k mark) (sym ended_size)
    ∙ set_at ended w rest mark (length ended) refl in
    let endedEq : ended ≡ lefts n b x.under ++ (head ++ encode_arguments list) =
    append_assoc (lefts n b x.under) (head ++ encode_arguments x.ended) (length x.hand ∷ x.hand)
    ∙ ap (λ (t : List ℕ). lefts n b x.under ++ (head ++ t)) (sym (encode_arguments_last x.ended x.hand)) in
    let l' = set (M.end_argument r l) r.calls.left mark in
    let restEq : drop (r.calls.left + 1) l' ≡ rest =
    ap (drop (r.calls.left + 1)) (markEq ∙ sym (append_assoc ended (mark ∷ []) rest))
    ∙ drop_at (ended ++ (mark ∷ [])) rest (r.calls.left + 1) (omega (arith, length-append ended (mark ∷ []))) in
    let sizeEq : length l' ≡ n =
    ap length markEq ∙ omega (arith, length-append ended (mark ∷ rest), length-drop (r.calls.left + 1) l, h.lies.stands.size, h.lies.stands.right) in
    let m = r.right - (r.calls.left + 1) in
    let rightEq : r.calls.left + 1 + m ≡ r.right = omega arith in
    let highEq : drop r.right l' ≡ drop r.right l =
    ap (λ (k : ℕ). drop k l') (sym rightEq)
    ∙ sym (drop-drop m (r.calls.left + 1) l')
    ∙ ap (drop m) restEq
    ∙ drop-drop m (r.calls.left + 1) l
    ∙ ap (λ (k : ℕ). drop k l) rightEq in
    let v = unmade_valid n b x.since (C ∷ x.under) (subst (Valid n b) x.is h.valid) in
    record {
      under = x.under;
      since = x.since;
      ended = x.ended;
      hand = x.hand;
      valid = v;
      definitions = x.definitions;
      lies = subst (λ (t : List Item). Lies n older heads start t (M.charged 1 r) (lent l' o) (S.noting (S.charge s + 1) s).standing) itemsEq
          (record {
            stands = record {
              size = sizeEq;
              right = h.lies.stands.right;
              cells = highEq ∙ h.lies.stands.cells;
              definitions = h.lies.stands.definitions;
              live = h.lies.stands.live;
            };
            read = h.lies.read;
            scans = h.lies.scans;
            most = rw (charge_is free h, h.lies.most);
            wrote = h.lies.wrote;
            indexed = h.lies.indexed;
          });
      cells_lent = h.cells_lent;
      room = fit;
      in_use = omega (arith, h.in_use);
      call_is = call_eq;
      left_is = omega arith;
      list_is = ap (λ (q : Places). q.list) placesEq;
      body_is = ap (λ (q : Places). q.body) placesEq;
      offset_is = ap (λ (q : Places). q.offset) placesEq;
      cells =
          markEq
          ∙ ap (λ (t : List ℕ). t ++ (mark ∷ rest)) endedEq
          ∙ append_assoc (lefts n b x.under) (head ++ encode_arguments list) (mark ∷ rest)
          ∙ ap (λ (t : List ℕ). lefts n b x.under ++ (head ++ (encode_arguments list ++ (mark ∷ t)))) (sym restEq);
      calls_are = h.calls_are ∙ ap (calls n b) x.is ∙ made_calls n b x.since (C ∷ x.under);
      bodies_are = h.bodies_are ∙ ap (bodies n b) x.is ∙ made_bodies n b x.since (C ∷ x.under);
      ahead = h.ahead;
      quotes = h.quotes;
    }
