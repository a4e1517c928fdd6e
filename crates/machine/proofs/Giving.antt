-- A result in place of a list: what a built-in gives.
use Prim.Native.Nat.{ℕ, ◌+◌, ◌-◌, ◌≤◌, ◌<◌, max}
use native.Mathlib.Omega.{arith}
use mathlib.Core.Path.{◌≡◌, refl, sym, ap, subst, ◌∙◌}
use mathlib.Core.Bool.{Bool, true, false, cond, not}
use mathlib.Core.List.{List, [], ◌∷◌, ◌++◌}
use lib.ListN.{length, drop}
use lib.Seq.{drop-drop}
use lib.Dec.{leb, ltb}
use borrow.Author.Tests.{eq-eqb, ne_eqb, leb-true}
use Rattle.language.specs.Outcomes
use Rattle.language.specs.Signs.{Bytes}
use Rattle.language.specs.Definitions.{Definition, oldest}
use Rattle.language.specs.Charge.{definitions_price}
use Rattle.language.specs.Scanning.{State, next, Call}
use Rattle.language.specs.Scanning as S
use Rattle.language.specs.Expansion.{limits_of, lent}
use Rattle.memory.specs.Block.{placed}
use Rattle.memory.proofs.Blocks.{placed-length, drop_past_placed}
use Rattle.machine.specs.declared.run.Run.{Run}
use Rattle.machine.specs.Walks.{nowhere, packed, high, low, removed, return_link}
use Rattle.machine.specs.Machine as M
use Rattle.machine.proofs.Stack.{no_call}
use Rattle.machine.proofs.Moves.{Collects, put_hand, made_all, made_laid, made_valid}
use Rattle.machine.proofs.Showing.{shows_of}
use Rattle.machine.proofs.Represents.{Simulates, SimulatesIndexed, goes, stops, output_size}
use Rattle.machine.proofs.Putting.{room_test, writes, collects_placed, call_before}
use Rattle.machine.proofs.Applying.{Applied}
use Rattle.machine.proofs.Items.{encode-append}
use Rattle.machine.proofs.Calling.{gone_index, right_to, links_is, outer_call, release_is, to_above, under_cells, left_definitions, freed, charge_is}
use Rattle.machine.specs.Items.{Item, count}
use Rattle.machine.specs.Frames.{Places, address, items, places, calls}
use Rattle.machine.specs.Index.{Index}
use Rattle.machine.specs.Held.{Shows, Represents}
use Rattle.machine.proofs.Lists.{overwrite}
use Rattle.language.specs.Outcomes.{number_of}
use Rattle.language.specs.declared.outcomes.Outcome.{Outcome}
use Rattle.language.specs.declared.outcomes.Outcome.TheVariants.{NoCellsLeft, NoOutputLeft}

abbrev pub mostly : ℕ → State → State
mostly m s =
    let w = s.standing in
    S.with_standing (record { definitions = w.definitions; output = w.output; read = w.read; scans = w.scans; most = m }) s

-- a placed piece leaves what stands behind it
drop-beyond : (to right : ℕ) (p l : List ℕ) → to + length p ≤ right → to ≤ length l → drop right (placed to p l) ≡ drop right l
drop-beyond to right p l h e =
    let d = right - (to + length p) in
    let is : to + length p + d ≡ right = omega arith in
    ap (λ (k : ℕ). drop k (placed to p l)) (sym is)
    ∙ sym (drop-drop d (to + length p) (placed to p l))
    ∙ ap (drop d) (drop_past_placed to p l e)
    ∙ drop-drop d (to + length p) l
    ∙ ap (λ (k : ℕ). drop k l) is

-- the most that was charged is a count of its own
pub remost : {n : ℕ} {older : List Definition} {heads whole start : List ℕ} {r : Run} {l o : List ℕ} {s : State} (m : ℕ)
    → Represents n older heads whole start r (lent l o) s → Represents n older heads whole start (M.with_most m r) (lent l o) (mostly m s)
remost m h = record {
  frames = h.frames;
  valid = h.valid;
  lies = record {
    stands = h.lies.stands;
    read = h.lies.read;
    scans = h.lies.scans;
    most = refl;
    wrote = h.lies.wrote;
    indexed = h.lies.indexed;
  };
  cells_lent = h.cells_lent;
  ordered = h.ordered;
  in_use = h.in_use;
  places_are = h.places_are;
  lefts_are = h.lefts_are;
  calls_are = h.calls_are;
  bodies_are = h.bodies_are;
  ahead = h.ahead;
  quotes = h.quotes;
}

module _ {n : ℕ} {older : List Definition} {heads whole start : List ℕ} {r : Run} {l o : List ℕ} {s : State}
    (free : definitions_price older ≡ 0) (a : Applied n older heads whole start r (lent l o) s) where
  abbrev b : ℕ
  b = length older

  abbrev U : List Item
  U = items n b a.under

  abbrev p : Places
  p = places n b a.under

  abbrev links : ℕ
  links = packed p.hand p.call

  -- the mark changes nothing that is shown
  applied_shown : Shows older start r (lent l o) s.standing
  applied_shown =
      let made = made_laid n b a.since a.under a.definitions in
      shows_of {heads = heads} (made_all a.since a.under) (made_valid n b a.since a.under a.valid) a.cells_lent
      (a.list_is ∙ ap (λ (q : Places). q.list) (sym made.1))
      (rw made.0 a.lies)

  -- an outcome with nothing changed
  pub refused : (outcome : Outcome) → Simulates n older heads whole start (M.ends outcome r (lent l o)) (S.ends (number_of outcome) s)
  refused outcome = stops (record { answer = refl; shows = applied_shown })

  -- the list gone and nothing in its place
  pub gone : {heads' : List ℕ} → Index n U heads' → Represents n older heads' whole start (M.released r 0 (address n U) links (count a.since)) (lent l o)
      (S.with_calls (calls n b a.under) (S.with_definitions (oldest (b + count U) s.standing.definitions) s))
  gone x = freed a a.under l (oldest (b + count U) s.standing.definitions) a.valid refl refl refl refl a.lies.stands.size refl refl (under_cells a) (left_definitions a) refl x

  -- and the index without what was defined since its `$`, in cells that have the same items
  pub without : (l' : List ℕ) → length l' ≡ n → drop r.right l' ≡ drop r.right l → Index n U (removed l' heads r.right (address n U))
  without l' size same =
      gone_index a a.since U l' a.definitions refl size (same ∙ a.lies.stands.cells ∙ encode-append a.since U) a.lies.indexed

  -- whether a call stands around the applied one
  none_around : calls n b a.under ≡ [] → M.is_outer r l ≡ true
  none_around e = eq-eqb _ _ (ap low (links_is a) ∙ outer_call a ∙ no_call n b a.under e)

  some_around : Collects n b a.under → M.is_outer r l ≡ false
  some_around c =
      let e : low (return_link l r.calls.call) ≡ p.call = ap low (links_is a) ∙ outer_call a in
      let k : p.call < nowhere = omega (arith, call_before n b a.under c, a.call_is, a.left_is, a.room, a.lies.stands.right, a.cells_lent) in
      ne_eqb (low (return_link l r.calls.call)) nowhere (λ (z : low (return_link l r.calls.call) ≡ nowhere). absurd (omega arith))

  -- the standing with the list gone and so much collected
  abbrev placed_at : ℕ → ℕ → ℕ → Run
  placed_at left charge m =
      M.with_calls (record { left = left; call = low links; hand = high links })
      (M.with_right (address n U) (M.with_charge charge (M.with_most m (M.with_live (r.counts.live - count a.since) r))))

  -- a result collected by the call around
  given_in : (bs : Bytes) (X : List ℕ) → Collects n b a.under → (r.charge + length bs ≤ n → X ≡ placed r.calls.call bs l)
      → SimulatesIndexed n older whole start
      (M.unindexed r heads (M.placing (M.give_in r (length bs) (lent l o)) (lent X o)))
      (cond (leb (S.charge s + (1 + length bs)) n)
      (next (S.with_calls (put_hand bs (calls n b a.under)) (S.with_definitions (oldest (b + count U) s.standing.definitions) (S.noting (S.charge s + (1 + length bs)) s))))
      (S.ends Outcomes.no_cells_left s))
  given_in bs X c is = go (leb (r.charge + length bs) n) refl
    where
      below : r.charge ≤ n
      below = omega (arith, a.in_use, a.room, a.lies.stands.right)

      charge_eq : S.charge s + (1 + length bs) ≡ r.charge + length bs
      charge_eq = omega (arith, charge_is a free)

      test : ltb (length l - r.charge) (length bs) ≡ not (leb (r.charge + length bs) n)
      test = ap (λ (k : ℕ). ltb (k - r.charge) (length bs)) a.lies.stands.size ∙ room_test n r.charge (length bs) below

      m : ℕ
      m = max r.counts.most (r.charge + length bs)

      most_eq : m ≡ max s.standing.most (S.charge s + (1 + length bs))
      most_eq = ap (λ (k : ℕ). max k (r.charge + length bs)) a.lies.most ∙ ap (max s.standing.most) (sym charge_eq)

      target : State
      target = S.with_calls (put_hand bs (calls n b a.under)) (S.with_definitions (oldest (b + count U) s.standing.definitions) s)

      ix : List ℕ
      ix = removed X heads r.right (address n U)

      rep : r.charge + length bs ≤ n → Represents n older ix whole start (M.released (M.charged (length bs) r) (length bs) (address n U) links (count a.since)) (lent X o) (mostly (max s.standing.most (S.charge s + (1 + length bs))) target)
      rep e =
          let t = to_above a in
          let t₂ = right_to a in
          let went = r.calls.left - r.calls.call + 1 + (address n U - r.right) in
          let fit : r.charge - went + length bs ≤ n = omega arith in
          let below₂ : r.calls.call + length bs ≤ r.right = omega (arith, a.in_use, a.left_is, a.room, a.lies.stands.right) in
          let size : length X ≡ n = ap length (is e) ∙ placed-length r.calls.call bs l (omega (arith, a.lies.stands.size, a.lies.stands.right)) ∙ a.lies.stands.size in
          let same : drop r.right X ≡ drop r.right l = ap (drop r.right) (is e) ∙ drop-beyond r.calls.call r.right bs l below₂ (omega (arith, a.lies.stands.size, a.lies.stands.right)) in
          let x = without X size same in
          let y = gone x in
          let c₂ : Collects n b y.frames = subst (λ (k : List Call). 0 < length k) y.calls_are c in
          let h = remost m (collects_placed free y bs c₂ fit) in
          let z : r.calls.call + 0 ≡ r.calls.call = omega arith in
          let left_eq : r.calls.call + 0 + length bs ≡ r.calls.call + length bs = omega arith in
          let chargeEq₂ : r.charge - went + length bs ≡ r.charge + length bs - went = omega (arith, a.in_use, a.left_is, a.lies.stands.right) in
          let cellsEq : placed (r.calls.call + 0) bs l ≡ X = ap (λ (k : ℕ). placed k bs l) z ∙ sym (is e) in
          let h₂ = subst (λ (k : List ℕ). Represents n older ix whole start (M.with_most m (M.collected (length bs) (M.released r 0 (address n U) links (count a.since)))) (lent k o) (mostly m target)) cellsEq h in
          let h₃ = subst (λ (k : ℕ). Represents n older ix whole start (placed_at k (r.charge - went + length bs) m) (lent X o) (mostly m target)) left_eq h₂ in
          let h₄ = subst (λ (k : ℕ). Represents n older ix whole start (placed_at (r.calls.call + length bs) k m) (lent X o) (mostly m target)) chargeEq₂ h₃ in
          subst (λ (k : ℕ). Represents n older ix whole start (placed_at (r.calls.call + length bs) (r.charge + length bs - went) m) (lent X o) (mostly k target)) most_eq h₄

      go : (t : Bool) → leb (r.charge + length bs) n ≡ t
          → SimulatesIndexed n older whole start
          (M.unindexed r heads (M.placing (M.give_in r (length bs) (lent l o)) (lent X o)))
          (cond (leb (S.charge s + (1 + length bs)) n)
          (next (S.with_calls (put_hand bs (calls n b a.under)) (S.with_definitions (oldest (b + count U) s.standing.definitions) (S.noting (S.charge s + (1 + length bs)) s))))
          (S.ends Outcomes.no_cells_left s))
      go true e =
          let q = leb-true (r.charge + length bs) n e in
          let t = right_to a in
          let released = release_is a (M.charged (length bs) r) (length bs) o refl refl refl in
          let test₂ : leb (S.charge s + (1 + length bs)) n ≡ true = ap (λ (k : ℕ). leb k n) charge_eq ∙ e in
          rw (test ∙ ap not e, test₂, released) (goes refl (rep q))
      go false e =
          let test₂ : leb (S.charge s + (1 + length bs)) n ≡ false = ap (λ (k : ℕ). leb k n) charge_eq ∙ e in
          rw (test ∙ ap not e, test₂) (refused NoCellsLeft)

  -- a result that goes to the output
  given_out : (bs : Bytes) (O : List ℕ) → calls n b a.under ≡ [] → (length s.standing.output + length bs ≤ length start → O ≡ placed r.counts.written bs o)
      → SimulatesIndexed n older whole start
      (M.unindexed r heads (M.placing (M.give_out r (length bs) (lent l o)) (lent l O)))
      (cond (leb (length s.standing.output + length bs) (length start))
      (next (S.with_calls [] (S.with_definitions (oldest (b + count U) s.standing.definitions) (S.with_output (s.standing.output ++ bs) s))))
      (S.ends Outcomes.no_output_left s))
  given_out bs O None is = go (leb (length s.standing.output + length bs) (length start)) refl
    where
      ix : List ℕ
      ix = removed l heads r.right (address n U)

      test : ltb (length o - r.counts.written) (length bs) ≡ not (leb (length s.standing.output + length bs) (length start))
      test =
          ap (λ (k : ℕ). ltb (k - r.counts.written) (length bs)) (output_size a.lies)
          ∙ ap (λ (k : ℕ). ltb (length start - k) (length bs)) a.lies.wrote.written
          ∙ room_test (length start) (length s.standing.output) (length bs) a.lies.wrote.enough

      go : (t : Bool) → leb (length s.standing.output + length bs) (length start) ≡ t
          → SimulatesIndexed n older whole start
          (M.unindexed r heads (M.placing (M.give_out r (length bs) (lent l o)) (lent l O)))
          (cond t (next (S.with_calls [] (S.with_definitions (oldest (b + count U) s.standing.definitions) (S.with_output (s.standing.output ++ bs) s)))) (S.ends Outcomes.no_output_left s))
      go true e =
          let q = leb-true (length s.standing.output + length bs) (length start) e in
          let t = to_above a in
          let released = release_is a (M.wrote (length bs) r) 0 o refl refl refl in
          let outEq : (s.standing.output ++ bs) ++ drop (length (s.standing.output ++ bs)) start ≡ O =
          sym (is q ∙ ap (λ (k : ℕ). placed k bs o) a.lies.wrote.written ∙ ap (placed (length s.standing.output) bs) a.lies.wrote.output ∙ overwrite s.standing.output start bs q) in
          let h = subst (λ (k : List Call). Represents n older ix whole start (M.wrote (length bs) (M.released r 0 (address n U) links (count a.since))) (lent l ((s.standing.output ++ bs) ++ drop (length (s.standing.output ++ bs)) start))
          (S.with_output (s.standing.output ++ bs) (S.with_calls k (S.with_definitions (oldest (b + count U) s.standing.definitions) s)))) None (writes free (gone (without l a.lies.stands.size refl)) bs q) in
          rw (test ∙ ap not e, released)
          (goes refl (subst (λ (k : List ℕ). Represents n older ix whole start (M.wrote (length bs) (M.released r 0 (address n U) links (count a.since))) (lent l k)
          (S.with_output (s.standing.output ++ bs) (S.with_calls [] (S.with_definitions (oldest (b + count U) s.standing.definitions) s)))) outEq h))
      go false e = rw (test ∙ ap not e) (refused NoOutputLeft)

  -- by whether a call stands around
  pub give_sim : (bs : Bytes) (X O : List ℕ) → (r.charge + length bs ≤ n → X ≡ placed r.calls.call bs l)
      → (length s.standing.output + length bs ≤ length start → O ≡ placed r.counts.written bs o)
      → SimulatesIndexed n older whole start
      (M.unindexed r heads (M.placing (M.give r (length bs) (lent l o)) (cond (M.is_outer r l) (lent l O) (lent X o))))
      (S.give (limits_of n (length start)) (calls n b a.under) (record { ended = a.ended; hand = a.hand; stood = b + count U }) bs s)
  give_sim bs X O x y = go (calls n b a.under) refl
    where
      go : (cs : List Call) → calls n b a.under ≡ cs
          → SimulatesIndexed n older whole start
          (M.unindexed r heads (M.placing (M.give r (length bs) (lent l o)) (cond (M.is_outer r l) (lent l O) (lent X o))))
          (S.give (limits_of n (length start)) cs (record { ended = a.ended; hand = a.hand; stood = b + count U }) bs s)
      go [] e = rw (none_around e) (given_out bs O e y)
      go (k ∷ cs) e =
          let c : Collects n b a.under = rw e (omega arith) in
          rw (some_around c)
          (subst (λ (z : List Call). SimulatesIndexed n older whole start
          (M.unindexed r heads (M.placing (M.give_in r (length bs) (lent l o)) (lent X o)))
          (cond (leb (S.charge s + (1 + length bs)) n)
          (next (S.with_calls (put_hand bs z) (S.with_definitions (oldest (b + count U) s.standing.definitions) (S.noting (S.charge s + (1 + length bs)) s))))
          (S.ends Outcomes.no_cells_left s)))
          e (given_in bs X c x))
