-- The order of frames, and sizes: what holds of every state that a run reaches.
use Prim.Native.Nat.{ℕ, zero, suc, ◌≤◌, ◌<◌, ◌+◌, zero-le}
use native.Mathlib.Omega.{arith}
use mathlib.Core.Path.{◌≡◌, refl, sym, subst}
use mathlib.Core.Bool.{Bool, true, false}
use mathlib.Core.List.{List, [], ◌∷◌, ◌++◌}
use Rattle.std.specs.Prelude.{Option, None, Some}
use lib.ListN.{length, length-append}
use lib.Dec.{ltb}
use borrow.Author.Tests.{ltb-true, ltb-false}
use Rattle.language.specs.Signs.{Bytes, Language, Meaning, copied, left_out, opens, separates, applies, fetches, unquotes, meaning}
use Rattle.language.specs.Definitions.{Definition, defined, altered, oldest, without}
use Rattle.language.specs.BuiltIns.{Deed, reads, defines, gives, alters, faulty, deed, parameter}
use Rattle.language.specs.Charge.{open_price, end_price, arguments_price, list_price, definition_price, definitions_price}
use Rattle.language.specs.Ends.{End}
use Rattle.language.specs.Scanning.{State, Standing, Call, Body, Step, next, Limits, calls_below}
use Rattle.language.specs.Scanning as S
use Rattle.language.proofs.Deeds.{Does, to_read, to_define, to_give, to_alter, to_fail, deed_does}
use Rattle.language.proofs.Prices.{arguments_last, price_split, price_without, price_altered, length-altered, length-oldest, length_without}
use Rattle.language.proofs.Leads.{Leads, goes_on, ended, charging_leads, writing_leads, scans_lead}

-- 1. Frames ----------------------------------------------------------------------------------------------------------

-- The calls being collected and the bodies being read, in the order in which they began, where n definitions stand. A call
-- is collected in the body, or the text, in which it was opened. What stood at a frame's `$` still stands at its `;` and
-- now, and a definition whose body is being read stood at that body's `;`, so it is older than all that a later call drops.
pub data Frames : List Call → List Body → ℕ → Type 0 where
  outermost : {n : ℕ} → Frames [] [] n
  collecting : {c : Call} {cs : List Call} {bs : List Body} {n : ℕ}
      → c.stood ≤ n → calls_below bs ≤ length cs → Frames cs bs c.stood → Frames (c ∷ cs) bs n
  reading : {b : Body} {cs : List Call} {bs : List Body} {n : ℕ}
      → b.calls ≡ length cs → b.number < b.applied → b.opened ≤ b.applied → b.applied ≤ n → Frames cs bs b.opened → Frames cs (b ∷ bs) n

-- more definitions stand
pub frames_more : {cs : List Call} {bs : List Body} {n m : ℕ} → Frames cs bs n → n ≤ m → Frames cs bs m
frames_more outermost h = outermost
frames_more {m} (collecting {c = c} a b f) h = let k : c.stood ≤ m = omega arith in collecting k b f
frames_more {m} (reading {b = body} a b c d f) h = let k : body.applied ≤ m = omega arith in reading a b c k f

-- only what a call collected changes
pub frames_call : {c c' : Call} {cs : List Call} {bs : List Body} {n : ℕ} → c'.stood ≡ c.stood → Frames (c ∷ cs) bs n → Frames (c' ∷ cs) bs n
frames_call {c' = c'} {cs = cs} e (collecting {bs = bs} {n = n} a b f) =
    let k : c'.stood ≤ n = omega arith in
    collecting k b (subst (Frames cs bs) (sym e) f)
frames_call e (reading a b c d f) = reading a b c d (frames_call e f)

-- only the rest of a body changes
pub frames_rest : {b : Body} {cs : List Call} {bs : List Body} {n : ℕ} (r : Bytes) → Frames cs (b ∷ bs) n → Frames cs (S.with_rest r b ∷ bs) n
frames_rest r (collecting a b f) = collecting a b (frames_rest r f)
frames_rest r (reading a b c d f) = reading a b c d f

pub frames_below : {cs : List Call} {bs : List Body} {n : ℕ} → Frames cs bs n → calls_below bs ≤ length cs
frames_below outermost = zero-le
frames_below (collecting a b f) = omega arith
frames_below (reading a b c d f) = omega arith

-- A call is applied in the body in which it was opened: where a call of the body being read is open, the innermost frame
-- is that call; where none is, it is the body
pub frames_own : {c : Call} {cs : List Call} {bs : List Body} {n : ℕ} → Frames (c ∷ cs) bs n → calls_below bs < length (c ∷ cs)
    → (c.stood ≤ n) × (calls_below bs ≤ length cs) × Frames cs bs c.stood
frames_own (collecting a b f) h = (a, b, f)
frames_own (reading a b c d f) h = absurd (omega arith)

pub frames_body : {b : Body} {cs : List Call} {bs : List Body} {n : ℕ} → Frames cs (b ∷ bs) n → length cs ≤ b.calls
    → (b.opened ≤ b.applied) × (b.applied ≤ n) × Frames cs bs b.opened
frames_body (collecting a b f) h = absurd (omega arith)
frames_body (reading a b c d f) h = (c, d, f)

-- 2. What the definitions found and made cost ------------------------------------------------------------------------

-- what a deed must keep: a body that is read is that of a standing definition, and a new definition costs no more than the
-- list that is exchanged for it
abbrev pub Allowed : List Bytes → List Definition → Deed → Type 0
Allowed list ds (reads k v) = k < length ds
Allowed list ds (defines n v) = definition_price (defined n v) ≤ list_price list
Allowed list ds (gives bs) = Unit {0}
Allowed list ds (alters k change) = Unit {0}
Allowed list ds (faulty n) = Unit {0}

-- three arguments at least, the first two parameters among them
three_cost : (list : List Bytes) → 2 < length list → length (parameter 1 list) + length (parameter 2 list) + 2 ≤ arguments_price list
unfolding arguments_price
three_cost [] h = absurd (omega arith)
three_cost (a ∷ []) h = absurd (omega arith)
three_cost (a ∷ b ∷ []) h = absurd (omega arith)
three_cost (a ∷ b ∷ c ∷ more) h = omega arith

pub deed_allowed : (busy : List ℕ) (list : List Bytes) (ds : List Definition) → Allowed list ds (deed busy list ds)
deed_allowed busy list ds = go (deed_does busy list ds)
  where
    go : {D : Deed} → Does list ds D → Allowed list ds D
    go (to_read stands) = stands
    go (to_define long name) = omega (arith, three_cost list long)
    go to_give = tt
    go to_alter = tt
    go (to_fail of_text) = tt

-- 3. The invariant ---------------------------------------------------------------------------------------------------

-- N is the length of the text
pub record Invariant (N : ℕ) (s : State) : Type 0 where
  pub framed : Frames s.calls s.bodies (length s.standing.definitions)
  pub afforded : S.charge s ≤ s.standing.most
  pub text : s.standing.read + length s.text ≡ N

abbrev pub ReadWithin : ℕ → End → Type 0
ReadWithin N e = e.read ≤ N

abbrev Kept : ℕ → Step → Type 0
Kept N t = Leads (Invariant N) (ReadWithin N) t

abbrev state : Bytes → ℕ → List Call → List Body → Standing → State
state t q cs bs w = record { text = t; quotes = q; calls = cs; bodies = bs; standing = w }

module _ (L : Limits) (N : ℕ) where
  -- a refused scan
  refused' : (n : ℕ) (s : State) → Invariant N s → Kept N (S.ends n s)
  refused' n s i = let h : s.standing.read ≤ N = omega (arith, i.text) in ended h

  put_kept : (t : Bytes) (q : ℕ) (cs : List Call) (bs : List Body) (w : Standing) (p : Bytes) → Invariant N (state t q cs bs w)
      → Kept N (S.put L p (state t q cs bs w))
  unfolding S.calls_charge
  put_kept t q [] bs w p i =
      let s = state t q [] bs w in
      let j : Invariant N (S.with_output (w.output ++ p) s) = record { framed = i.framed; afforded = i.afforded; text = i.text } in
      writing_leads L p s (goes_on j) (refused' _ s i)
  put_kept t q (c ∷ cs) bs w p i =
      let s = state t q (c ∷ cs) bs w in
      let j : Invariant N (S.with_calls (S.with_hand (c.hand ++ p) c ∷ cs) (S.noting (S.charge s + length p) s)) =
      record { framed = frames_call refl i.framed; afforded = omega (arith, length-append c.hand p); text = i.text } in
      charging_leads L (length p) s (goes_on j) (refused' _ s i)

  open_kept : (s : State) → Invariant N s → Kept N (S.open_call L s)
  unfolding S.calls_charge arguments_price
  open_kept s i =
      let s₁ = S.noting (S.charge s + open_price) s in
      let h : length s.standing.definitions ≤ length s.standing.definitions = omega arith in
      let j : Invariant N (S.with_calls (S.new_call s₁ ∷ s.calls) s₁) =
      record { framed = collecting h (frames_below i.framed) i.framed; afforded = omega arith; text = i.text } in
      charging_leads L open_price s (goes_on j) (refused' _ s i)

  separate_kept : (t : Bytes) (q : ℕ) (cs : List Call) (bs : List Body) (w : Standing) (b : ℕ) → Invariant N (state t q cs bs w)
      → Kept N (S.separate L cs b (state t q cs bs w))
  unfolding S.calls_charge
  separate_kept t q [] bs w b i = put_kept t q [] bs w (b ∷ []) i
  separate_kept t q (c ∷ cs) bs w b i =
      let s = state t q (c ∷ cs) bs w in
      let j : Invariant N (S.with_calls (S.separated c ∷ cs) (S.noting (S.charge s + end_price) s)) =
      record { framed = frames_call refl i.framed; afforded = omega (arith, arguments_last c.ended c.hand); text = i.text } in
      charging_leads L end_price s (goes_on j) (refused' _ s i)

  -- the call c is applied, its `;` being charged
  module _ (t : Bytes) (q : ℕ) (c : Call) (bs : List Body) (w : Standing) where
    give_kept : (cs : List Call) (p : Bytes) → Invariant N (state t q (c ∷ cs) bs w) → calls_below bs < length (c ∷ cs)
        → Kept N (S.give L cs c p (state t q (c ∷ cs) bs w))
    unfolding S.calls_charge
    give_kept [] p i own =
        let s = state t q (c ∷ []) bs w in
        let f = frames_own i.framed own in
        let j : Invariant N (S.with_calls [] (S.with_definitions (oldest c.stood w.definitions) (S.with_output (w.output ++ p) s))) =
        record {
          framed = frames_more f.2 (omega (arith, length-oldest c.stood w.definitions f.0));
          afforded = omega (arith, i.afforded, price_split c.stood w.definitions);
          text = i.text;
        } in
        writing_leads L p s (goes_on j) (refused' _ s i)
    give_kept (o ∷ cs) p i own =
        let s = state t q (c ∷ o ∷ cs) bs w in
        let f = frames_own i.framed own in
        let s₁ = S.noting (S.charge s + (end_price + length p)) s in
        let j : Invariant N (S.with_calls (S.with_hand (o.hand ++ p) o ∷ cs) (S.with_definitions (oldest c.stood w.definitions) s₁)) =
        record {
          framed = frames_call refl (frames_more f.2 (omega (arith, length-oldest c.stood w.definitions f.0)));
          afforded = omega (arith, length-append o.hand p, price_split c.stood w.definitions);
          text = i.text;
        } in
        charging_leads L (end_price + length p) s (goes_on j) (refused' _ s i)

    perform_kept : (cs : List Call) (D : Deed) → Invariant N (state t q (c ∷ cs) bs w) → calls_below bs < length (c ∷ cs)
        → S.charge (state t q (c ∷ cs) bs w) + end_price ≤ w.most → Allowed (S.list_of c) w.definitions D
        → Kept N (S.perform L D c cs (state t q (c ∷ cs) bs w))
    unfolding S.calls_charge S.bodies_charge definitions_price
    perform_kept cs (reads k v) i own paid a =
        let s = state t q (c ∷ cs) bs w in
        let f = frames_own i.framed own in
        let h : length w.definitions ≤ length w.definitions = omega arith in
        let j : Invariant N (S.with_bodies (S.new_body k v c cs s ∷ bs) (S.with_calls cs s)) =
        record { framed = reading refl a f.0 h f.2; afforded = omega (arith, arguments_last c.ended c.hand); text = i.text } in
        goes_on j
    perform_kept cs (defines n v) i own paid a =
        let s = state t q (c ∷ cs) bs w in
        let f = frames_own i.framed own in
        let j : Invariant N (S.with_calls cs (S.with_definitions (defined n v ∷ oldest c.stood w.definitions) s)) =
        record {
          framed = frames_more f.2 (omega (arith, length-oldest c.stood w.definitions f.0));
          afforded = omega (arith, arguments_last c.ended c.hand, price_split c.stood w.definitions);
          text = i.text;
        } in
        goes_on j
    perform_kept cs (gives p) i own paid a = give_kept cs p i own
    perform_kept cs (alters k change) i own paid a =
        let s = state t q (c ∷ cs) bs w in
        let f = frames_own i.framed own in
        let ds = altered k change w.definitions in
        let l = length-altered k change w.definitions in
        let j : Invariant N (S.with_calls cs (S.with_definitions (oldest c.stood ds) s)) =
        record {
          framed = frames_more f.2 (omega (arith, length-oldest c.stood ds (omega (arith, f.0))));
          afforded = omega (arith, i.afforded, price_altered k change w.definitions, price_split c.stood ds);
          text = i.text;
        } in
        goes_on j
    perform_kept cs (faulty n) i own paid a = refused' n (state t q (c ∷ cs) bs w) i

  apply_innermost_kept : (t : Bytes) (q : ℕ) (cs : List Call) (bs : List Body) (w : Standing) → Invariant N (state t q cs bs w) → calls_below bs < length cs
      → Kept N (S.apply_innermost L cs (state t q cs bs w))
  apply_innermost_kept t q [] bs w i own = absurd (omega arith)
  apply_innermost_kept t q (c ∷ cs) bs w i own =
      let s = state t q (c ∷ cs) bs w in
      let s₁ = S.noting (S.charge s + end_price) s in
      let j : Invariant N s₁ = record { framed = i.framed; afforded = omega (arith, i.afforded); text = i.text } in
      charging_leads L end_price s (perform_kept t q c bs s₁.standing cs (deed (S.reading bs) (S.list_of c) w.definitions) j own (omega arith)
      (deed_allowed (S.reading bs) (S.list_of c) w.definitions)) (refused' _ s i)

  apply_kept : (o : Bool) (b : ℕ) (s : State) → Invariant N s → S.own_call s ≡ o → Kept N (S.apply L o b s)
  apply_kept true b s i e = apply_innermost_kept s.text s.quotes s.calls s.bodies s.standing i (ltb-true _ _ e)
  apply_kept false b s i e = none_kept s.bodies
    where
      none_kept : (bs : List Body) → Kept N (S.apply_none L bs b s)
      none_kept [] = put_kept s.text s.quotes s.calls s.bodies s.standing (b ∷ []) i
      none_kept (body ∷ bodies) = refused' _ s i

  put_kept' : (p : Bytes) (s : State) → Invariant N s → Kept N (S.put L p s)
  put_kept' p s i = put_kept s.text s.quotes s.calls s.bodies s.standing p i

  -- the rest of the body being read changes
  rest_kept : (t : Bytes) (q : ℕ) (cs : List Call) (b : Body) (bs : List Body) (w : Standing) (r : Bytes)
      → Invariant N (state t q cs (b ∷ bs) w) → Invariant N (state t q cs (S.with_rest r b ∷ bs) w)
  unfolding S.bodies_charge
  rest_kept t q cs b bs w r i = record { framed = frames_rest r i.framed; afforded = i.afforded; text = i.text }

  fetch_kept : (G : Language) (t : Bytes) (q : ℕ) (cs : List Call) (bs : List Body) (w : Standing) (b : ℕ) → Invariant N (state t q cs bs w)
      → Kept N (S.fetch L G bs b (state t q cs bs w))
  fetch_kept G t q [] [] w b i = put_kept t q [] [] w (b ∷ []) i
  fetch_kept G t q (c ∷ cs) [] w b i = refused' _ (state t q (c ∷ cs) [] w) i
  fetch_kept G t q cs (body ∷ bodies) w b i = next' body.rest
    where
      s : State
      s = state t q cs (body ∷ bodies) w

      supplied : (o : Bool) (p r : Bytes) → Kept N (S.fetch_supplied L o p (S.with_bodies (S.with_rest r body ∷ bodies) s))
      supplied true p r = put_kept t q cs (S.with_rest r body ∷ bodies) w p (rest_kept t q cs body bodies w r i)
      supplied false p r = refused' _ (S.with_bodies (S.with_rest r body ∷ bodies) s) (rest_kept t q cs body bodies w r i)

      number' : (j : Option ℕ) (r : Bytes) → Kept N (S.fetch_number L j body.list (S.with_bodies (S.with_rest r body ∷ bodies) s))
      number' None r = refused' _ (S.with_bodies (S.with_rest r body ∷ bodies) s) (rest_kept t q cs body bodies w r i)
      number' (Some k) r = supplied (ltb k (length body.list)) (parameter k body.list) r

      next' : (r : Bytes) → Kept N (S.fetch_in_body L G r body bodies s)
      next' [] = refused' _ s i
      next' (x ∷ r) = number' (G.parameter_number x) r

  byte_kept : (G : Language) (M : Meaning) (b : ℕ) (s : State) → Invariant N s → Kept N (S.byte L G M b s)
  byte_kept G (copied q) b s i = put_kept' (b ∷ []) (S.with_quotes q s) (record { framed = i.framed; afforded = i.afforded; text = i.text })
  byte_kept G (left_out q) b s i = goes_on (record { framed = i.framed; afforded = i.afforded; text = i.text })
  byte_kept G opens b s i = open_kept s i
  byte_kept G separates b s i = separate_kept s.text s.quotes s.calls s.bodies s.standing b i
  byte_kept G applies b s i = apply_kept (S.own_call s) b s i refl
  byte_kept G fetches b s i = fetch_kept G s.text s.quotes s.calls s.bodies s.standing b i
  byte_kept G unquotes b s i = go s.bodies s.calls
    where
      go : (bs : List Body) (cs : List Call) → Kept N (S.unquote L bs cs b s)
      go [] [] = refused' _ s i
      go [] (c ∷ cs) = refused' _ s i
      go (body ∷ bodies) cs = put_kept' (b ∷ []) s i

  -- the end of a body: its list goes, with the definitions made while it was collected
  body_end_kept : (t : Bytes) (q : ℕ) (cs : List Call) (b : Body) (bs : List Body) (w : Standing) (o : Bool)
      → S.own_call (state t q cs (b ∷ bs) w) ≡ o → Invariant N (state t q cs (b ∷ bs) w)
      → Kept N (S.body_end L o b bs (state t q cs (b ∷ bs) w))
  unfolding S.bodies_charge
  body_end_kept t q cs b bs w true e i = refused' _ (state t q cs (b ∷ bs) w) i
  body_end_kept t q cs b bs w false e i =
      let f = frames_body i.framed (ltb-false _ _ e) in
      let ds = w.definitions in
      let s = state t q cs (b ∷ bs) w in
      let j : Invariant N (S.with_quotes 0 (S.with_bodies bs (S.with_definitions (without b.opened b.applied ds) s))) =
      record {
        framed = frames_more f.2 (length_without b.opened b.applied ds f.0 f.1);
        afforded = omega (arith, i.afforded, price_without b.opened b.applied ds f.0 f.1);
        text = i.text;
      } in
      goes_on j

  counted_kept : (s : State) → Invariant N s → Invariant N (S.counting 0 s)
  counted_kept s i = record { framed = i.framed; afforded = i.afforded; text = omega (arith, i.text) }

  -- Every scan keeps the invariant.
  pub invariant_kept : (G : Language) (s : State) → Invariant N s → Kept N (S.scan L G s)
  unfolding S.scan
  invariant_kept G s i = go s.text s.bodies i
    where
      in_body : (t : Bytes) (b : Body) (bs : List Body) (r : Bytes) → b.rest ≡ r → Invariant N (state t s.quotes s.calls (b ∷ bs) s.standing)
          → Kept N (S.from_body L G r b bs (state t s.quotes s.calls (b ∷ bs) s.standing))
      in_body t b bs [] e i =
          body_end_kept t s.quotes s.calls b bs (S.counting 0 s).standing _ refl (counted_kept (state t s.quotes s.calls (b ∷ bs) s.standing) i)
      in_body t b bs (x ∷ r) e i =
          byte_kept G (meaning G.table s.quotes x) x _
          (rest_kept t s.quotes s.calls b bs (S.counting 0 s).standing r (counted_kept (state t s.quotes s.calls (b ∷ bs) s.standing) i))

      go : (t : Bytes) (bs : List Body) → Invariant N (state t s.quotes s.calls bs s.standing)
          → Kept N (S.from L G bs t (state t s.quotes s.calls bs s.standing))
      go [] [] i = text_kept s.quotes s.calls
        where
          text_kept : (q : ℕ) (cs : List Call) → Kept N (S.text_end L q cs (S.counting 0 (state [] s.quotes s.calls [] s.standing)))
          text_kept (suc q) cs = refused' _ _ (counted_kept (state [] s.quotes s.calls [] s.standing) i)
          text_kept zero [] = refused' _ _ (counted_kept (state [] s.quotes s.calls [] s.standing) i)
          text_kept zero (c ∷ cs) = refused' _ _ (counted_kept (state [] s.quotes s.calls [] s.standing) i)
      go (b ∷ t) [] i =
          let s₁ = S.with_text t (S.counting 1 (state (b ∷ t) s.quotes s.calls [] s.standing)) in
          let j : Invariant N s₁ = record { framed = i.framed; afforded = i.afforded; text = omega (arith, i.text) } in
          byte_kept G (meaning G.table s.quotes b) b s₁ j
      go t (b ∷ bs) i = in_body t b bs b.rest refl i

-- It holds of the fresh standing, so of every state that a run reaches; and no end has read more than the text.
pub invariant_start : (t : Bytes) (ds : List Definition) → Invariant (length t) (S.start t ds)
unfolding S.calls_charge S.bodies_charge
invariant_start t ds = record { framed = outermost; afforded = omega arith; text = omega arith }

pub invariant_always : (L : Limits) (G : Language) (t : Bytes) (ds : List Definition) (n : ℕ)
    → Leads (Invariant (length t)) (ReadWithin (length t)) (S.scans L G n (next (S.start t ds)))
invariant_always L G t ds n = scans_lead L G (invariant_kept L (length t) G) n (next (S.start t ds)) (goes_on (invariant_start t ds))
