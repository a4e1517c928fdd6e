-- The two definitions agree.
use Prim.Native.Nat.{ℕ, zero, suc, ◌≤◌, ◌<◌, ◌+◌, zero-le}
use native.Mathlib.Omega.{arith}
use mathlib.Core.Path.{◌≡◌, refl, sym, ◌∙◌, ap}
use mathlib.Core.Bool.{Bool, true, false}
use mathlib.Core.List.{List, [], ◌∷◌, ◌++◌, append-nil, append_assoc}
use Rattle.std.specs.Prelude.{Option, None, Some}
use mathlib.Core.Logic.{◌↔◌}
use lib.ListN.{length, length-append}
use lib.Dec.{ltb, leb-suc-suc, lt→ltb}
use lib.Ieee.Bits.{is_true}
use Rattle.language.specs.declared.signs.Sign.{Sign}
use Rattle.language.specs.declared.signs.Sign.TheVariants.{Plain, Dollar, Comma, Semicolon, Tilde, Quote, Unquote}
use Rattle.language.specs.Signs.{Bytes, Language, copied, meaning, outside, inside, closes_to, sign_of}
use Rattle.language.specs.Definitions.{Definition, defined, altered, oldest, newer, between, without}
use Rattle.language.specs.BuiltIns.{Deed, reads, defines, gives, alters, faulty, deed, parameter}
use Rattle.language.specs.Charge.{open_price, end_price, arguments_price, list_price, definitions_price}
use Rattle.language.specs.Ends.{End}
use Rattle.language.specs.Scanning.{State, Standing, Step, next, stop, Call, Body, no_limits}
use Rattle.language.specs.Scanning as S
use Rattle.language.specs.Substitution.{Handed, Held, Value, Result, Source, text, body, Collecting, no_call, outer, own, Eval, Go, within, eval, substituted, joined, joined_by, no_value, extended, divided, fresh, handing, scanned_byte, scanned_end}
use Rattle.language.specs.Substitution as R
use Rattle.language.proofs.Prices.{arguments_last, price_split, price_without, price_altered, length-altered, length-oldest, length_without}
use Rattle.language.proofs.Runs.{scan, scans, Gets, now, any, Comes, to_stretch, to_finish, to_deeper, after, weaker, then_comes, scans_gets, gets_scans, gets_once, not_longer, scans_more}

-- 1. Values joined ---------------------------------------------------------------------------------------------------

joined_none : (v : Value) → joined v no_value ≡ v
joined_none v = ap (λ (x : Bytes). record { pieces = v.pieces; hand = x }) (append-nil v.hand)

joined_extended : (v : Value) (ps : List Bytes) (hand bs : Bytes) → joined_by v ps (hand ++ bs) ≡ extended bs (joined_by v ps hand)
joined_extended v [] hand bs = ap (λ (x : Bytes). record { pieces = v.pieces; hand = x }) (sym (append_assoc v.hand hand bs))
joined_extended v (p ∷ ps) hand bs = refl

joined_divided : (v : Value) (ps : List Bytes) (hand : Bytes) → joined_by v (ps ++ (hand ∷ [])) [] ≡ divided (joined_by v ps hand)
joined_divided v [] hand = refl
joined_divided v (p ∷ ps) hand =
    ap (λ (x : List Bytes). record { pieces = x; hand = [] }) (sym (append_assoc v.pieces ((v.hand ++ p) ∷ ps) (hand ∷ [])))

joined_assoc : (v : Value) (ps : List Bytes) (hand : Bytes) (ps₂ : List Bytes) (hand₂ : Bytes)
    → joined_by (joined_by v ps hand) ps₂ hand₂ ≡ joined v (joined_by (record { pieces = ps; hand = hand }) ps₂ hand₂)
joined_assoc v [] hand [] hand₂ = ap (λ (x : Bytes). record { pieces = v.pieces; hand = x }) (append_assoc v.hand hand hand₂)
joined_assoc v [] hand (p ∷ ps₂) hand₂ = ap (λ (x : Bytes). record { pieces = v.pieces ++ (x ∷ ps₂); hand = hand₂ }) (append_assoc v.hand hand p)
joined_assoc v (x ∷ xs) hand [] hand₂ = refl
joined_assoc v (x ∷ xs) hand (p ∷ ps₂) hand₂ =
    ap (λ (z : List Bytes). record { pieces = z; hand = hand₂ }) (append_assoc v.pieces ((v.hand ++ x) ∷ xs) ((hand ++ p) ∷ ps₂))

-- 2. Where a stretch stands in a state of the machine ----------------------------------------------------------------

-- its source: the text; or a body, with the text and the other bodies behind it
pub data Frame : Type 0 where
  in_text : Frame
  in_body : Body → Bytes → List Body → Frame

-- what collects its value: the output; a call begun outside of the source, behind what that call has; a call of its own. A
-- call is given with the number of definitions at its `$`
pub data Calls : Type 0 where
  to_output : Calls
  to_outer : Value → ℕ → List Call → Calls
  to_own : ℕ → List Call → Calls

abbrev pub source_of : Frame → Source
source_of in_text = text
source_of (in_body B t bs) = body B.list

abbrev pub text_of : Frame → Bytes → Bytes
text_of in_text r = r
text_of (in_body B t bs) r = t

abbrev pub bodies_of : Frame → Bytes → List Body
bodies_of in_text r = []
bodies_of (in_body B t bs) r = S.with_rest r B ∷ bs

abbrev pub below_of : Frame → ℕ
below_of in_text = 0
below_of (in_body B t bs) = B.calls

abbrev pub collecting_of : Calls → Collecting
collecting_of to_output = no_call
collecting_of (to_outer w k cs) = outer
collecting_of (to_own k cs) = own

abbrev pub call_of : Value → ℕ → Call
call_of v k = record { ended = v.pieces; hand = v.hand; stood = k }

-- the open calls, v being the value so far
abbrev pub calls_of : Calls → Value → List Call
calls_of to_output v = []
calls_of (to_outer w k cs) v = call_of (joined w v) k ∷ cs
calls_of (to_own k cs) v = call_of v k ∷ cs

-- what collects the value of a body that is read here
abbrev pub body_calls : Calls → Value → Calls
body_calls to_output v = to_output
body_calls (to_outer w k cs) v = to_outer (joined w v) k cs
body_calls (to_own k cs) v = to_outer v k cs

abbrev pub width : Calls → ℕ
width to_output = 0
width (to_outer w k cs) = suc (length cs)
width (to_own k cs) = suc (length cs)

abbrev pub is_own : Collecting → Bool
is_own no_call = false
is_own outer = false
is_own own = true

abbrev pub standing_of : Handed → Standing
standing_of x = record { definitions = x.definitions; output = x.output; read = x.read; scans = x.scans; most = x.most }

-- the state with r to be read, at a depth q of quotes
abbrev pub at : Frame → Calls → ℕ → Bytes → Held → State
at F C q r h = record {
  text = text_of F r;
  quotes = q;
  calls = calls_of C h.value;
  bodies = bodies_of F r;
  standing = standing_of h.handed;
}

-- what substitution was told of the stretch is so in the state
pub record Fits (F : Frame) (C : Calls) (reading : List ℕ) : Type 0 where
  pub is : ltb (below_of F) (width C) ≡ is_own (collecting_of C)
  pub room : below_of F ≤ width C
  pub busy : reading ≡ S.reading (bodies_of F [])

abbrev pub total : Frame → Calls → Value → List Definition → ℕ
total F C v ds = S.calls_charge (calls_of C v) + S.bodies_charge (bodies_of F []) + definitions_price ds

-- what is handed on is so in the state: the charge is the machine's sum, and the definitions that stood at first still stand
pub record Good (F : Frame) (C : Calls) (base : ℕ) (h : Held) : Type 0 where
  pub charged : h.handed.charge ≡ total F C h.value h.handed.definitions
  pub grown : base ≤ length h.handed.definitions

-- the step by which the machine comes to the end of a stretch
abbrev pub left : Frame → Calls → Held → Step
left in_text C h = S.ends 0 (at in_text C 0 [] h)
left (in_body B t bs) C h =
    next (record {
      text = t;
      quotes = 0;
      calls = calls_of C h.value;
      bodies = bs;
      standing = S.standing_with (without B.opened B.applied h.handed.definitions) h.handed.output (standing_of h.handed);
    })

abbrev pub behind : Frame → Calls → Bytes → Held → Step
behind F to_output r h = left F to_output h
behind F (to_outer w k cs) r h = left F (to_outer w k cs) h
behind F (to_own k cs) r h = S.apply_innermost no_limits (calls_of (to_own k cs) h.value) (at F (to_own k cs) 0 r h)

-- 3. One case after another ------------------------------------------------------------------------------------------

bodies_at : (F : Frame) (r : Bytes) → S.bodies_charge (bodies_of F r) ≡ S.bodies_charge (bodies_of F [])
unfolding S.bodies_charge
bodies_at in_text r = refl
bodies_at (in_body B t bs) r = refl

reading_at : (F : Frame) (r : Bytes) → S.reading (bodies_of F r) ≡ S.reading (bodies_of F [])
unfolding S.reading
reading_at in_text r = refl
reading_at (in_body B t bs) r = refl

below_at : (F : Frame) (r : Bytes) → S.calls_below (bodies_of F r) ≡ below_of F
below_at in_text r = refl
below_at (in_body B t bs) r = refl

calls_length : (C : Calls) (v : Value) → length (calls_of C v) ≡ width C
calls_length to_output v = refl
calls_length (to_outer w k cs) v = refl
calls_length (to_own k cs) v = refl

body_calls_of : (C : Calls) (v v₂ : Value) → calls_of (body_calls C v) v₂ ≡ calls_of C (joined v v₂)
body_calls_of to_output v v₂ = refl
body_calls_of (to_outer w k cs) v v₂ = rw (joined_assoc w v.pieces v.hand v₂.pieces v₂.hand)
body_calls_of (to_own k cs) v v₂ = refl

body_behind : (F' : Frame) (C : Calls) (v : Value) (r : Bytes) (h : Held) → behind F' (body_calls C v) r h ≡ left F' (body_calls C v) h
body_behind F' to_output v r h = refl
body_behind F' (to_outer w k cs) v r h = refl
body_behind F' (to_own k cs) v r h = refl

body_collecting : (C : Calls) (v : Value) → collecting_of (body_calls C v) ≡ R.around (collecting_of C)
body_collecting to_output v = refl
body_collecting (to_outer w k cs) v = refl
body_collecting (to_own k cs) v = refl

body_width : (C : Calls) (v : Value) → width (body_calls C v) ≡ length (calls_of C v)
body_width to_output v = refl
body_width (to_outer w k cs) v = refl
body_width (to_own k cs) v = refl

body_not_own : (C : Calls) (v : Value) → is_own (collecting_of (body_calls C v)) ≡ false
body_not_own to_output v = refl
body_not_own (to_outer w k cs) v = refl
body_not_own (to_own k cs) v = refl

ltb_self : (n : ℕ) → ltb n n ≡ false
ltb_self zero = refl
ltb_self (suc n) = leb-suc-suc (suc n) n ∙ ltb_self n

ltb-true : (m n : ℕ) → m < n → ltb m n ≡ true
ltb-true m n h = is_true (ltb m n) (lt→ltb m n h)

own_at : (F : Frame) (C : Calls) (reading : List ℕ) → Fits F C reading → (q : ℕ) (r : Bytes) (h : Held)
    → S.own_call (at F C q r h) ≡ is_own (collecting_of C)
own_at F C reading f q r h = rw (below_at F r, calls_length C h.value) f.is

-- the machine's charge is the one handed on
charge_at : (F : Frame) (C : Calls) (base : ℕ) (q : ℕ) (r : Bytes) (h : Held) → Good F C base h → S.charge (at F C q r h) ≡ h.handed.charge
charge_at F C base q r h g = rw (bodies_at F r) (sym g.charged)

-- what a value costs in the call that collects it
abbrev costs : Calls → ℕ → ℕ
costs to_output n = 0
costs (to_outer w k cs) n = n
costs (to_own k cs) n = n

extended_charge : (C : Calls) (v : Value) (bs : Bytes) → S.calls_charge (calls_of C (extended bs v)) ≡ S.calls_charge (calls_of C v) + costs C (length bs)
unfolding S.calls_charge
extended_charge to_output v bs = refl
extended_charge (to_outer w k cs) v bs =
    rw (joined_extended w v.pieces v.hand bs) (omega (arith, length-append (joined w v).hand bs))
extended_charge (to_own k cs) v bs = omega (arith, length-append v.hand bs)

divided_charge : (C : Calls) (v : Value) → S.calls_charge (calls_of C (divided v)) ≡ S.calls_charge (calls_of C v) + costs C 1
unfolding S.calls_charge
divided_charge to_output v = refl
divided_charge (to_outer w k cs) v =
    rw (joined_divided w v.pieces v.hand) (omega (arith, arguments_last (joined w v).pieces (joined w v).hand))
divided_charge (to_own k cs) v = omega (arith, arguments_last v.pieces v.hand)

-- bytes put into the machine and into the value
put_at : (F : Frame) (C : Calls) (base : ℕ) (q : ℕ) (bs r : Bytes) (h : Held) → Good F C base h
    → S.put no_limits bs (at F C q r h) ≡ next (at F C q r (R.put (collecting_of C) bs h))
put_at F to_output base q bs r h g = refl
put_at F (to_outer w k cs) base q bs r h g =
    rw (charge_at F (to_outer w k cs) base q r h g, joined_extended w h.value.pieces h.value.hand bs)
put_at F (to_own k cs) base q bs r h g = rw (charge_at F (to_own k cs) base q r h g)

good_put : (F : Frame) (C : Calls) (base : ℕ) (bs : Bytes) (h : Held) → Good F C base h → Good F C base (R.put (collecting_of C) bs h)
good_put F to_output base bs h g = record { charged = g.charged; grown = g.grown }
good_put F (to_outer w k cs) base bs h g =
    record { charged = omega (arith, g.charged, extended_charge (to_outer w k cs) h.value bs); grown = g.grown }
good_put F (to_own k cs) base bs h g =
    record { charged = omega (arith, g.charged, extended_charge (to_own k cs) h.value bs); grown = g.grown }

-- a comma
divide_at : (F : Frame) (C : Calls) (base : ℕ) (b : ℕ) (r : Bytes) (h : Held) → Good F C base h
    → S.separate no_limits (calls_of C h.value) b (at F C 0 r h) ≡ next (at F C 0 r (R.divide (collecting_of C) b h))
divide_at F to_output base b r h g = refl
divide_at F (to_outer w k cs) base b r h g =
    rw (charge_at F (to_outer w k cs) base 0 r h g, joined_divided w h.value.pieces h.value.hand)
divide_at F (to_own k cs) base b r h g = rw (charge_at F (to_own k cs) base 0 r h g)

good_divide : (F : Frame) (C : Calls) (base b : ℕ) (h : Held) → Good F C base h → Good F C base (R.divide (collecting_of C) b h)
good_divide F to_output base b h g = record { charged = g.charged; grown = g.grown }
good_divide F (to_outer w k cs) base b h g =
    record { charged = omega (arith, g.charged, divided_charge (to_outer w k cs) h.value); grown = g.grown }
good_divide F (to_own k cs) base b h g =
    record { charged = omega (arith, g.charged, divided_charge (to_own k cs) h.value); grown = g.grown }

-- a call that is opened here, and what it starts from
call_fits : (F : Frame) (C : Calls) (reading : List ℕ) → Fits F C reading → (k : ℕ) (h : Held) → Fits F (to_own k (calls_of C h.value)) reading
call_fits F C reading f k h =
    let w = calls_length C h.value in
    record {
      is = ltb-true (below_of F) (suc (length (calls_of C h.value))) (omega (arith, f.room));
      room = omega (arith, f.room);
      busy = f.busy;
    }

call_good : (F : Frame) (C : Calls) (base k : ℕ) (h : Held) → Good F C base h
    → Good F (to_own k (calls_of C h.value)) (length h.handed.definitions) (fresh (R.charged open_price h.handed))
unfolding S.calls_charge arguments_price
call_good F C base k h g = record { charged = omega (arith, g.charged); grown = omega arith }

-- a body that is read here, and what it starts from
module _ (F : Frame) (C : Calls) (h : Held) (k n y : ℕ) (list : List Bytes) (w r : Bytes) where
  abbrev frame_of_body : Frame
  frame_of_body = in_body (record { number = n; list = list; rest = w; calls = length (calls_of C h.value); opened = k; applied = y }) (text_of F r) (bodies_of F r)

  body_fits : (reading : List ℕ) → Fits F C reading → Fits frame_of_body (body_calls C h.value) (n ∷ reading)
  unfolding S.reading
  body_fits reading f =
      let w = body_width C h.value in
      record {
        is = rw w (ltb_self (length (calls_of C h.value)) ∙ sym (body_not_own C h.value));
        room = omega arith;
        busy = ap (λ (x : List ℕ). n ∷ x) (f.busy ∙ sym (reading_at F r));
      }

-- The call that collected v₁ is open, with its `;` charged in x: what the machine's sum is with the call's list in place of it
module _ (F : Frame) (C : Calls) (k : ℕ) (h h₁ : Held) where
  abbrev listed : List Bytes
  listed = R.list_of h₁.value

  abbrev charged₁ : Handed
  charged₁ = R.charged end_price h₁.handed

  list_charge : Good F (to_own k (calls_of C h.value)) k h₁
      → charged₁.charge ≡ S.calls_charge (calls_of C h.value) + S.bodies_charge (bodies_of F []) + (list_price listed + definitions_price h₁.handed.definitions)
  unfolding S.calls_charge
  list_charge g = omega (arith, g.charged, arguments_last h₁.value.pieces h₁.value.hand)

  -- the list goes, and with it the definitions made since its `$`
  abbrev gone_with : List Definition → Handed → Handed
  gone_with ds x = R.released listed (newer k ds) (oldest k ds) x

  good_released : (base : ℕ) (ds : List Definition) → Good F (to_own k (calls_of C h.value)) k h₁ → base ≤ k
      → definitions_price ds ≡ definitions_price h₁.handed.definitions → length ds ≡ length h₁.handed.definitions
      → Good F C base (handing (gone_with ds charged₁) h)
  good_released base ds g b p l = record {
    charged = omega (arith, list_charge g, price_split k ds);
    grown = omega (arith, length-oldest k ds (omega (arith, g.grown)));
  }

  good_exchanged : (base : ℕ) (d : Definition) → Good F (to_own k (calls_of C h.value)) k h₁ → base ≤ k
      → Good F C base (handing (R.exchanged listed (newer k h₁.handed.definitions) d (oldest k h₁.handed.definitions) charged₁) h)
  unfolding definitions_price
  good_exchanged base d g b = record {
    charged = omega (arith, list_charge g, price_split k h₁.handed.definitions);
    grown = omega (arith, length-oldest k h₁.handed.definitions g.grown);
  }

-- a result given in place of a call
module _ (F : Frame) (k : ℕ) (h h₁ : Held) (bs : Bytes) where
  abbrev given : Calls → Held
  given C =
      let h₂ = R.put (collecting_of C) bs (handing (charged₁ F C k h h₁) h) in
      handing (gone_with F C k h h₁ h₁.handed.definitions h₂.handed) h₂

  give_at : (C : Calls) (r : Bytes) → Good F (to_own k (calls_of C h.value)) k h₁
      → S.give no_limits (calls_of C h.value) (call_of h₁.value k) bs (at F (to_own k (calls_of C h.value)) 0 r (handing (charged₁ F C k h h₁) h₁))
      ≡ next (at F C 0 r (given C))
  give_at to_output r g = refl
  give_at (to_outer w j cs) r g =
      let C = to_outer w j cs in
      let e : h₁.handed.charge + (1 + length bs) ≡ h₁.handed.charge + 1 + length bs = omega arith in
      rw (charge_at F (to_own k (calls_of C h.value)) k 0 r h₁ g, e, joined_extended w h.value.pieces h.value.hand bs)
  give_at (to_own j cs) r g =
      let C = to_own j cs in
      let e : h₁.handed.charge + (1 + length bs) ≡ h₁.handed.charge + 1 + length bs = omega arith in
      rw (charge_at F (to_own k (calls_of C h.value)) k 0 r h₁ g, e)

  good_given : (C : Calls) (base : ℕ) → Good F (to_own k (calls_of C h.value)) k h₁ → base ≤ k → Good F C base (given C)
  good_given to_output base g b = record {
    charged = omega (arith, list_charge F to_output k h h₁ g, price_split k h₁.handed.definitions);
    grown = omega (arith, length-oldest k h₁.handed.definitions g.grown);
  }
  good_given (to_outer w j cs) base g b = record {
    charged = omega (arith, list_charge F (to_outer w j cs) k h h₁ g, price_split k h₁.handed.definitions, extended_charge (to_outer w j cs) h.value bs);
    grown = omega (arith, length-oldest k h₁.handed.definitions g.grown);
  }
  good_given (to_own j cs) base g b = record {
    charged = omega (arith, list_charge F (to_own j cs) k h h₁ g, price_split k h₁.handed.definitions, extended_charge (to_own j cs) h.value bs);
    grown = omega (arith, length-oldest k h₁.handed.definitions g.grown);
  }

-- the machine's step at the end of a source, a call of its own being open or not
abbrev at_end : Frame → ℕ → Bool → Calls → Held → Step
at_end in_text q o C h = S.text_end no_limits q (calls_of C h.value) (at in_text C q [] h)
at_end (in_body B t bs) q o C h = S.body_end no_limits o (S.with_rest [] B) bs (at (in_body B t bs) C q [] h)

module _ (G : Language) where
  -- one scan takes a byte from the source
  scan_byte : (F : Frame) (C : Calls) (q b : ℕ) (r : Bytes) (h : Held)
      → scan G (at F C q (b ∷ r) h) ≡ S.byte no_limits G (meaning G.table q b) b (at F C q r (scanned_byte (source_of F) h))
  unfolding S.scan
  scan_byte in_text C q b r h = refl
  scan_byte (in_body B t bs) C q b r h = refl

  -- or comes to its end
  scan_end : (F : Frame) (C : Calls) (reading : List ℕ) → Fits F C reading → (q : ℕ) (h : Held)
      → scan G (at F C q [] h) ≡ at_end F q (is_own (collecting_of C)) C (scanned_end h)
  unfolding S.scan
  scan_end in_text C reading f q h = refl
  scan_end (in_body B t bs) C reading f q h =
      ap (λ o. S.body_end no_limits o (S.with_rest [] B) bs (at (in_body B t bs) C q [] (scanned_end h))) (own_at (in_body B t bs) C reading f q [] h)

  -- what is shown of the evaluation at depth d
  Agrees : ℕ → Eval → Type 0
  Agrees d ev = (F : Frame) (C : Calls) (reading : List ℕ) → Fits F C reading → (base : ℕ) (r : Bytes) (x : Handed) → Good F C base (fresh x)
      → Comes G (behind F C) (Good F C base) (length r) d (at F C 0 r (fresh x)) (ev (source_of F) (collecting_of C) reading r x)

  -- 4. The cases in which it matters where the source stands or what collects the value --------------------------------

  module _ (d m base : ℕ) (nested : Eval) (go : Go) where
    To : Frame → Calls → State → Result → Type 0
    To F C s res = Comes G (behind F C) (Good F C base) m (suc d) s res

    end_comes : (F : Frame) (C : Calls) (q : ℕ) (h : Held) (s : State) → Good F C base h → scan G s ≡ at_end F q (is_own (collecting_of C)) C h
        → To F C s (R.source_end (source_of F) (collecting_of C) q h)
    unfolding To
    end_comes in_text C (suc q) h s g e = to_finish (now e)
    end_comes in_text to_output zero h s g e = to_stretch (now e) zero-le g
    end_comes in_text (to_outer w k cs) zero h s g e = to_finish (now e)
    end_comes in_text (to_own k cs) zero h s g e = to_finish (now e)
    end_comes (in_body B t bs) to_output q h s g e = to_stretch (now e) zero-le g
    end_comes (in_body B t bs) (to_outer w k cs) q h s g e = to_stretch (now e) zero-le g
    end_comes (in_body B t bs) (to_own k cs) q h s g e = to_finish (now e)

    -- a continuation for bytes that are copied
    Puts : Frame → Calls → Bytes → Held → State → Type 0
    Puts F C r h s = (bs : Bytes) → scan G s ≡ S.put no_limits bs (at F C 0 r h) → To F C s (go 0 r (R.put (collecting_of C) bs h))

    apply_none_comes : (F : Frame) (C : Calls) (b : ℕ) (r : Bytes) (h : Held) (s : State)
        → scan G s ≡ S.apply_none no_limits (bodies_of F r) b (at F C 0 r h) → Puts F C r h s
        → To F C s (R.apply_none nested go (source_of F) (collecting_of C) b r h)
    unfolding To Puts
    apply_none_comes in_text C b r h s e k = k (b ∷ []) e
    apply_none_comes (in_body B t bs) C b r h s e k = to_finish (now e)

    apply_comes : (F : Frame) (C : Calls) (b : ℕ) (r : Bytes) (h : Held) (s : State) → Good F C base h
        → scan G s ≡ S.apply no_limits (is_own (collecting_of C)) b (at F C 0 r h) → length r ≤ m → Puts F C r h s
        → To F C s (R.apply nested go (source_of F) (collecting_of C) b r h)
    unfolding To
    apply_comes F to_output b r h s g e l k = apply_none_comes F to_output b r h s e k
    apply_comes F (to_outer w j cs) b r h s g e l k = apply_none_comes F (to_outer w j cs) b r h s e k
    apply_comes F (to_own j cs) b r h s g e l k = to_stretch {r = r} (now e) l g

    supplied_comes : (F : Frame) (C : Calls) (t : Bool) (p r : Bytes) (h : Held) (s : State)
        → scan G s ≡ S.fetch_supplied no_limits t p (at F C 0 r h) → Puts F C r h s
        → To F C s (R.fetch_supplied nested go t (collecting_of C) p r h)
    unfolding To Puts
    supplied_comes F C true p r h s e k = k p e
    supplied_comes F C false p r h s e k = to_finish (now e)

    number_comes : (F : Frame) (C : Calls) (j : Option ℕ) (list : List Bytes) (r : Bytes) (h : Held) (s : State)
        → scan G s ≡ S.fetch_number no_limits j list (at F C 0 r h) → Puts F C r h s
        → To F C s (R.fetch_number nested go j list (collecting_of C) r h)
    unfolding To
    number_comes F C None list r h s e k = to_finish (now e)
    number_comes F C (Some j) list r h s e k = supplied_comes F C (ltb j (length list)) (parameter j list) r h s e k

    fetch_text_comes : (C : Calls) (b : ℕ) (r : Bytes) (h : Held) (s : State)
        → scan G s ≡ S.fetch_in_text no_limits (calls_of C h.value) b (at in_text C 0 r h) → Puts in_text C r h s
        → To in_text C s (R.fetch_in_text nested go (collecting_of C) b r h)
    unfolding To Puts
    fetch_text_comes to_output b r h s e k = k (b ∷ []) e
    fetch_text_comes (to_outer w j cs) b r h s e k = to_finish (now e)
    fetch_text_comes (to_own j cs) b r h s e k = to_finish (now e)

    fetch_comes : (F : Frame) (C : Calls) (b : ℕ) (r : Bytes) (h : Held) (s : State)
        → scan G s ≡ S.fetch no_limits G (bodies_of F r) b (at F C 0 r h) → ((r' : Bytes) → length r' ≤ length r → Puts F C r' h s)
        → To F C s (R.fetch nested go G (source_of F) (collecting_of C) b r h)
    unfolding To
    fetch_comes in_text C b r h s e k = fetch_text_comes C b r h s e (k r (omega arith))
    fetch_comes (in_body B t bs) C b [] h s e k = to_finish (now e)
    fetch_comes (in_body B t bs) C b (x ∷ r) h s e k = number_comes (in_body B t bs) C (G.parameter_number x) B.list r h s e (k r (omega arith))

    unquote_comes : (F : Frame) (C : Calls) (b : ℕ) (r : Bytes) (h : Held) (s : State)
        → scan G s ≡ S.unquote no_limits (bodies_of F r) (calls_of C h.value) b (at F C 0 r h) → Puts F C r h s
        → To F C s (R.unquote nested go (source_of F) (collecting_of C) b r h)
    unfolding To Puts
    unquote_comes in_text to_output b r h s e k = to_finish (now e)
    unquote_comes in_text (to_outer w j cs) b r h s e k = to_finish (now e)
    unquote_comes in_text (to_own j cs) b r h s e k = to_finish (now e)
    unquote_comes (in_body B t bs) C b r h s e k = k (b ∷ []) e

  -- 5. The stretch -----------------------------------------------------------------------------------------------------

  module _ (d : ℕ) (nested : Eval) (ih : Agrees d nested) (F : Frame) (C : Calls) (reading : List ℕ) (f : Fits F C reading) (base : ℕ) where
    abbrev To' : ℕ → State → Result → Type 0
    To' m s res = Comes G (behind F C) (Good F C base) m (suc d) s res

    GoAgrees : ℕ → ℕ → Go → Type 0
    GoAgrees m n go = (q : ℕ) (r : Bytes) (h : Held) → Good F C base h → length r ≤ n → To' m (at F C q r h) (go q r h)

    module _ (m n : ℕ) (bound : n ≤ m) (go : Go) (ihGo : GoAgrees m n go) where
      goes : (s : State) (q : ℕ) (r : Bytes) (h : Held) → Gets G (next (at F C q r h)) s → Good F C base h → length r ≤ n → To' m s (go q r h)
      unfolding GoAgrees
      goes s q r h g k l = weaker G (after G g (ihGo q r h k l))

      goes_put : (s : State) (q : ℕ) (r : Bytes) (h : Held) → Good F C base h → length r ≤ n → (bs : Bytes)
          → scan G s ≡ S.put no_limits bs (at F C q r h) → To' m s (go q r (R.put (collecting_of C) bs h))
      goes_put s q r h k l bs e = goes s q r (R.put (collecting_of C) bs h) (now (e ∙ put_at F C base q bs r h k)) (good_put F C base bs h k) l

      puts : (s : State) (r : Bytes) (h : Held) → Good F C base h → length r ≤ n → Puts d m base nested go F C r h s
      unfolding Puts To
      puts s r h k l = λ bs e. goes_put s 0 r h k l bs e

      -- the call that collected h₁ does D
      perform_comes : (D : Deed) (k : ℕ) (r : Bytes) (h h₁ : Held) (s : State) → base ≤ k → Good F (to_own k (calls_of C h.value)) k h₁
          → Gets G (S.perform no_limits D (call_of h₁.value k) (calls_of C h.value) (at F (to_own k (calls_of C h.value)) 0 r (handing (charged₁ F C k h h₁) h₁))) s
          → length r ≤ n
          → To' m s (R.perform nested go D (collecting_of C) reading k (R.list_of h₁.value) r h (charged₁ F C k h h₁))
      unfolding Agrees S.bodies_charge
      perform_comes (reads j w) k r h h₁ s b g gets l =
          let v = h.value in
          let x = charged₁ F C k h h₁ in
          let list = R.list_of h₁.value in
          let y = length h₁.handed.definitions in
          let F' = frame_of_body F C h k j y list w r in
          let same : calls_of (body_calls C v) no_value ≡ calls_of C v = body_calls_of C v no_value ∙ ap (calls_of C) (joined_none v) in
          let gets₁ : Gets G (next (at F' (body_calls C v) 0 w (fresh x))) s = rw same gets in
          let good₁ : Good F' (body_calls C v) y (fresh x) =
          record { charged = rw same (omega (arith, list_charge F C k h h₁ g, bodies_at F r)); grown = omega arith } in
          let c = after G gets₁ (ih F' (body_calls C v) (j ∷ reading) (body_fits F C h k j y list w r reading f) y w x good₁) in
          then_comes G _ (rw (body_collecting C v) at c) λ r₂ h₂ gets₂ l₂ good₂.
          let gets₃ : Gets G (left F' (body_calls C v) h₂) s = rw (body_behind F' C v r₂ h₂) at gets₂ in
          let ds = h₂.handed.definitions in
          let held : Held = record { value = joined v h₂.value; handed = R.released list (between k y ds) (without k y ds) h₂.handed } in
          goes s 0 r held (rw (body_calls_of C v h₂.value) at gets₃)
          (record {
            charged =
                omega (arith, good₂.charged, ap S.calls_charge (body_calls_of C v h₂.value), bodies_at F r, price_without k y ds g.grown good₂.grown);
            grown = omega (arith, length_without k y ds g.grown good₂.grown);
          })
          l
      perform_comes (defines name w) k r h h₁ s b g gets l = goes s 0 r _ gets (good_exchanged F C k h h₁ base (defined name w) g b) l
      perform_comes (gives bs) k r h h₁ s b g gets l =
          goes s 0 r (given F k h h₁ bs C) (rw (give_at F k h h₁ bs C r g) at gets) (good_given F k h h₁ bs C base g b) l
      perform_comes (alters j change) k r h h₁ s b g gets l =
          let ds = h₁.handed.definitions in
          goes s 0 r _ gets (good_released F C k h h₁ base (altered j change ds) g b (price_altered j change ds) (length-altered j change ds)) l
      perform_comes (faulty e) k r h h₁ s b g gets l = to_finish gets

      -- `$`: the call is collected, applied and performed
      call_comes : (r : Bytes) (h : Held) (s : State) → Good F C base h → scan G s ≡ S.open_call no_limits (at F C 0 r h) → length r ≤ n
          → To' m s (R.call nested go (source_of F) (collecting_of C) reading r h)
      unfolding Agrees
      call_comes r h s g e l =
          let k = length h.handed.definitions in
          let cs = calls_of C h.value in
          let x = R.charged open_price h.handed in
          let e₁ : scan G s ≡ next (at F (to_own k cs) 0 r (fresh x)) = e ∙ rw (charge_at F C base 0 r h g) in
          then_comes G _ (after G (now e₁) (ih F (to_own k cs) reading (call_fits F C reading f k h) k r x (call_good F C base k h g))) λ r₁ h₁ gets₁ l₁ g₁.
          perform_comes (deed reading (R.list_of h₁.value) h₁.handed.definitions) k r₁ h h₁ s g.grown g₁
          (rw (charge_at F (to_own k cs) k 0 r₁ h₁ g₁, reading_at F r₁ ∙ sym f.busy) at gets₁)
          (omega arith)

      copied_comes : (q' q b : ℕ) (r : Bytes) (h : Held) (s : State) → Good F C base h → scan G s ≡ S.byte no_limits G (copied q) b (at F C q' r h) → length r ≤ n
          → To' m s (go q r (R.put (collecting_of C) (b ∷ []) h))
      copied_comes q' q b r h s g e l = goes_put s q r h g l (b ∷ []) e

      -- a sign outside of quotes
      outside_comes : (sg : Sign) (b : ℕ) (r : Bytes) (h : Held) (s : State) → Good F C base h
          → scan G s ≡ S.byte no_limits G (outside sg) b (at F C 0 r h) → length r ≤ n
          → To' m s (R.byte nested go G (outside sg) (source_of F) (collecting_of C) reading b r h)
      unfolding To
      outside_comes Plain b r h s g e l = copied_comes 0 0 b r h s g e l
      outside_comes Dollar b r h s g e l = call_comes r h s g e l
      outside_comes Comma b r h s g e l =
          goes s 0 r (R.divide (collecting_of C) b h) (now (e ∙ divide_at F C base b r h g)) (good_divide F C base b h g) l
      outside_comes Semicolon b r h s g e l =
          apply_comes d m base nested go F C b r h s g (e ∙ ap (λ o. S.apply no_limits o b (at F C 0 r h)) (own_at F C reading f 0 r h)) (omega arith)
          (puts s r h g l)
      outside_comes Tilde b r h s g e l = fetch_comes d m base nested go F C b r h s e λ r' l'. puts s r' h g (omega arith)
      outside_comes Quote b r h s g e l = goes s 1 r h (now e) g l
      outside_comes Unquote b r h s g e l = unquote_comes d m base nested go F C b r h s e (puts s r h g l)

      closes_comes : (q b : ℕ) (r : Bytes) (h : Held) (s : State) → Good F C base h
          → scan G s ≡ S.byte no_limits G (closes_to q) b (at F C (suc q) r h) → length r ≤ n
          → To' m s (R.byte nested go G (closes_to q) (source_of F) (collecting_of C) reading b r h)
      closes_comes zero b r h s g e l = goes s 0 r h (now e) g l
      closes_comes (suc q) b r h s g e l = copied_comes (suc (suc q)) (suc q) b r h s g e l

      inside_comes : (q : ℕ) (sg : Sign) (b : ℕ) (r : Bytes) (h : Held) (s : State) → Good F C base h
          → scan G s ≡ S.byte no_limits G (inside q sg) b (at F C (suc q) r h) → length r ≤ n
          → To' m s (R.byte nested go G (inside q sg) (source_of F) (collecting_of C) reading b r h)
      inside_comes q Plain b r h s g e l = copied_comes (suc q) (suc q) b r h s g e l
      inside_comes q Dollar b r h s g e l = copied_comes (suc q) (suc q) b r h s g e l
      inside_comes q Comma b r h s g e l = copied_comes (suc q) (suc q) b r h s g e l
      inside_comes q Semicolon b r h s g e l = copied_comes (suc q) (suc q) b r h s g e l
      inside_comes q Tilde b r h s g e l = copied_comes (suc q) (suc q) b r h s g e l
      inside_comes q Quote b r h s g e l = copied_comes (suc q) (suc (suc q)) b r h s g e l
      inside_comes q Unquote b r h s g e l = closes_comes q b r h s g e l

      byte_comes : (q b : ℕ) (r : Bytes) (h : Held) → Good F C base h → length r ≤ n
          → To' m (at F C q (b ∷ r) h) (R.byte nested go G (meaning G.table q b) (source_of F) (collecting_of C) reading b r (scanned_byte (source_of F) h))
      unfolding meaning
      byte_comes zero b r h g l =
          outside_comes (sign_of G.table b) b r (scanned_byte (source_of F) h) _ (record { charged = g.charged; grown = g.grown }) (scan_byte F C zero b r h) l
      byte_comes (suc q) b r h g l =
          inside_comes q (sign_of G.table b) b r (scanned_byte (source_of F) h) _ (record { charged = g.charged; grown = g.grown }) (scan_byte F C (suc q) b r h) l

    stretch_comes : (m n : ℕ) → n ≤ m → GoAgrees m n (within G nested (source_of F) (collecting_of C) reading n)
    unfolding within GoAgrees To
    stretch_comes m zero bound q [] h g l =
        end_comes d m base nested (within G nested (source_of F) (collecting_of C) reading 0) F C q (scanned_end h) _
        (record { charged = g.charged; grown = g.grown })
        (scan_end F C reading f q h)
    stretch_comes m zero bound q (b ∷ r) h g l = absurd (omega arith)
    stretch_comes m (suc n) bound q [] h g l =
        end_comes d m base nested (within G nested (source_of F) (collecting_of C) reading 0) F C q (scanned_end h) _
        (record { charged = g.charged; grown = g.grown })
        (scan_end F C reading f q h)
    stretch_comes m (suc n) bound q (b ∷ r) h g l =
        byte_comes m n (omega arith) (within G nested (source_of F) (collecting_of C) reading n) (stretch_comes m n (omega arith)) q b r h g (omega arith)

  agrees : (d : ℕ) → Agrees d (eval G d)
  unfolding Agrees eval GoAgrees
  agrees zero F C reading f base r x g = to_deeper any
  agrees (suc d) F C reading f base r x g =
      stretch_comes d (eval G d) (agrees d) F C reading f base (length r) (length r) (omega arith) 0 r (fresh x) g (omega arith)

  -- 6. The whole run ---------------------------------------------------------------------------------------------------

  module _ (t : Bytes) (ds : List Definition) where
    abbrev Whole : ℕ → Result → Type 0
    Whole d r = Comes G (behind in_text to_output) (Good in_text to_output 0) (length t) d (S.start t ds) r

    whole : (d : ℕ) → Whole d (eval G d text no_call [] t (R.start ds))
    unfolding Agrees S.reading S.calls_charge S.bodies_charge
    whole d =
        agrees d in_text to_output [] (record { is = refl; room = zero-le; busy = refl }) 0 t (R.start ds)
        (record { charged = omega arith; grown = zero-le })

    gives' : (d : ℕ) (e : End) {r : Result} → Whole d r → R.ended r ≡ Some e → Gets G (stop e) (S.start t ds)
    gives' d e (to_stretch {h = h} g l k) p = let q : R.end_at 0 h.handed ≡ e = cc in rw q at g
    gives' d e (to_finish {e = e'} g) p = let q : e' ≡ e = cc in rw q at g
    gives' d e (to_deeper l) p = let z : ◌≡◌ {A = ℕ} 0 1 = cc in absurd (omega arith)

    given' : (n : ℕ) (e : End) → scans G n (next (S.start t ds)) ≡ stop e → {r : Result} → Whole n r → R.ended r ≡ Some e
    given' n e p (to_stretch g l k) = ap Some (gets_once G g (scans_gets G n (S.start t ds) e p))
    given' n e p (to_finish g) = ap Some (gets_once G g (scans_gets G n (S.start t ds) e p))
    given' n e p (to_deeper l) = absurd (not_longer G n (S.start t ds) e p l)

    -- Agreement: the unlimited machine reaches an end if and only if some depth gives that end
    pub agreement : (e : End) → ((n : ℕ) × (S.scans no_limits G n (next (S.start t ds)) ≡ stop e)) ↔ ((d : ℕ) × (substituted G d t ds ≡ Some e))
    unfolding substituted
    agreement e = (λ p. (p.0, given' p.0 e p.1 (whole p.0)), λ p. gets_scans G (gives' p.0 e (whole p.0) p.1))

    -- every depth that is at least the number of scans is enough
    pub depth_enough : (n k : ℕ) (e : End) → S.scans no_limits G n (next (S.start t ds)) ≡ stop e → substituted G (n + k) t ds ≡ Some e
    unfolding substituted
    depth_enough n k e p = given' (n + k) e (scans_more G n k (next (S.start t ds)) e p) (whole (n + k))

    -- all depths that give an end give the same one
    pub depth_once : (d d' : ℕ) (e e' : End) → substituted G d t ds ≡ Some e → substituted G d' t ds ≡ Some e' → e ≡ e'
    unfolding substituted
    depth_once d d' e e' p p' = gets_once G (gives' d e (whole d) p) (gives' d' e' (whole d') p')
