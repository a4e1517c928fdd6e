-- Document 01: "A text is bytes, each 8 bits." So is every string that a run holds, where the text and the definitions it
-- starts from are.
use Rattle.std.specs.Prelude.{ℤ, Result, Ok, Err}
use borrow.Author.Tests.{ltb-true}
use Prim.Native.Nat.{ℕ, zero, suc, ◌<◌, ◌+◌, ◌-◌, max}
use native.Mathlib.Omega.{arith}
use mathlib.Core.Path.{◌≡◌, refl, sym}
use mathlib.Core.Logic.{inl, inr}
use mathlib.Core.Bool.{Bool, true, false, true≢false}
use mathlib.Core.List.{List, [], ◌∷◌, ◌++◌}
use Rattle.std.specs.Prelude.{Option, None, Some}
use lib.ListN.{length, drop, get_or}
use lib.Dec.{ltb, eqb}
use lib.IntN.{pos}
use Rattle.decimal.specs.declared.operations.Refusal.{Refusal}
use Rattle.decimal.specs.Arithmetic.{calculated}
use Rattle.decimal.proofs.Bytes.{Each, OfDecimal}
use Rattle.decimal.proofs.Laws.{shortest_bytes}
use Rattle.language.specs.Signs.{Bytes, Language, Meaning, copied, left_out, opens, separates, applies, fetches, unquotes, meaning}
use Rattle.language.specs.declared.built_ins.BuiltIn.{BuiltIn}
use Rattle.language.specs.declared.built_ins.BuiltIn.TheVariants.{Def, Val, Update, Arithmetic, Seq, Size, If, Lock}
use Rattle.language.specs.Definitions.{Content, macro, built_in, Definition, Found, found, missing, same, newest, Change, updates, locks, changed, altered, oldest, among}
use Rattle.language.specs.BuiltIns.{Deed, reads, defines, gives, alters, faulty, built_ins, needs, parameter, value_of, update_of, result_of, lock_of, performed, deed_of, deed}
use Rattle.language.specs.Charge.{open_price, end_price}
use Rattle.language.specs.Ends.{End}
use Rattle.language.specs.Scanning.{Call, Body, Standing, State, Step, next, stop, Limits, list_of}
use Rattle.language.specs.Scanning as S
use Rattle.language.specs.Matched.{All, empty, with}
use Rattle.language.specs.Octets.{Octets, CallOctets, BodyOctets, ContentOctets, DefinitionOctets, HoldsOctets, EndsOctets}
use Rattle.language.proofs.Leads.{Leads, goes_on, ended, charging_leads, writing_leads, on_next, on_stop, scans_lead}
use Rattle.language.proofs.Lists.{either, all_append, all_take, all_drop, all_get_d, all_chosen, by_definition, every, all_by}

-- What is shown ------------------------------------------------------------------------------------------------------

-- what a step comes to
abbrev Kept : Step → Type 0
Kept x = Leads HoldsOctets EndsOctets x

-- Strings ------------------------------------------------------------------------------------------------------------

-- one string behind another
pub octets_append : {a b : Bytes} → Octets a → Octets b → Octets (a ++ b)
octets_append p q = all_append p q

-- a string without its first k bytes
pub octets_drop : (k : ℕ) {bs : Bytes} → Octets bs → Octets (drop k bs)
octets_drop k p = all_drop k p

-- the byte at place k, or the zero behind the string
pub at_octets : {bs : Bytes} → Octets bs → (k : ℕ) → get_or bs k 0 < 256
at_octets p k = all_get_d 0 (omega arith) p k

-- and a string is of bytes where the one at each place is a byte
pub octets_of : (bs : Bytes) → ((k : ℕ) → get_or bs k 0 < 256) → Octets bs
octets_of [] h = empty
octets_of (b ∷ bs) h = with (h 0) (octets_of bs (λ k. h (suc k)))

-- a string of digits and minus signs
decimal_octets : (bs : Bytes) → Each OfDecimal bs → Octets bs
decimal_octets [] p = empty
decimal_octets (b ∷ bs) (inl e, p) = with {x = b} (omega arith) (decimal_octets bs p)
decimal_octets (b ∷ bs) (inr d, p) = with {x = b} (omega arith) (decimal_octets bs p)

-- the largest byte of a string
abbrev largest : Bytes → ℕ
largest [] = 0
largest (b ∷ bs) = max b (largest bs)

-- where that is a byte, so are all
largest_octets : (bs : Bytes) → largest bs < 256 → Octets bs
largest_octets [] h = empty
largest_octets (b ∷ bs) h = with {x = b} (omega arith) (largest_octets bs (omega arith))

-- Definitions and deeds ----------------------------------------------------------------------------------------------

-- what `newest` finds
abbrev FoundOctets : Found → Type 0
FoundOctets missing = Unit {0}
FoundOctets (found k c) = ContentOctets c

-- a value that is found is one of the values
newest_octets : (n : Bytes) {ds : List Definition} → All DefinitionOctets ds → FoundOctets (newest n ds)
unfolding newest
newest_octets n empty = tt
newest_octets n (with {x = d} p ps) = either FoundOctets (same n d.name) p.content (newest_octets n ps)

-- UPDATE with a string of bytes, and LOCK
abbrev ChangeOctets : Change → Type 0
ChangeOctets (updates v) = Octets v
ChangeOctets locks = Unit {0}

changed_octets : (h : Change) → ChangeOctets h → (c : Content) → ContentOctets c → ContentOctets (changed h c)
changed_octets (updates v) p (macro x) q = p
changed_octets locks p (macro x) q = q
changed_octets h p (built_in b) q = tt

-- definitions, number k changed
altered_octets : (k : ℕ) (h : Change) → ChangeOctets h → {ds : List Definition} → All DefinitionOctets ds → All DefinitionOctets (altered k h ds)
unfolding altered
altered_octets k h p empty = empty
altered_octets k h p (with {x = d} {xs = ds} q qs) =
    either (All DefinitionOctets) (eqb k (length ds))
    (with (record { name = q.name; content = changed_octets h p d.content q.content }) qs)
    (with q (altered_octets k h p qs))

-- the strings of a deed
abbrev DeedOctets : Deed → Type 0
DeedOctets (reads k v) = Octets v
DeedOctets (defines n v) = Octets n × Octets v
DeedOctets (gives bs) = Octets bs
DeedOctets (alters k h) = ChangeOctets h
DeedOctets (faulty n) = Unit {0}

-- VAL
value_octets : (f : Found) → FoundOctets f → DeedOctets (value_of f)
value_octets missing p = tt
value_octets (found k (macro x)) p = p
value_octets (found k (built_in b)) p = tt

-- UPDATE
update_octets : (ks : List ℕ) (w : Bytes) → Octets w → (f : Found) → DeedOctets (update_of ks w f)
update_octets ks w p missing = tt
update_octets ks w p (found k (macro x)) = either DeedOctets x.locked tt (either DeedOctets (among k ks) tt (either DeedOctets (ltb x.room (length w)) tt p))
update_octets ks w p (found k (built_in b)) = tt

-- LOCK
lock_octets : (f : Found) → DeedOctets (lock_of f)
lock_octets missing = tt
lock_octets (found k (macro x)) = tt
lock_octets (found k (built_in b)) = tt

-- arithmetic
result_octets : (r : Result ℤ Refusal) → DeedOctets (result_of r)
result_octets (Ok z) = decimal_octets _ (shortest_bytes z)
result_octets (Err refusal) = tt

module _ (ks : List ℕ) {list : List Bytes} (P : All Octets list) {ds : List Definition} (D : All DefinitionOctets ds) where
  -- each built-in
  performed_octets : (b : BuiltIn) → DeedOctets (performed ks list ds b)
  performed_octets Def = by_definition DeedOctets (parameter 1 list) (parameter 2 list) tt (λ name. (all_get_d [] empty P 1, all_get_d [] empty P 2))
  performed_octets Val = value_octets (newest (parameter 1 list) ds) (newest_octets (parameter 1 list) D)
  performed_octets Update = update_octets ks (parameter 2 list) (all_get_d [] empty P 2) (newest (parameter 1 list) ds)
  performed_octets (Arithmetic op) = result_octets (calculated op (parameter 1 list) (parameter 2 list))
  performed_octets Seq = either Octets (same (parameter 1 list) (parameter 2 list)) (with (omega arith) empty) (with (omega arith) empty)
  performed_octets Size = decimal_octets _ (shortest_bytes (pos _))
  performed_octets If = all_chosen empty (all_drop 1 P)
  performed_octets Lock = lock_octets (newest (parameter 1 list) ds)

  -- by what the name is found to be
  deed_of_octets : (f : Found) → FoundOctets f → DeedOctets (deed_of ks list ds f)
  deed_of_octets missing p = tt
  deed_of_octets (found k (macro x)) p = p
  deed_of_octets (found k (built_in b)) p = either DeedOctets (ltb (needs b) (length list)) (performed_octets b) tt

  -- what a call does
  deed_octets : DeedOctets (deed ks list ds)
  unfolding deed
  deed_octets = deed_of_octets (newest (parameter 0 list) ds) (newest_octets (parameter 0 list) D)

-- One scan -----------------------------------------------------------------------------------------------------------

-- a state by its parts
holds : {t : Bytes} {q : ℕ} {cs : List Call} {Bs : List Body} {w : Standing}
    → Octets t → All CallOctets cs → All BodyOctets Bs → All DefinitionOctets w.definitions → Octets w.output
    → HoldsOctets (record { text = t; quotes = q; calls = cs; bodies = Bs; standing = w })
holds t C B D o = record { text = t; calls = C; bodies = B; definitions = D; output = o }

-- a state with another depth of quotes and other counts
recounted : {s : State} {q r n m : ℕ} → HoldsOctets s
    → HoldsOctets (record {
      text = s.text;
      quotes = q;
      calls = s.calls;
      bodies = s.bodies;
      standing = record { definitions = s.standing.definitions; output = s.standing.output; read = r; scans = n; most = m };
    })
recounted g = holds g.text g.calls g.bodies g.definitions g.output

-- an end
ending : (n : ℕ) {s : State} → HoldsOctets s → Kept (S.ends n s)
ending n g = ended (record { definitions = g.definitions; output = g.output })

-- the name and parameters of a call that is applied
list_octets : {c : Call} → CallOctets c → All Octets (list_of c)
list_octets p = all_append p.ended (with p.hand empty)

-- the oldest n definitions
oldest_octets : (n : ℕ) {ds : List Definition} → All DefinitionOctets ds → All DefinitionOctets (oldest n ds)
oldest_octets n {ds} D = all_drop (length ds - n) D

module _ (L : Limits) where
  -- bytes that are copied
  put_octets : {cs : List Call} {bs : Bytes} (s : State) → All CallOctets cs → Octets bs → HoldsOctets s → Kept (S.put_to L cs bs s)
  put_octets {bs = bs} s empty p g =
      writing_leads L bs s (goes_on (holds g.text g.calls g.bodies g.definitions (octets_append g.output p))) (ending _ g)
  put_octets {bs = bs} s (with c cs) p g =
      charging_leads L (length bs) s
      (goes_on (holds g.text (with (record { ended = c.ended; hand = octets_append c.hand p }) cs) g.bodies g.definitions g.output))
      (ending _ g)

  -- `$`
  open_octets : (s : State) → HoldsOctets s → Kept (S.open_call L s)
  open_octets s g =
      charging_leads L open_price s
      (goes_on (holds g.text (with (record { ended = empty; hand = empty }) g.calls) g.bodies g.definitions g.output))
      (ending _ g)

  -- `,`
  separate_octets : {cs : List Call} {b : ℕ} (s : State) → All CallOctets cs → b < 256 → HoldsOctets s → Kept (S.separate L cs b s)
  separate_octets s empty p g = put_octets s g.calls (with p empty) g
  separate_octets s (with c cs) p g =
      charging_leads L end_price s
      (goes_on (holds g.text (with (record { ended = list_octets c; hand = empty }) cs) g.bodies g.definitions g.output))
      (ending _ g)

  -- the result of a built-in
  give_octets : {cs : List Call} {bs : Bytes} (c : Call) (s : State) → All CallOctets cs → Octets bs → HoldsOctets s → Kept (S.give L cs c bs s)
  give_octets {bs = bs} c s empty p g =
      writing_leads L bs s
      (goes_on (holds g.text empty g.bodies (oldest_octets c.stood g.definitions) (octets_append g.output p))) (ending _ g)
  give_octets {bs = bs} c s (with o cs) p g =
      charging_leads L (end_price + length bs) s
      (goes_on (holds g.text (with (record { ended = o.ended; hand = octets_append o.hand p }) cs) g.bodies
      (oldest_octets c.stood g.definitions) g.output))
      (ending _ g)

  -- an applied call, by what it does
  perform_octets : (d : Deed) (c : Call) {cs : List Call} (s : State) → DeedOctets d → CallOctets c → All CallOctets cs → HoldsOctets s
      → Kept (S.perform L d c cs s)
  perform_octets (reads k v) c s p q C g =
      goes_on (holds g.text C (with (record { list = list_octets q; rest = p }) g.bodies) g.definitions g.output)
  perform_octets (defines n v) c s p q C g =
      goes_on (holds g.text C g.bodies (with (record { name = p.0; content = p.1 }) (oldest_octets c.stood g.definitions)) g.output)
  perform_octets (gives bs) c s p q C g = give_octets c s C p g
  perform_octets (alters k h) c s p q C g =
      goes_on (holds g.text C g.bodies (oldest_octets c.stood (altered_octets k h p g.definitions)) g.output)
  perform_octets (faulty n) c s p q C g = ending n g

  -- `;` with a call open
  innermost_octets : {cs : List Call} (s : State) → All CallOctets cs → HoldsOctets s → Kept (S.apply_innermost L cs s)
  innermost_octets s empty g = ending _ g
  innermost_octets s (with {x = c} q C) g =
      charging_leads L end_price s
      (perform_octets (deed (S.reading s.bodies) (list_of c) s.standing.definitions) c _
      (deed_octets (S.reading s.bodies) (list_octets q) g.definitions) q C
      (recounted g))
      (ending _ g)

  -- `;`
  apply_octets : (own : Bool) {b : ℕ} (s : State) → b < 256 → HoldsOctets s → Kept (S.apply L own b s)
  apply_octets true s p g = innermost_octets s g.calls g
  apply_octets false {b} s p g = go s.bodies
    where
      go : (Bs : List Body) → Kept (S.apply_none L Bs b s)
      go [] = put_octets s g.calls (with p empty) g
      go (B ∷ Bs) = ending _ g

  -- the parameter that is fetched
  number_octets : (k : Option ℕ) {list : List Bytes} (s : State) → All Octets list → HoldsOctets s → Kept (S.fetch_number L k list s)
  number_octets None s P g = ending _ g
  number_octets (Some k) {list} s P g = go (ltb k (length list))
    where
      go : (o : Bool) → Kept (S.fetch_supplied L o (parameter k list) s)
      go true = put_octets s g.calls (all_get_d [] empty P k) g
      go false = ending _ g

  -- `~`
  fetch_octets : (G : Language) {Bs : List Body} {b : ℕ} (s : State) → All BodyOctets Bs → b < 256 → HoldsOctets s → Kept (S.fetch L G Bs b s)
  fetch_octets G {b = b} s empty p g = go s.calls
    where
      go : (cs : List Call) → Kept (S.fetch_in_text L cs b s)
      go [] = put_octets s g.calls (with p empty) g
      go (c ∷ cs) = ending _ g
  fetch_octets G s (with {x = B} {xs = Bs} q R) p g = go B.rest q.rest
    where
      go : (r : Bytes) → Octets r → Kept (S.fetch_in_body L G r B Bs s)
      go [] empty = ending _ g
      go (x ∷ r) (with h rest) =
          number_octets (G.parameter_number x) _ q.list
          (holds g.text g.calls (with (record { list = q.list; rest = rest }) R) g.definitions g.output)

  -- an unquoted `>`
  unquote_octets : (Bs : List Body) (cs : List Call) {b : ℕ} (s : State) → b < 256 → HoldsOctets s → Kept (S.unquote L Bs cs b s)
  unquote_octets [] [] s p g = ending _ g
  unquote_octets [] (c ∷ cs) s p g = ending _ g
  unquote_octets (B ∷ Bs) cs s p g = put_octets s g.calls (with p empty) g

  -- a byte that was taken from its source
  byte_octets : (G : Language) (m : Meaning) {b : ℕ} (s : State) → b < 256 → HoldsOctets s → Kept (S.byte L G m b s)
  byte_octets G (copied q) s p g = put_octets _ g.calls (with p empty) (recounted g)
  byte_octets G (left_out q) s p g = goes_on (recounted g)
  byte_octets G opens s p g = open_octets s g
  byte_octets G separates s p g = separate_octets s g.calls p g
  byte_octets G applies s p g = apply_octets (S.own_call s) s p g
  byte_octets G fetches s p g = fetch_octets G s g.bodies p g
  byte_octets G unquotes s p g = unquote_octets s.bodies s.calls s p g

  -- the end of the text
  text_end_octets : (q : ℕ) (cs : List Call) (s : State) → HoldsOctets s → Kept (S.text_end L q cs s)
  text_end_octets (suc q) cs s g = ending _ g
  text_end_octets zero (c ∷ cs) s g = ending _ g
  text_end_octets zero [] s g = ending _ g

  -- the end of a body
  body_end_octets : (own : Bool) (B : Body) {Bs : List Body} (s : State) → All BodyOctets Bs → HoldsOctets s → Kept (S.body_end L own B Bs s)
  body_end_octets true B s R g = ending _ g
  body_end_octets false B s R g =
      let ds = s.standing.definitions in
      goes_on (holds g.text g.calls R
      (all_append (all_take (length ds - B.applied) g.definitions) (oldest_octets B.opened g.definitions)) g.output)

  -- by where the byte comes from
  from_octets : (G : Language) {Bs : List Body} {t : Bytes} (s : State) → All BodyOctets Bs → Octets t → HoldsOctets s → Kept (S.from L G Bs t s)
  from_octets G s empty empty g = text_end_octets s.quotes s.calls _ (recounted g)
  from_octets G s empty (with {x = b} p t) g =
      byte_octets G (meaning G.table s.quotes b) _ p (holds t g.calls g.bodies g.definitions g.output)
  from_octets G s (with {x = B} {xs = Bs} q R) t g = go B.rest q.rest
    where
      go : (r : Bytes) → Octets r → Kept (S.from_body L G r B Bs s)
      go [] empty = body_end_octets (S.own_call s) B _ R (recounted g)
      go (b ∷ r) (with p rest) =
          byte_octets G (meaning G.table s.quotes b) _ p
          (holds g.text g.calls (with (record { list = q.list; rest = rest }) R) g.definitions g.output)

-- The theorems -------------------------------------------------------------------------------------------------------

-- A scan keeps strings of bytes, in the next state (`on_next`) and in an end (`on_stop`).
pub octets_kept : (L : Limits) (G : Language) (s : State) → HoldsOctets s → Leads HoldsOctets EndsOctets (S.scan L G s)
unfolding S.scan
octets_kept L G s g = from_octets L G s g.bodies g.text g

-- The fresh standing has them where its text and its definitions are of bytes,
pub octets_start : {t : Bytes} {ds : List Definition} → Octets t → All DefinitionOctets ds → HoldsOctets (S.start t ds)
octets_start p D = holds p empty empty D empty

-- as the built-ins are: their names are of bytes,
abbrev small_built_in : Bytes → Content → Bool
small_built_in n (macro x) = false
small_built_in n (built_in b) = ltb (largest n) 256

small_octets : (n : Bytes) (c : Content) → small_built_in n c ≡ true → Octets n × ContentOctets c
small_octets n (macro x) h = absurd (true≢false (sym h))
small_octets n (built_in b) h = (largest_octets n (ltb-true (largest n) 256 h), tt)

pub built_ins_octets : All DefinitionOctets built_ins
unfolding every
built_ins_octets =
    all_by (λ d. small_built_in d.name d.content)
    (λ d h. let o = small_octets d.name d.content h in record { name = o.0; content = o.1 }) built_ins refl

module _ (L : Limits) (G : Language) {t : Bytes} {ds : List Definition} (p : Octets t) (D : All DefinitionOctets ds) (n : ℕ) where
  -- what a run from there comes to
  kept : Kept (S.scans L G n (next (S.start t ds)))
  kept = scans_lead L G (octets_kept L G) n (next (S.start t ds)) (goes_on (octets_start p D))

  -- so every state of a run from there has them,
  pub octets_always : {s : State} → S.scans L G n (next (S.start t ds)) ≡ next s → HoldsOctets s
  octets_always e = on_next kept e

  -- and its end.
  pub octets_at_end : {e : End} → S.scans L G n (next (S.start t ds)) ≡ stop e → EndsOctets e
  octets_at_end q = on_stop kept q
