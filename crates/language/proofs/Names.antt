-- Document 02, Five: no definition that a run reaches has an empty name, where those that it starts from have none; so looking up
-- an empty name is 15.
use Prim.Native.Nat.{ℕ, zero, suc, ◌<◌, ◌-◌, ◌+◌}
use native.Mathlib.Omega.{arith}
use mathlib.Core.Path.{◌≡◌, refl, sym, ap, ◌∙◌}
use mathlib.Core.Bool.{Bool, true, false, cond}
use mathlib.Core.List.{List, [], ◌∷◌}
use Rattle.std.specs.Prelude.{Option, None, Some}
use lib.ListN.{length}
use lib.Dec.{eqb, ltb}
use borrow.Author.Tests.{lt-ltb, ltb-true}
use Rattle.language.specs.Signs.{Bytes, Language, Meaning, copied, left_out, opens, separates, applies, fetches, unquotes, meaning}
use Rattle.language.specs.Outcomes
use Rattle.language.specs.declared.built_ins.BuiltIn.TheVariants.{Val, Update, Lock}
use Rattle.language.specs.Definitions.{Definition, found, missing, same, newest, Change, altered, oldest}
use Rattle.language.specs.BuiltIns.{Deed, reads, defines, gives, alters, faulty, built_ins, needs, parameter, deed}
use Rattle.language.specs.Charge.{open_price, end_price}
use Rattle.language.specs.Ends.{End}
use Rattle.language.specs.Scanning.{Call, Body, State, Step, next, stop, Limits, no_limits, list_of}
use Rattle.language.specs.Scanning as S
use Rattle.language.specs.Substitution.{substituted}
use Rattle.language.specs.Matched.{empty, with}
use Rattle.language.specs.Names.{HaveNames, by_val, by_update, by_lock, LooksUpEmpty, called, given, ShowsSemicolon, in_text, in_body, AppliesEmpty, lookup_outcome, EndsWith}
use Rattle.language.proofs.Lists.{either, all_append, all_take, all_drop, every, all_by}
use Rattle.language.proofs.Deeds.{Does, to_read, to_define, to_give, to_alter, to_fail, deed_does}
use Rattle.language.proofs.Leads.{Leads, goes_on, ended, charging_leads, writing_leads, on_next, on_stop, scans_lead}
use Rattle.language.proofs.Agree.{agreement}

-- What is shown ------------------------------------------------------------------------------------------------------

-- of a state, and of an end
abbrev pub StateNames : State → Type 0
StateNames s = HaveNames s.standing.definitions

abbrev pub EndNames : End → Type 0
EndNames e = HaveNames e.definitions

abbrev Kept : Step → Type 0
Kept x = Leads StateNames EndNames x

-- Definitions and deeds ----------------------------------------------------------------------------------------------

-- UPDATE and LOCK leave names as they are
altered_names : (k : ℕ) (h : Change) {ds : List Definition} → HaveNames ds → HaveNames (altered k h ds)
unfolding altered
altered_names k h empty = empty
altered_names k h (with {x = d} {xs = ds} p ps) = either HaveNames (eqb k (length ds)) (with p ps) (with p (altered_names k h ps))

-- a deed that, if it is a definition, is one with a name
abbrev DeedNames : Deed → Type 0
DeedNames (reads k v) = Unit {0}
DeedNames (defines n v) = 0 < length n
DeedNames (gives bs) = Unit {0}
DeedNames (alters k h) = Unit {0}
DeedNames (faulty n) = Unit {0}

-- what a call does
deed_names : (ks : List ℕ) (list : List Bytes) (ds : List Definition) → DeedNames (deed ks list ds)
deed_names ks list ds = go (deed_does ks list ds)
  where
    go : {D : Deed} → Does list ds D → DeedNames D
    go (to_read stands) = tt
    go (to_define long name) = name
    go to_give = tt
    go to_alter = tt
    go (to_fail of_text) = tt

-- One scan -----------------------------------------------------------------------------------------------------------

-- the oldest n definitions
oldest_names : (n : ℕ) {ds : List Definition} → HaveNames ds → HaveNames (oldest n ds)
oldest_names n {ds} D = all_drop (length ds - n) D

module _ (L : Limits) where
  -- bytes that are copied
  put_names : (cs : List Call) (bs : Bytes) (s : State) → StateNames s → Kept (S.put_to L cs bs s)
  put_names [] bs s p = writing_leads L bs s (goes_on p) (ended p)
  put_names (c ∷ cs) bs s p = charging_leads L (length bs) s (goes_on p) (ended p)

  -- `,`
  separate_names : (cs : List Call) (b : ℕ) (s : State) → StateNames s → Kept (S.separate L cs b s)
  separate_names [] b s p = put_names s.calls (b ∷ []) s p
  separate_names (c ∷ cs) b s p = charging_leads L end_price s (goes_on p) (ended p)

  -- an applied call, by what it does
  perform_names : (d : Deed) (c : Call) (cs : List Call) (s : State) → DeedNames d → StateNames s → Kept (S.perform L d c cs s)
  perform_names (reads k v) c cs s q p = goes_on p
  perform_names (defines n v) c cs s q p = goes_on (with q (oldest_names c.stood p))
  perform_names (gives bs) c [] s q p = writing_leads L bs s (goes_on (oldest_names c.stood p)) (ended p)
  perform_names (gives bs) c (o ∷ cs) s q p = charging_leads L (end_price + length bs) s (goes_on (oldest_names c.stood p)) (ended p)
  perform_names (alters k h) c cs s q p = goes_on (oldest_names c.stood (altered_names k h p))
  perform_names (faulty n) c cs s q p = ended p

  -- `;`
  apply_names : (own : Bool) (b : ℕ) (s : State) → StateNames s → Kept (S.apply L own b s)
  apply_names true b s p = go s.calls
    where
      go : (cs : List Call) → Kept (S.apply_innermost L cs s)
      go [] = ended p
      go (c ∷ cs) =
          let d = deed (S.reading s.bodies) (list_of c) s.standing.definitions in
          let named = deed_names (S.reading s.bodies) (list_of c) s.standing.definitions in
          charging_leads L end_price s (perform_names d c cs (S.noting (S.charge s + end_price) s) named p) (ended p)
  apply_names false b s p = go s.bodies
    where
      go : (Bs : List Body) → Kept (S.apply_none L Bs b s)
      go [] = put_names s.calls (b ∷ []) s p
      go (B ∷ Bs) = ended p

  -- the parameter that is fetched
  number_names : (k : Option ℕ) (list : List Bytes) (s : State) → StateNames s → Kept (S.fetch_number L k list s)
  number_names None list s p = ended p
  number_names (Some k) list s p = go (ltb k (length list))
    where
      go : (o : Bool) → Kept (S.fetch_supplied L o (parameter k list) s)
      go true = put_names s.calls (parameter k list) s p
      go false = ended p

  -- `~`
  fetch_names : (G : Language) (Bs : List Body) (b : ℕ) (s : State) → StateNames s → Kept (S.fetch L G Bs b s)
  fetch_names G [] b s p = go s.calls
    where
      go : (cs : List Call) → Kept (S.fetch_in_text L cs b s)
      go [] = put_names s.calls (b ∷ []) s p
      go (c ∷ cs) = ended p
  fetch_names G (B ∷ Bs) b s p = go B.rest
    where
      go : (r : Bytes) → Kept (S.fetch_in_body L G r B Bs s)
      go [] = ended p
      go (x ∷ r) = number_names (G.parameter_number x) B.list _ p

  -- an unquoted `>`
  unquote_names : (Bs : List Body) (cs : List Call) (b : ℕ) (s : State) → StateNames s → Kept (S.unquote L Bs cs b s)
  unquote_names [] [] b s p = ended p
  unquote_names [] (c ∷ cs) b s p = ended p
  unquote_names (B ∷ Bs) cs b s p = put_names s.calls (b ∷ []) s p

  -- a byte that was taken from its source
  byte_names : (G : Language) (m : Meaning) (b : ℕ) (s : State) → StateNames s → Kept (S.byte L G m b s)
  byte_names G (copied q) b s p = put_names s.calls (b ∷ []) _ p
  byte_names G (left_out q) b s p = goes_on p
  byte_names G opens b s p = charging_leads L open_price s (goes_on p) (ended p)
  byte_names G separates b s p = separate_names s.calls b s p
  byte_names G applies b s p = apply_names (S.own_call s) b s p
  byte_names G fetches b s p = fetch_names G s.bodies b s p
  byte_names G unquotes b s p = unquote_names s.bodies s.calls b s p

  -- the end of the text
  text_end_names : (q : ℕ) (cs : List Call) (s : State) → StateNames s → Kept (S.text_end L q cs s)
  text_end_names (suc q) cs s p = ended p
  text_end_names zero (c ∷ cs) s p = ended p
  text_end_names zero [] s p = ended p

  -- the end of a body
  body_end_names : (own : Bool) (B : Body) (Bs : List Body) (s : State) → StateNames s → Kept (S.body_end L own B Bs s)
  body_end_names true B Bs s p = ended p
  body_end_names false B Bs s p =
      goes_on (all_append (all_take (length s.standing.definitions - B.applied) p) (oldest_names B.opened p))

  -- by where the byte comes from
  from_names : (G : Language) (Bs : List Body) (t : Bytes) (s : State) → StateNames s → Kept (S.from L G Bs t s)
  from_names G [] [] s p = text_end_names s.quotes s.calls _ p
  from_names G [] (b ∷ t) s p = byte_names G (meaning G.table s.quotes b) b _ p
  from_names G (B ∷ Bs) t s p = go B.rest
    where
      go : (r : Bytes) → Kept (S.from_body L G r B Bs s)
      go [] = body_end_names (S.own_call s) B Bs _ p
      go (b ∷ r) = byte_names G (meaning G.table s.quotes b) b _ p

-- The theorems -------------------------------------------------------------------------------------------------------

-- A scan makes no definition with an empty name, in the next state (`on_next`) and in an end (`on_stop`).
pub names_kept : (L : Limits) (G : Language) (s : State) → StateNames s → Leads StateNames EndNames (S.scan L G s)
unfolding S.scan
names_kept L G s p = from_names L G s.bodies s.text s p

-- The built-ins have names.
pub built_ins_have_names : HaveNames built_ins
unfolding every
built_ins_have_names = all_by (λ d. ltb 0 (length d.name)) (λ d h. ltb-true 0 (length d.name) h) built_ins refl

module _ (L : Limits) (G : Language) (t : Bytes) {ds : List Definition} (D : HaveNames ds) (n : ℕ) where
  -- what a run comes to, from definitions without an empty name
  kept : Kept (S.scans L G n (next (S.start t ds)))
  kept = scans_lead L G (names_kept L G) n (next (S.start t ds)) (goes_on D)

  -- No state of such a run has one,
  pub names_always : {s : State} → S.scans L G n (next (S.start t ds)) ≡ next s → HaveNames s.standing.definitions
  names_always e = on_next kept e

  -- nor has its end, whatever it ends with,
  pub names_at_end : HaveNames (S.run L G n t ds).definitions
  unfolding S.run
  names_at_end = go (S.scans L G n (next (S.start t ds))) kept
    where
      go : (x : Step) → Kept x → HaveNames (S.end_of x).definitions
      go (next s) (goes_on p) = p
      go (stop e) (ended p) = p

-- nor an end of substitution.
pub substituted_names : (G : Language) (t : Bytes) {ds : List Definition} → HaveNames ds → (d : ℕ) (e : End) → substituted G d t ds ≡ Some e
    → HaveNames e.definitions
substituted_names G t {ds} D d e p = let r = (agreement G t ds e).1 (d, p) in on_stop (kept no_limits G t D r.0) r.1

-- Where no definition has an empty name, none is found by it,
pub empty_missing : {ds : List Definition} → HaveNames ds → newest [] ds ≡ missing
unfolding newest same
empty_missing empty = refl
empty_missing (with {x = d} {xs = ds} p ps) = go d.name p (empty_missing ps)
  where
    go : (n : Bytes) → 0 < length n → newest [] ds ≡ missing → cond (same [] n) (found (length ds) d.content) (newest [] ds) ≡ missing
    go [] h e = absurd (omega arith)
    go (b ∷ n) h e = e

-- and a call that looks it up is 15, in both definitions of the language.
pub empty-deed : (ks : List ℕ) {list : List Bytes} {ds : List Definition} → HaveNames ds → LooksUpEmpty ds list
    → deed ks list ds ≡ faulty Outcomes.not_defined
unfolding deed
empty-deed ks D (called e) = rw (e, empty_missing D)
empty-deed ks {list} D (given by_val e h q) = rw (e, lt-ltb (needs Val) (length list) h, q, empty_missing D)
empty-deed ks {list} D (given by_update e h q) = rw (e, lt-ltb (needs Update) (length list) h, q, empty_missing D)
empty-deed ks {list} D (given by_lock e h q) = rw (e, lt-ltb (needs Lock) (length list) h, q, empty_missing D)

module _ (L : Limits) (G : Language) where
  -- a `;` that applies the call c
  apply-empty : (b : ℕ) (s : State) (c : Call) (cs : List Call) → StateNames s → s.calls ≡ c ∷ cs → S.own_call s ≡ true
      → LooksUpEmpty s.standing.definitions (list_of c) → EndsWith (lookup_outcome L s) (S.byte L G applies b s)
  apply-empty b s c cs D innermost own looks =
      let x = go (S.allows L.cells (S.charge s + end_price)) in
      let does = empty-deed (S.reading s.bodies) D looks in (
        x.0,
        ap (λ (o : Bool). S.apply L o b s) own
            ∙ ap (λ (ks : List Call). S.apply_innermost L ks s) innermost
            ∙ ap (λ (d : Deed). S.charging L end_price s (S.perform L d c cs)) does
            ∙ x.1,
        x.2,
      )
    where
      go : (t : Bool) → EndsWith (cond t Outcomes.not_defined Outcomes.no_cells_left)
          (cond t (S.ends Outcomes.not_defined (S.noting (S.charge s + end_price) s)) (S.ends Outcomes.no_cells_left s))
      go true = (_, refl, refl)
      go false = (_, refl, refl)

  -- The scan that applies such a call ends the run,
  pub empty_scan : (s : State) → StateNames s → AppliesEmpty G.table s → EndsWith (lookup_outcome L s) (S.scan L G s)
  unfolding S.scan S.bodies_charge
  empty_scan s D a = go a.shown
    where
      go : ShowsSemicolon G.table s → EndsWith (lookup_outcome L s) (S.from L G s.bodies s.text s)
      go (in_text {b} {t} nobody read sign) =
          let x = apply-empty b (S.with_text t (S.counting 1 s)) a.call a.around D a.innermost a.own a.looks_up in (
            x.0,
            ap (λ (Bs : List Body). S.from L G Bs s.text s) nobody
                ∙ ap (λ (r : Bytes). S.from L G [] r s) read
                ∙ ap (λ (m : Meaning). S.byte L G m b (S.with_text t (S.counting 1 s))) sign
                ∙ x.1,
            x.2,
          )
      go (in_body {B} {Bs} {b} {r} body read sign) =
          let s₁ = S.with_bodies (S.with_rest r B ∷ Bs) (S.counting 0 s) in
          let own : S.own_call s₁ ≡ true = ap (λ (Cs : List Body). ltb (S.calls_below Cs) (length s.calls)) (sym body) ∙ a.own in
          let x = apply-empty b s₁ a.call a.around D a.innermost own a.looks_up in
          let price : S.charge s₁ ≡ S.charge s = ap (λ (Cs : List Body). S.charge (S.with_bodies Cs s)) (sym body) in (
            x.0,
            ap (λ (Cs : List Body). S.from L G Cs s.text s) body
                ∙ ap (λ (q : Bytes). S.from_body L G q B Bs s) read
                ∙ ap (λ (m : Meaning). S.byte L G m b s₁) sign
                ∙ x.1,
            x.2 ∙ ap (λ (k : ℕ). cond (S.allows L.cells (k + end_price)) Outcomes.not_defined Outcomes.no_cells_left) price,
          )

  -- in every run from definitions without an empty name.
  pub empty_always : (t : Bytes) {ds : List Definition} → HaveNames ds → (n : ℕ) {s : State} → S.scans L G n (next (S.start t ds)) ≡ next s
      → AppliesEmpty G.table s → EndsWith (lookup_outcome L s) (S.scan L G s)
  empty_always t D n {s} e a = empty_scan s (names_always L G t D n e) a
