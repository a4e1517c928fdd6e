-- Document 02, Eight: what a scan writes is what it adds to the output; so the origins of a run are those of its output. They never
-- fall, and are at most the bytes read.
use Prim.Native.Nat.{ℕ, zero, suc, ◌+◌, ◌-◌, ◌≤◌, zero-le}
use native.Mathlib.Omega.{arith}
use native.Mathlib.Nat.{le_refl, le_trans}
use mathlib.Core.Path.{◌≡◌, refl, sym, ap, subst, ◌∙◌}
use mathlib.Core.Bool.{Bool, true, false, cond}
use mathlib.Core.List.{List, [], ◌∷◌, ◌++◌, append-nil, append_assoc, map-append}
use Rattle.std.specs.Prelude.{Option, None, Some}
use mathlib.Core.Logic.{◌↔◌}
use lib.ListN.{length, take, drop, length-drop}
use lib.Seq.{drop-drop}
use lib.Dec.{ltb}
use Rattle.language.specs.Signs.{Bytes, Language, Meaning, copied, left_out, opens, separates, applies, fetches, unquotes, meaning, language}
use Rattle.language.specs.Outcomes
use Rattle.language.specs.Refusals.{refused_by}
use Rattle.language.specs.declared.built_ins.BuiltIn.{BuiltIn}
use Rattle.language.specs.declared.built_ins.BuiltIn.TheVariants.{Def, Val, Update, Arithmetic, Seq, Size, If, Lock}
use Rattle.language.specs.Definitions.{Definition, macro, built_in, Found, found, missing, newest}
use Rattle.language.specs.BuiltIns.{Deed, reads, defines, gives, alters, faulty, parameter, deed_of, deed}
use Rattle.language.specs.Charge.{open_price, end_price, definitions_price}
use Rattle.language.specs.Ends.{End}
use Rattle.language.specs.Scanning.{Call, Body, State, Step, next, stop, Limits, list_of}
use Rattle.language.specs.Scanning as S
use Rattle.language.specs.Matched.{All, empty, with}
use Rattle.language.specs.Origins
use Rattle.language.specs.Expansion.{Given, limits_of, refusals, untouched, ending, answered, expanded}
use Rattle.language.specs.Demand.{Substitutes}
use Rattle.language.specs.Origins.{Writes, Origin, puts, giving, taking, taken, bytes_in, writes, each, scan_origins, origins_from, origins, bytes_of, Rising, over, rises, FromText, GivenNumbers, ReturnedNumbers, returned_with, short_numbers, numbers_refusals, refusals_with, answered_with, expanded_origins, ExpandedOrigins}
use Rattle.language.proofs.Leads.{Leads, goes_on, ended, charging_leads, writing_leads, scans_stop}
use Rattle.language.proofs.Lists.{either, all_append}
use Rattle.language.proofs.Accepted.{behind_none, behind_some, both_none}
use Rattle.language.proofs.Demand.{substitutes}

-- One scan -----------------------------------------------------------------------------------------------------------

-- behind the byte that was taken: these bytes are added, nothing more is read
record Adds (w : Option Writes) (s s' : State) : Type 0 where
  pub output : s'.standing.output ≡ s.standing.output ++ bytes_in w
  pub read : s'.standing.read ≡ s.standing.read
  pub text : s'.text ≡ s.text

-- an end adds nothing
record Stays (s : State) (e : End) : Type 0 where
  pub output : e.output ≡ s.standing.output
  pub read : e.read ≡ s.standing.read

module _ (L : Limits) where
  abbrev Comes : Option Writes → State → Step → Type 0
  Comes w s x = Leads (Adds w s) (Stays s) x

  stays : {w : Option Writes} (n : ℕ) (s : State) → Comes w s (S.ends n s)
  stays n s = ended (record { output = refl; read = refl })

  -- of a state with the same output, text and count of bytes read
  like : {w : Option Writes} {s₁ s : State} {x : Step} → s₁.standing.output ≡ s.standing.output → s₁.standing.read ≡ s.standing.read → s₁.text ≡ s.text
      → Comes w s₁ x → Comes w s x
  like {w} o r t (goes_on a) = goes_on (record { output = a.output ∙ ap (λ (y : Bytes). y ++ bytes_in w) o; read = a.read ∙ r; text = a.text ∙ t })
  like o r t (ended a) = ended (record { output = a.output ∙ o; read = a.read ∙ r })

  none_adds : (s : State) → s.standing.output ≡ s.standing.output ++ []
  none_adds s = sym (append-nil s.standing.output)

  put_adds : (cs : List Call) (rule : ℕ) (bs : Bytes) (s : State) → Comes (puts cs rule bs) s (S.put_to L cs bs s)
  put_adds [] rule bs s = writing_leads L bs s (goes_on (record { output = refl; read = refl; text = refl })) (stays _ s)
  put_adds (c ∷ cs) rule bs s = charging_leads L (length bs) s (goes_on (record { output = none_adds s; read = refl; text = refl })) (stays _ s)

  separate_adds : (cs : List Call) (rule b : ℕ) (s : State) → s.calls ≡ cs → Comes (puts cs rule (b ∷ [])) s (S.separate L cs b s)
  separate_adds [] rule b s e = subst (λ (ks : List Call). Comes (puts [] rule (b ∷ [])) s (S.put_to L ks (b ∷ []) s)) (sym e) (put_adds [] rule (b ∷ []) s)
  separate_adds (c ∷ cs) rule b s e = charging_leads L end_price s (goes_on (record { output = none_adds s; read = refl; text = refl })) (stays _ s)

  -- whatever a built-in does
  perform_adds : (b : BuiltIn) (d : Deed) (c : Call) (cs : List Call) (s : State) → Comes (giving b cs d) s (S.perform L d c cs s)
  perform_adds b (reads k v) c cs s = goes_on (record { output = none_adds s; read = refl; text = refl })
  perform_adds b (defines n v) c cs s = goes_on (record { output = none_adds s; read = refl; text = refl })
  perform_adds b (gives bs) c [] s = writing_leads L bs s (goes_on (record { output = refl; read = refl; text = refl })) (stays _ s)
  perform_adds b (gives bs) c (o ∷ cs) s =
      charging_leads L (end_price + length bs) s (goes_on (record { output = none_adds s; read = refl; text = refl })) (stays _ s)
  perform_adds b (alters k h) c cs s = goes_on (record { output = none_adds s; read = refl; text = refl })
  perform_adds b (faulty n) c cs s = stays n s

  -- an applied call, by what is found under its name
  found_adds : (ks : List ℕ) (list : List Bytes) (ds : List Definition) (f : Found) (c : Call) (cs : List Call) (s : State)
      → Comes (taking f cs (deed_of ks list ds f)) s (S.perform L (deed_of ks list ds f) c cs s)
  found_adds ks list ds missing c cs s = stays _ s
  found_adds ks list ds (found k (macro x)) c cs s = goes_on (record { output = none_adds s; read = refl; text = refl })
  found_adds ks list ds (found k (built_in b)) c cs s = perform_adds b (deed_of ks list ds (found k (built_in b))) c cs s

  apply_adds : (own : Bool) (b : ℕ) (s : State) → Comes (cond own (Origins.applying s.calls s) (Origins.copies b s)) s (S.apply L own b s)
  unfolding deed
  apply_adds true b s = go s.calls
    where
      go : (cs : List Call) → Comes (Origins.applying cs s) s (S.apply_innermost L cs s)
      go [] = stays _ s
      go (c ∷ cs) =
          let ds = s.standing.definitions in
          charging_leads L end_price s
          (like refl refl refl (found_adds (S.reading s.bodies) (list_of c) ds (newest (parameter 0 (list_of c)) ds) c cs (S.noting (S.charge s + end_price) s)))
          (stays _ s)
  apply_adds false b s = go s.bodies
    where
      go : (Bs : List Body) → Comes (puts s.calls (Origins.copied_from Bs) (b ∷ [])) s (S.apply_none L Bs b s)
      go [] = put_adds s.calls _ (b ∷ []) s
      go (B ∷ Bs) = stays _ s

  number_adds : (k : Option ℕ) (list : List Bytes) (s : State) → Comes (Origins.fetching_number k list s) s (S.fetch_number L k list s)
  number_adds None list s = stays _ s
  number_adds (Some k) list s = go (ltb k (length list))
    where
      go : (o : Bool) → Comes (puts s.calls Origins.fetched (parameter k list)) s (S.fetch_supplied L o (parameter k list) s)
      go true = put_adds s.calls _ (parameter k list) s
      go false = stays _ s

  fetch_adds : (G : Language) (Bs : List Body) (b : ℕ) (s : State) → s.bodies ≡ Bs → Comes (Origins.fetching G Bs b s) s (S.fetch L G Bs b s)
  fetch_adds G [] b s e = go s.calls refl
    where
      go : (cs : List Call) → s.calls ≡ cs → Comes (puts cs (Origins.copied_from s.bodies) (b ∷ [])) s (S.fetch_in_text L cs b s)
      go [] q = separate_adds [] (Origins.copied_from s.bodies) b s q
      go (c ∷ cs) q = stays _ s
  fetch_adds G (B ∷ Bs) b s e = go B.rest
    where
      go : (r : Bytes) → Comes (Origins.fetching_in G r B.list s) s (S.fetch_in_body L G r B Bs s)
      go [] = stays _ s
      go (x ∷ r) = number (G.parameter_number x)
        where
          s₁ : State
          s₁ = S.with_bodies (S.with_rest r B ∷ Bs) s

          number : (k : Option ℕ) → Comes (Origins.fetching_number k B.list s) s (S.fetch_number L k B.list s₁)
          number None = like refl refl refl (stays _ s₁)
          number (Some k) = like refl refl refl (number_adds (Some k) B.list s₁)

  unquote_adds : (Bs : List Body) (cs : List Call) (b rule : ℕ) (s : State) → s.calls ≡ cs → Comes (puts cs rule (b ∷ [])) s (S.unquote L Bs cs b s)
  unquote_adds [] [] b rule s e = stays _ s
  unquote_adds [] (c ∷ cs) b rule s e = stays _ s
  unquote_adds (B ∷ Bs) cs b rule s e = subst (λ (ks : List Call). Comes (puts ks rule (b ∷ [])) s (S.put_to L s.calls (b ∷ []) s)) e (put_adds s.calls rule (b ∷ []) s)

  -- a byte that was taken from its source
  byte_adds : (G : Language) (m : Meaning) (b : ℕ) (s : State) → Comes (taken G m b s) s (S.byte L G m b s)
  byte_adds G (copied q) b s = like refl refl refl (put_adds s.calls (Origins.copied_from s.bodies) (b ∷ []) (S.with_quotes q s))
  byte_adds G (left_out q) b s = goes_on (record { output = none_adds s; read = refl; text = refl })
  byte_adds G opens b s = charging_leads L open_price s (goes_on (record { output = none_adds s; read = refl; text = refl })) (stays _ s)
  byte_adds G separates b s = separate_adds s.calls _ b s refl
  byte_adds G applies b s = apply_adds (S.own_call s) b s
  byte_adds G fetches b s = fetch_adds G s.bodies b s refl
  byte_adds G unquotes b s = unquote_adds s.bodies s.calls b _ s refl

-- what is written by rule 1 has a property
abbrev IfText : (Bytes → Type 0) → Option Writes → Type 0
IfText P None = Unit {0}
IfText P (Some w) = w.rule ≡ Origins.copied_from_text → P w.bytes

module _ (P : Bytes → Type 0) where
  if_puts : (cs : List Call) (rule : ℕ) (bs : Bytes) → (rule ≡ Origins.copied_from_text → P bs) → IfText P (puts cs rule bs)
  if_puts [] rule bs p = p
  if_puts (c ∷ cs) rule bs p = tt

  -- no built-in writes by it
  given_else : (b : BuiltIn) → Origins.given_by b ≡ Origins.copied_from_text → ⊥
  given_else Def e = absurd (omega arith)
  given_else Val e = absurd (omega arith)
  given_else Update e = absurd (omega arith)
  given_else (Arithmetic op) e = absurd (omega arith)
  given_else Seq e = absurd (omega arith)
  given_else Size e = absurd (omega arith)
  given_else If e = absurd (omega arith)
  given_else Lock e = absurd (omega arith)

  if_given : (b : BuiltIn) (cs : List Call) (d : Deed) → IfText P (giving b cs d)
  if_given b cs (gives bs) = if_puts cs (Origins.given_by b) bs (λ e. absurd (given_else b e))
  if_given b cs (reads k v) = tt
  if_given b cs (defines n v) = tt
  if_given b cs (alters k h) = tt
  if_given b cs (faulty n) = tt

  if_found : (f : Found) (cs : List Call) (d : Deed) → IfText P (taking f cs d)
  if_found missing cs d = tt
  if_found (found k (macro x)) cs d = tt
  if_found (found k (built_in b)) cs d = if_given b cs d

  if_applied : (cs : List Call) (s : State) → IfText P (Origins.applying cs s)
  if_applied [] s = tt
  if_applied (c ∷ cs) s = if_found (newest (parameter 0 (list_of c)) s.standing.definitions) cs (deed (S.reading s.bodies) (list_of c) s.standing.definitions)

  if_number : (k : Option ℕ) (list : List Bytes) (s : State) → IfText P (Origins.fetching_number k list s)
  if_number None list s = tt
  if_number (Some k) list s = if_puts s.calls Origins.fetched (parameter k list) (λ e. absurd (omega arith))

  module _ (b : ℕ) (s : State) (p : Origins.copied_from s.bodies ≡ Origins.copied_from_text → P (b ∷ [])) where
    if_copied : IfText P (Origins.copies b s)
    if_copied = if_puts s.calls (Origins.copied_from s.bodies) (b ∷ []) p

    if_fetched : (G : Language) (Bs : List Body) → IfText P (Origins.fetching G Bs b s)
    if_fetched G [] = if_copied
    if_fetched G (B ∷ Bs) = go B.rest
      where
        go : (r : Bytes) → IfText P (Origins.fetching_in G r B.list s)
        go [] = tt
        go (x ∷ r) = if_number (G.parameter_number x) B.list s

    if_taken : (G : Language) (m : Meaning) → IfText P (taken G m b s)
    if_taken G (copied q) = if_copied
    if_taken G (left_out q) = tt
    if_taken G opens = tt
    if_taken G separates = if_copied
    if_taken G applies = either (IfText P) (S.own_call s) (if_applied s.calls s) if_copied
    if_taken G fetches = if_fetched G s.bodies
    if_taken G unquotes = if_copied

-- what a scan from s leaves where it goes on: "what it writes" is what it adds to the output
pub record Scanned (G : Language) (s s' : State) : Type 0 where
  pub output : s'.standing.output ≡ s.standing.output ++ bytes_in (writes G s)
  -- so many bytes of the text are read: none from a body, else one, which is what is copied
  pub taken : ℕ
  pub read : s'.standing.read ≡ s.standing.read + taken
  pub text : s'.text ≡ drop taken s.text
  pub within : taken ≤ length s.text
  pub from_text : s.bodies ≡ [] → taken ≡ 1
  pub copied : IfText (λ bs. (bs ≡ take 1 s.text) × (length bs ≡ 1) × (taken ≡ 1)) (writes G s)

-- and where it ends
pub record Refuses (s : State) (e : End) : Type 0 where
  pub output : e.output ≡ s.standing.output
  pub read : s.standing.read ≤ e.read
  pub within : e.read ≤ s.standing.read + length s.text

-- the counts and the text do not matter to what is written
module _ (G : Language) (k : ℕ) (t : Bytes) (s : State) where
  abbrev counted : State
  counted = S.with_text t (S.counting k s)

  applying_counted : (cs : List Call) → Origins.applying cs counted ≡ Origins.applying cs s
  applying_counted [] = refl
  applying_counted (c ∷ cs) = refl

  fetching_counted : (Bs : List Body) (b : ℕ) → Origins.fetching G Bs b counted ≡ Origins.fetching G Bs b s
  fetching_counted [] b = refl
  fetching_counted (B ∷ Bs) b = go B.rest
    where
      number : (n : Option ℕ) → Origins.fetching_number n B.list counted ≡ Origins.fetching_number n B.list s
      number None = refl
      number (Some n) = refl

      go : (r : Bytes) → Origins.fetching_in G r B.list counted ≡ Origins.fetching_in G r B.list s
      go [] = refl
      go (x ∷ r) = number (G.parameter_number x)

  taken_counted : (m : Meaning) (b : ℕ) → taken G m b counted ≡ taken G m b s
  taken_counted (copied q) b = refl
  taken_counted (left_out q) b = refl
  taken_counted opens b = refl
  taken_counted separates b = refl
  taken_counted applies b = ap (λ (w : Option Writes). cond (S.own_call s) w (Origins.copies b s)) (applying_counted s.calls)
  taken_counted fetches b = fetching_counted s.bodies b
  taken_counted unquotes b = refl

module _ (L : Limits) (G : Language) (s : State) where
  abbrev Copied : ℕ → Option Writes → Type 0
  Copied k w = IfText (λ bs. (bs ≡ take 1 s.text) × (length bs ≡ 1) × (k ≡ 1)) w

  -- so many bytes of the text are read
  scanned : {w : Option Writes} {s₁ : State} {x : Step} (k : ℕ) → writes G s ≡ w → s₁.standing.output ≡ s.standing.output
      → s₁.standing.read ≡ s.standing.read + k → s₁.text ≡ drop k s.text → k ≤ length s.text
      → (s.bodies ≡ [] → k ≡ 1) → Copied k w → Comes L w s₁ x → Leads (Scanned G s) (Refuses s) x
  scanned {w} k is o r t within one p (goes_on a) = goes_on (record {
    output = a.output ∙ ap (λ (y : Bytes). y ++ bytes_in w) o ∙ ap (λ (v : Option Writes). s.standing.output ++ bytes_in v) (sym is);
    taken = k;
    read = a.read ∙ r;
    text = a.text ∙ t;
    within = within;
    from_text = one;
    copied = subst (Copied k) (sym is) p;
  })
  scanned k is o r t within one p (ended {e} a) =
      let at : e.read ≡ s.standing.read + k = a.read ∙ r in
      ended {e = e} (record { output = a.output ∙ o; read = omega arith; within = omega arith })

  refuses : (n : ℕ) → Refuses s (S.end_with n (S.counting 0 s).standing)
  refuses n = record { output = refl; read = omega arith; within = omega arith }

  text_ends : (q : ℕ) (cs : List Call) → Leads (Scanned G s) (Refuses s) (S.text_end L q cs (S.counting 0 s))
  text_ends (suc q) cs = ended (refuses _)
  text_ends zero (c ∷ cs) = ended (refuses _)
  text_ends zero [] = ended (refuses _)

  body_ends : (own : Bool) (B : Body) (Bs : List Body) → Comes L None (S.counting 0 s) (S.body_end L own B Bs (S.counting 0 s))
  body_ends true B Bs = stays L _ (S.counting 0 s)
  body_ends false B Bs = goes_on (record { output = none_adds L s; read = refl; text = refl })

  -- nothing that is written in a body is written by rule 1
  unread : (w : Option Writes) → IfText (λ bs. ⊥) w → Copied 0 w
  unread None p = tt
  unread (Some w) p = λ e. absurd (p e)

  from_writes : (Bs : List Body) → s.bodies ≡ Bs → (t : Bytes) → s.text ≡ t → writes G s ≡ Origins.taken_from G Bs t s
      → Leads (Scanned G s) (Refuses s) (S.from L G Bs t s)
  from_writes [] e [] q is = text_ends s.quotes s.calls
  from_writes [] e (b ∷ t) q is =
      let m = meaning G.table s.quotes b in
      let s₁ : State = S.with_text t (S.counting 1 s) in
      let first : b ∷ [] ≡ take 1 s.text = ap (take 1) (sym q) in
      let long : length s.text ≡ suc (length t) = ap length q in
      scanned {s₁ = s₁} 1 (is ∙ sym (taken_counted G 1 t s m b)) refl refl (ap (drop 1) (sym q)) (omega arith) (λ z. refl)
      (if_taken (λ bs. (bs ≡ take 1 s.text) × (length bs ≡ 1) × (◌≡◌ {A = ℕ} 1 1)) b s₁ (λ z. (first, refl, refl)) G m) (byte_adds L G m b s₁)
  from_writes (B ∷ Bs) e t q is = go B.rest is
    where
      body : {w : Option Writes} {s₁ : State} {x : Step} → writes G s ≡ w → s₁.standing ≡ (S.counting 0 s).standing → s₁.text ≡ s.text → IfText (λ bs. ⊥) w
          → Comes L w s₁ x → Leads (Scanned G s) (Refuses s) x
      body {w} {s₁} p st tx not c =
          scanned {s₁ = s₁} 0 p (ap (λ (y : S.Standing). y.output) st) (ap (λ (y : S.Standing). y.read) st ∙ omega arith) tx zero-le
          (λ z. let y : ◌≡◌ {A = ℕ} 0 1 = cc in absurd (omega arith)) (unread w not) c

      go : (r : Bytes) → writes G s ≡ Origins.taken_from_body G r B Bs s → Leads (Scanned G s) (Refuses s) (S.from_body L G r B Bs s)
      go [] p = body {s₁ = S.counting 0 s} p refl refl tt (body_ends (S.own_call s) B Bs)
      go (b ∷ r) p =
          let m = meaning G.table s.quotes b in
          let s₁ : State = S.with_bodies (S.with_rest r B ∷ Bs) (S.counting 0 s) in
          body {s₁ = s₁} (p ∙ sym (taken_counted G 0 s.text (S.with_bodies (S.with_rest r B ∷ Bs) s) m b)) refl refl
          (if_taken (λ bs. ⊥) b s₁ (λ z. absurd (omega arith)) G m) (byte_adds L G m b s₁)

-- What a scan writes is what it adds to the output, and a scan that ends the run adds nothing.
pub scan_writes : (L : Limits) (G : Language) (s : State) → Leads (Scanned G s) (Refuses s) (S.scan L G s)
unfolding S.scan writes
scan_writes L G s = from_writes L G s s.bodies refl s.text refl refl

-- Runs ---------------------------------------------------------------------------------------------------------------

each_bytes : (read rule : ℕ) (bs : Bytes) → bytes_of (each read rule bs) ≡ bs
each_bytes read rule [] = refl
each_bytes read rule (b ∷ bs) = ap (λ (y : Bytes). b ∷ y) (each_bytes read rule bs)

-- what rises from a count rises from a lower one
rising_from : {low low' high : ℕ} {os : List Origin} → low' ≤ low → Rising low os high → Rising low' os high
rising_from h (over p) = over (le_trans h p)
rising_from h (rises p more) = rises (le_trans h p) more

each_rising : (read rule : ℕ) (bs : Bytes) {os : List Origin} {low high : ℕ} → low ≤ read → Rising read os high → Rising low (each read rule bs ++ os) high
each_rising read rule [] h p = rising_from h p
each_rising read rule (b ∷ bs) h p = rises h (each_rising read rule bs (omega arith) p)

-- none is lower than where they rise from,
rising_least : {low low' high : ℕ} {os : List Origin} → low' ≤ low → Rising low os high → All (λ o. low' ≤ o.read) os
rising_least h (over p) = empty
rising_least h (rises p more) = with (le_trans h p) (rising_least (le_trans h p) more)

-- nor higher than where they end
rising_ends : {low high : ℕ} {os : List Origin} → Rising low os high → low ≤ high
rising_ends (over p) = p
rising_ends (rises p more) = let q = rising_ends more in omega arith

rising_most : {low high : ℕ} {os : List Origin} → Rising low os high → All (λ o. o.read ≤ high) os
rising_most (over p) = empty
rising_most (rises p more) = with (rising_ends more) (rising_most more)

each_all : {P : Origin → Type 0} (read rule : ℕ) → ((b : ℕ) → P (record { byte = b; read = read; rule = rule })) → (bs : Bytes) → All P (each read rule bs)
each_all read rule p [] = empty
each_all read rule p (b ∷ bs) = with (p b) (each_all read rule p bs)

-- one byte that stands in the text, or bytes by another rule
each_text : (text : Bytes) (read rule : ℕ) (bs : Bytes) → (rule ≡ Origins.copied_from_text → (bs ≡ take 1 (drop (read - 1) text)) × (length bs ≡ 1))
    → All (FromText text) (each read rule bs)
each_text text read rule [] h = empty
each_text text read rule (b ∷ []) h = with (λ e. sym (h e).0) empty
each_text text read rule (b ∷ c ∷ bs) h = each_all read rule (λ x e. let long = (h e).1 in absurd (omega arith)) (b ∷ c ∷ bs)

module _ (L : Limits) (G : Language) where
  -- what one scan adds, and where it leaves the count of bytes read
  added : (s : State) {x : Step} → Leads (Scanned G s) (Refuses s) x → (S.end_of x).output ≡ s.standing.output ++ bytes_of (scan_origins (writes G s) x)
  added s (goes_on {s = s₁} a) = a.output ∙ ap (λ (y : Bytes). s.standing.output ++ y) (go (writes G s))
    where
      go : (w : Option Writes) → bytes_in w ≡ bytes_of (scan_origins w (next s₁))
      go None = refl
      go (Some w) = sym (each_bytes s₁.standing.read w.rule w.bytes)
  added s (ended {e} a) = a.output ∙ sym (append-nil s.standing.output) ∙ ap (λ (y : Bytes). s.standing.output ++ y) (go (writes G s))
    where
      go : (w : Option Writes) → [] ≡ bytes_of (scan_origins w (stop e))
      go None = refl
      go (Some w) = refl

  left_out_lem : (n : ℕ) (x : Step) → (S.end_of (S.scans L G n x)).output ≡ (S.end_of x).output ++ bytes_of (origins_from L G n x)
  unfolding S.scans origins_from
  left_out_lem zero x = sym (append-nil (S.end_of x).output)
  left_out_lem (suc n) (stop e) = sym (append-nil e.output)
  left_out_lem (suc n) (next s) =
      let x = S.scan L G s in
      let os = scan_origins (writes G s) x in
      left_out_lem n x
      ∙ ap (λ (y : Bytes). y ++ bytes_of (origins_from L G n x)) (added s (scan_writes L G s))
      ∙ append_assoc s.standing.output (bytes_of os) (bytes_of (origins_from L G n x))
      ∙ ap (λ (y : Bytes). s.standing.output ++ y) (sym (map-append (λ (o : Origin). o.byte) os (origins_from L G n x)))

  pub none_at_end : (w : Option Writes) (e : End) → scan_origins w (stop e) ≡ []
  none_at_end None e = refl
  none_at_end (Some w) e = refl

  pub origins_stop : (n : ℕ) (e : End) → origins_from L G n (stop e) ≡ []
  unfolding origins_from
  origins_stop zero e = refl
  origins_stop (suc n) e = refl

  rising : (n : ℕ) (x : Step) → Rising (S.end_of x).read (origins_from L G n x) (S.end_of (S.scans L G n x)).read
  unfolding S.scans origins_from
  rising zero x = over (le_refl (S.end_of x).read)
  rising (suc n) (stop e) = over (le_refl e.read)
  rising (suc n) (next s) = go (scan_writes L G s) (rising n (S.scan L G s))
    where
      on : (s₁ : State) → s.standing.read ≤ s₁.standing.read → {high : ℕ} → Rising s₁.standing.read (origins_from L G n (next s₁)) high
          → (w : Option Writes) → Rising s.standing.read (scan_origins w (next s₁) ++ origins_from L G n (next s₁)) high
      on s₁ below p None = rising_from below p
      on s₁ below p (Some w) = each_rising s₁.standing.read w.rule w.bytes below p

      go : {x : Step} → Leads (Scanned G s) (Refuses s) x → {high : ℕ} → Rising (S.end_of x).read (origins_from L G n x) high
          → Rising s.standing.read (scan_origins (writes G s) x ++ origins_from L G n x) high
      go (goes_on {s = s₁} a) p = on s₁ (let r = a.read in omega arith) p (writes G s)
      go (ended {e} a) p = rw (none_at_end (writes G s) e) (rising_from a.read p)

  -- nothing is read behind the end of the text
  within_text : (n : ℕ) (s : State) → (S.end_of (S.scans L G n (next s))).read ≤ s.standing.read + length s.text
  unfolding S.scans
  within_text zero s = omega arith
  within_text (suc n) s = go (within_text n) (scan_writes L G s)
    where
      go : ((s₁ : State) → (S.end_of (S.scans L G n (next s₁))).read ≤ s₁.standing.read + length s₁.text)
          → {x : Step} → Leads (Scanned G s) (Refuses s) x → (S.end_of (S.scans L G n x)).read ≤ s.standing.read + length s.text
      go more (goes_on {s = s₁} a) =
          let r = a.read in
          let h = more s₁ in
          omega (arith, ap length a.text, length-drop a.taken s.text, a.within)
      go more (ended {e} a) = rw (scans_stop L G n e) a.within

  -- the first scan reads a byte of the text
  from_one : (n : ℕ) (s : State) → s.bodies ≡ [] → All (λ o. s.standing.read + 1 ≤ o.read) (origins_from L G n (next s))
  unfolding origins_from
  from_one zero s e = empty
  from_one (suc n) s e = go (scan_writes L G s)
    where
      on : (s₁ : State) → s₁.standing.read ≡ s.standing.read + 1
          → (w : Option Writes) → All (λ o. s.standing.read + 1 ≤ o.read) (scan_origins w (next s₁) ++ origins_from L G n (next s₁))
      on s₁ r None = rising_least (omega arith) (rising n (next s₁))
      on s₁ r (Some w) = rising_least (omega arith) (each_rising s₁.standing.read w.rule w.bytes (le_refl s₁.standing.read) (rising n (next s₁)))

      go : {x : Step} → Leads (Scanned G s) (Refuses s) x → All (λ o. s.standing.read + 1 ≤ o.read) (scan_origins (writes G s) x ++ origins_from L G n x)
      go (goes_on {s = s₁} a) = on s₁ (let t = a.from_text e in let r = a.read in omega arith) (writes G s)
      go (ended {e} a) = rw (none_at_end (writes G s) e, origins_stop n e) empty

  -- what is copied from the text stands there
  from_text_lem : (text : Bytes) (n : ℕ) (s : State) → drop s.standing.read text ≡ s.text → All (FromText text) (origins_from L G n (next s))
  unfolding origins_from
  from_text_lem text zero s ahead = empty
  from_text_lem text (suc n) s ahead = go (from_text_lem text n) (scan_writes L G s)
    where
      own : (s₁ : State) (a : Scanned G s s₁) (w : Option Writes) → IfText (λ bs. (bs ≡ take 1 s.text) × (length bs ≡ 1) × (a.taken ≡ 1)) w
          → All (FromText text) (scan_origins w (next s₁))
      own s₁ a None p = empty
      own s₁ a (Some w) p = each_text text s₁.standing.read w.rule w.bytes λ e.
          let q = p e in
          let one = q.2 in
          let r = a.read in
          let before : s.standing.read ≡ s₁.standing.read - 1 = omega arith in
          (q.0 ∙ ap (take 1) (sym ahead) ∙ ap (λ (k : ℕ). take 1 (drop k text)) before, q.1)

      go : ((s₁ : State) → drop s₁.standing.read text ≡ s₁.text → All (FromText text) (origins_from L G n (next s₁)))
          → {x : Step} → Leads (Scanned G s) (Refuses s) x → All (FromText text) (scan_origins (writes G s) x ++ origins_from L G n x)
      go more (goes_on {s = s₁} a) =
          let on : drop s₁.standing.read text ≡ s₁.text = ap (λ (k : ℕ). drop k text) a.read ∙ sym (drop-drop a.taken s.standing.read text) ∙ ap (drop a.taken) ahead ∙ sym a.text in
          all_append (own s₁ a (writes G s) a.copied) (more s₁ on)
      go more (ended {e} a) = rw (none_at_end (writes G s) e, origins_stop n e) empty

-- The theorems -------------------------------------------------------------------------------------------------------

module _ (g : Given) where
  abbrev L : Limits
  L = limits_of (length g.lent.cells) (length g.lent.output)

  abbrev first : State
  first = S.start g.text g.definitions

  -- The origins of a run are those of its output: left out, they leave the ordinary run.
  pub origins-left_out : bytes_of (origins g) ≡ (ending g).output
  unfolding S.run
  origins-left_out = sym (left_out_lem L (language g.table) g.allowance (next first))

  -- They never fall, and are at most the bytes read,
  pub origins_rising : Rising 0 (origins g) (ending g).read
  unfolding S.run
  origins_rising = rising L (language g.table) g.allowance (next first)

  -- which are at most those of the text.
  pub origins-within : (ending g).read ≤ length g.text
  unfolding S.run
  origins-within = let h = within_text L (language g.table) g.allowance first in omega arith

  -- A byte is written when one of the text is read, so each is at least 1;
  pub origins_from_one : All (λ o. 1 ≤ o.read) (origins g)
  origins_from_one = from_one L (language g.table) g.allowance first refl

  -- and one that is copied from the text is the last byte read.
  pub origins_from_text : All (FromText g.text) (origins g)
  origins_from_text = from_text_lem L (language g.table) g.text g.allowance first refl

module _ (g : GivenNumbers) where
  -- what is refused as the ordinary call is, is so whatever the numbers are,
  pub refused_as : (k : ℕ) → refused_by (refusals g.given) ≡ Some k → expanded_origins g ≡ returned_with (untouched k g.given.lent) g.numbers
  unfolding expanded_origins
  refused_as k e = ap (λ (r : Option ℕ). answered_with r g) (behind_some (refusals g.given) (numbers_refusals g) k e)

  -- and 35 comes behind,
  pub refused_short : refused_by (refusals g.given) ≡ None → short_numbers g ≡ true
      → expanded_origins g ≡ returned_with (untouched Outcomes.numbers_too_short g.given.lent) g.numbers
  unfolding expanded_origins refused_by
  refused_short e short = rw (behind_none (refusals g.given) (numbers_refusals g) e, short)

  -- and nothing else.
  pub accepted_as : refused_by (refusals_with g) ≡ None ↔ ((refused_by (refusals g.given) ≡ None) × (short_numbers g ≡ false))
  unfolding refused_by
  accepted_as = (
    λ e. let r = both_none (refusals g.given) (numbers_refusals g) e in (r.0, long (short_numbers g) r.1),
    λ p. behind_none (refusals g.given) (numbers_refusals g) p.0 ∙ rw p.1,
  )
    where
      long : (t : Bool) → cond t (Some Outcomes.numbers_too_short) None ≡ None → t ≡ false
      long true p = let z : ◌≡◌ {A = ℕ} 0 1 = cc in absurd (omega arith)
      long false p = refl

-- "The output and report of such a run are those of the ordinary run." So is what is left in the cells,
pub ordinary : (g : GivenNumbers) → short_numbers g ≡ false → (expanded_origins g).returned ≡ expanded g.given
unfolding expanded_origins expanded
ordinary g short = go (refused_by (refusals g.given)) refl
  where
    go : (r : Option ℕ) → refused_by (refusals g.given) ≡ r → (answered_with (refused_by (refusals_with g)) g).returned ≡ answered r g.given
    go (Some k) e = rw (behind_some (refusals g.given) (numbers_refusals g) k e)
    go None e = rw ((accepted_as g).1 (e, short))

-- and demand 3 holds of it.
pub origins-expanded : (g : GivenNumbers) {x : ReturnedNumbers} → definitions_price g.given.definitions ≤ length g.given.lent.cells
    → x ≡ expanded_origins g → ExpandedOrigins g x
origins-expanded g {x} price e = record {
  noting = e;
  ordinary = λ short.
      let is : x.returned ≡ expanded g.given = ap (λ (y : ReturnedNumbers). y.returned) e ∙ ordinary g short in
      (is, subst (Substitutes g.given) (sym is) (substitutes g.given price));
}
