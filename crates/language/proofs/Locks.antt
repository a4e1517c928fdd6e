-- Document 02, Nine: a definition once locked keeps its value as long as it stands, whatever the script does.
use Rattle.std.specs.Prelude.{ℤ, Result, Ok, Err}
use Prim.Native.Nat.{ℕ, zero, suc, ◌≤◌, ◌<◌, ◌-◌, ◌+◌}
use native.Mathlib.Omega.{arith}
use mathlib.Core.Path.{◌≡◌, refl, sym, ap, subst, ◌∙◌}
use mathlib.Core.Bool.{Bool, true, false, cond, true≢false}
use mathlib.Core.List.{List, [], ◌∷◌, ◌++◌}
use Rattle.std.specs.Prelude.{Option, None, Some}
use lib.ListN.{length, take, length-append, take-append-drop}
use lib.Dec.{eqb, ltb}
use borrow.Author.Tests.{ltb-true, ltb-false, lt-ltb, le-ltb, eqb-true}
use Rattle.decimal.specs.declared.operations.Refusal.{Refusal}
use Rattle.decimal.specs.Arithmetic.{calculated}
use Rattle.language.specs.Signs.{Bytes, Language, Meaning, copied, left_out, opens, separates, applies, fetches, unquotes, meaning}
use Rattle.language.specs.declared.built_ins.BuiltIn.{BuiltIn}
use Rattle.language.specs.declared.built_ins.BuiltIn.TheVariants.{Def, Val, Update, Arithmetic, Seq, Size, If, Lock}
use Rattle.language.specs.Definitions.{Content, macro, built_in, Definition, defined, Found, found, missing, newest, same, Change, locks, changed, altered, oldest, newer, without, among}
use Rattle.language.specs.BuiltIns.{Deed, reads, defines, gives, alters, faulty, deed, deed_of, performed, value_of, update_of, result_of, lock_of, parameter, needs}
use Rattle.language.specs.Charge.{open_price, end_price}
use Rattle.language.specs.Ends.{End}
use Rattle.language.specs.Scanning.{Call, Body, State, Step, next, stop, Limits, list_of}
use Rattle.language.specs.Scanning as S
use Rattle.language.specs.Locks.{Numbered, here, there, is_locked, under_way, going, number_after, StandsTo, arrived, goes, Becomes, unaltered, changes, ComesFrom, stood, made}
use Rattle.language.proofs.Lists.{either, by_definition}
use Rattle.language.proofs.Prices.{length-oldest}
use Rattle.language.proofs.Deeds.{newest-stands}
use Rattle.language.proofs.Leads.{Leads, goes_on, ended, charging_leads, writing_leads, on_next, on_stop}
use Rattle.language.proofs.Frames.{Frames, frames_own, frames_body, frames_rest, Invariant, invariant_kept, invariant_always}

-- Numbers ------------------------------------------------------------------------------------------------------------

-- whichever of two is taken, where each has a property by what the test came to
by : {A : Type 0} (P : A → Type 0) (t : Bool) {a b : A} → (t ≡ true → P a) → (t ≡ false → P b) → P (cond t a b)
by P true p q = p refl
by P false p q = q refl

-- a number is below the count
below : {d : Definition} {k : ℕ} {ds : List Definition} → Numbered d k ds → k < length ds
below (here e) = omega arith
below (there p) = omega (arith, below p)

-- definitions made later change no number,
behind : (xs : List Definition) {d : Definition} {k : ℕ} {ds : List Definition} → Numbered d k ds → Numbered d k (xs ++ ds)
behind [] p = p
behind (x ∷ xs) p = there (behind xs p)

-- nor does it change when they go,
lower : (xs : List Definition) {d : Definition} {k : ℕ} {ds : List Definition} → Numbered d k (xs ++ ds) → k < length ds → Numbered d k ds
lower [] p h = p
lower (x ∷ xs) {ds = ds} (here e) h = absurd (omega (arith, length-append xs ds))
lower (x ∷ xs) (there p) h = lower xs p h

-- and where the older are zs and not ds, their own numbers change by the difference of the counts
upper : (xs ds zs : List Definition) {d : Definition} {k i : ℕ} → Numbered d k (xs ++ ds) → length ds ≤ k → i + length ds ≡ k + length zs
    → Numbered d i (xs ++ zs)
upper [] ds zs p h e = absurd (omega (arith, below p))
upper (x ∷ xs) ds zs (here q) h e = here {ds = xs ++ zs} (omega (arith, length-append xs ds, length-append xs zs))
upper (x ∷ xs) ds zs (there p) h e = there (upper xs ds zs p h e)

-- the number afterwards: the same below those that go, less by their count above them
placed : (a b : ℕ) (P : ℕ → Type 0) {k j : ℕ} → (k < a → P k) → (b ≤ k → P (k - (b - a))) → number_after (a, b) k ≡ Some j → P j
placed a b P {k} {j} old new =
    by (λ o. o ≡ Some j → P j) (ltb k a) (λ t e. let q : k ≡ j = cc in subst P q (old (ltb-true k a t)))
    (λ t. by (λ o. o ≡ Some j → P j) (ltb k b) (λ u e. let z : ◌≡◌ {A = ℕ} 0 1 = cc in absurd (omega arith))
    (λ u e. let q : k - (b - a) ≡ j = cc in subst P q (new (ltb-false k b u))))

-- What stands, and what goes -----------------------------------------------------------------------------------------

-- definitions that are altered where they stand, but locked ones are not
record Stays (ds ds₁ : List Definition) : Type 0 where
  count : length ds₁ ≡ length ds
  kept : {d : Definition} {k : ℕ} → Numbered d k ds → is_locked d.content ≡ true → Numbered d k ds₁
  from : {e : Definition} {k : ℕ} → Numbered e k ds₁ → (d : Definition) × Numbered d k ds × Becomes d e

-- where nothing is altered
idle : {ds : List Definition} → Stays ds ds
idle = record { count = refl; kept = λ p l. p; from = λ {e} p. (e, p, unaltered) }

-- one more, that is altered at most where it is not locked
stack : {ds ds₁ : List Definition} (x y : Definition) → (is_locked x.content ≡ true → y ≡ x) → Becomes x y → Stays ds ds₁
    → Stays (x ∷ ds) (y ∷ ds₁)
stack {ds} {ds₁} x y same becomes r = record { count = ap suc r.count; kept = λ p l. keep p l; from = λ p. back p }
  where
    keep : {d : Definition} {k : ℕ} → Numbered d k (x ∷ ds) → is_locked d.content ≡ true → Numbered d k (y ∷ ds₁)
    keep {k = k} (here q) l = subst (λ (z : Definition). Numbered x k (z ∷ ds₁)) (sym (same l)) (here (q ∙ sym r.count))
    keep (there q) l = there (r.kept q l)

    back : {e : Definition} {k : ℕ} → Numbered e k (y ∷ ds₁) → (d : Definition) × Numbered d k (x ∷ ds) × Becomes d e
    back (here q) = (x, here (q ∙ r.count), becomes)
    back (there q) = let f = r.from q in (f.0, there f.1, f.2)

-- a scan from the definitions ds to ds₁, where those from g.0 up to g.1 go: locked ones are kept, and each comes from one or is number m - 1
record Passes (g : ℕ × ℕ) (ds : List Definition) (m : ℕ) (ds₁ : List Definition) : Type 0 where
  keeps : {k j : ℕ} {d : Definition} → Numbered d k ds → is_locked d.content ≡ true → number_after g k ≡ Some j → Numbered d j ds₁
  makes : {j : ℕ} {e : Definition} → Numbered e j ds₁ → ComesFrom g ds m j e

-- the newer and the older are all
halves : (n : ℕ) (ds : List Definition) → newer n ds ++ oldest n ds ≡ ds
halves n ds = take-append-drop (length ds - n) ds

-- where those from a up to b go
passes : (a b : ℕ) {ds ds₁ : List Definition} → Stays ds ds₁ → a ≤ b → b ≤ length ds₁ → {m : ℕ} → Passes (a, b) ds m (without a b ds₁)
passes a b {ds} {ds₁} stays order within {m} = record { keeps = λ p l n. keep (stays.kept p l) n; makes = λ {j} p. make p (ltb j a) refl }
  where
    A : length (oldest a ds₁) ≡ a
    A = length-oldest a ds₁ (omega arith)

    B : length (oldest b ds₁) ≡ b
    B = length-oldest b ds₁ within

    keep : {d : Definition} {k j : ℕ} → Numbered d k ds₁ → number_after (a, b) k ≡ Some j → Numbered d j (without a b ds₁)
    keep {d} {k} p n =
        let half : (c : ℕ) → Numbered d k (newer c ds₁ ++ oldest c ds₁) = λ c. subst (Numbered d k) (sym (halves c ds₁)) p in
        placed a b (λ i. Numbered d i (without a b ds₁)) (λ h. behind (newer b ds₁) (lower (newer a ds₁) (half a) (omega (arith, A))))
        (λ h. upper (newer b ds₁) (oldest b ds₁) (oldest a ds₁) (half b) (omega (arith, B)) (omega (arith, A, B))) n

    come : {e : Definition} {k j : ℕ} → number_after (a, b) k ≡ Some j → Numbered e k ds₁ → ComesFrom (a, b) ds m j e
    come q p = let f = stays.from p in stood f.1 q f.2

    make : {e : Definition} {j : ℕ} → Numbered e j (without a b ds₁) → (t : Bool) → ltb j a ≡ t → ComesFrom (a, b) ds m j e
    make {e} {j} p true t =
        let h : j < length (oldest a ds₁) = omega (arith, A, ltb-true j a t) in
        come (rw t refl) (subst (Numbered e j) (halves a ds₁) (behind (newer a ds₁) (lower (newer b ds₁) p h)))
    make {e} {j} p false t =
        let h = ltb-false j a t in
        let k = j + (b - a) in
        let back : k - (b - a) ≡ j = omega arith in
        come (rw (le-ltb k a (omega arith), le-ltb k b (omega arith), back) refl)
        (subst (Numbered e k) (halves b ds₁) (upper (newer b ds₁) (oldest a ds₁) (oldest b ds₁) p (omega (arith, A)) (omega (arith, A, B))))

-- where the list of a built-in's call goes, the oldest a are left
passes_oldest : (a : ℕ) {ds ds₁ : List Definition} → Stays ds ds₁ → a ≤ length ds → {m : ℕ} → Passes (a, length ds) ds m (oldest a ds₁)
passes_oldest a {ds} {ds₁} stays h {m} =
    let none : length ds₁ - length ds ≡ 0 = omega (arith, stays.count) in
    subst (λ (i : ℕ). Passes (a, length ds) ds m (take i ds₁ ++ oldest a ds₁)) none (passes a (length ds) stays h (omega (arith, stays.count)))

-- where nothing goes
passes_all : (ds : List Definition) {m : ℕ} → Passes (length ds, length ds) ds m ds
passes_all ds {m} = subst (Passes (length ds, length ds) ds m) (halves (length ds) ds) (passes (length ds) (length ds) idle (omega arith) (omega arith))

-- and where DEF makes one
passes_made : {g : ℕ × ℕ} {ds ds₁ : List Definition} (n v : Bytes) → Passes g ds (suc (length ds₁)) ds₁
    → Passes g ds (suc (length ds₁)) (defined n v ∷ ds₁)
passes_made {g} {ds} {ds₁} n v P = record { keeps = λ p l n. there (P.keeps p l n); makes = λ p. make p }
  where
    make : {j : ℕ} {e : Definition} → Numbered e j (defined n v ∷ ds₁) → ComesFrom g ds (suc (length ds₁)) j e
    make (here q) = made (ap suc q)
    make (there p) = P.makes p

-- UPDATE and LOCK ----------------------------------------------------------------------------------------------------

-- a change that leaves definition number k as it is if it is locked
abbrev Fair : List Definition → ℕ → Change → Type 0
Fair ds k h = (d : Definition) → Numbered d k ds → is_locked d.content ≡ true → changed h d.content ≡ d.content

-- by such a change the definitions stay
altered_stays : (k : ℕ) (h : Change) (ds : List Definition) → Fair ds k h → Stays ds (altered k h ds)
unfolding altered
altered_stays k h [] fair = idle
altered_stays k h (x ∷ ds) fair =
    let y : Content → Definition = λ c. record { name = x.name; content = c } in
    by (Stays (x ∷ ds)) (eqb k (length ds)) (λ t. stack x (y (changed h x.content)) (λ l. ap y (fair x (here (eqb-true k (length ds) t)) l)) (changes h) idle)
    (λ t. stack x x (λ l. refl) unaltered (altered_stays k h ds (λ d p l. fair d (there p) l)))

-- what is found is the definition with its number
newest_content : (n : Bytes) (ds : List Definition) {k : ℕ} {c : Content} → newest n ds ≡ found k c → {d : Definition} → Numbered d k ds → d.content ≡ c
unfolding newest
newest_content n [] {k = k} {c = c} e {d = d} p = elim p [ ]
newest_content n (x ∷ ds) {k} {c} e (here q) =
    by (λ f. f ≡ found k c → x.content ≡ c) (same n x.name) (λ t e. cc) (λ t e. absurd (omega (arith, newest-stands n ds k c e))) e
newest_content n (x ∷ ds) {k} {c} e {d} (there p) =
    by (λ f. f ≡ found k c → d.content ≡ c) (same n x.name)
    (λ t e. let q : length ds ≡ k = cc in absurd (omega (arith, below p))) (λ t e. newest_content n ds e p) e

-- LOCK of a locked definition changes nothing
locks_fair : (c : Content) → is_locked c ≡ true → changed locks c ≡ c
locks_fair (macro x) l = ap (λ (t : Bool). macro (record { value = x.value; room = x.room; locked = t })) (sym l)
locks_fair (built_in b) l = refl

-- a deed that, if it alters a definition, is such a change
abbrev FairDeed : List Definition → Deed → Type 0
FairDeed ds (reads k v) = Unit {0}
FairDeed ds (defines n v) = Unit {0}
FairDeed ds (gives bs) = Unit {0}
FairDeed ds (alters k h) = Fair ds k h
FairDeed ds (faulty n) = Unit {0}

module _ (busy : List ℕ) (list : List Bytes) (ds : List Definition) where
  -- VAL
  value_fair : (f : Found) → FairDeed ds (value_of f)
  value_fair missing = tt
  value_fair (found k (macro x)) = tt
  value_fair (found k (built_in b)) = tt

  -- UPDATE: a locked definition is turned away
  update_fair : (n w : Bytes) (f : Found) → newest n ds ≡ f → FairDeed ds (update_of busy w f)
  update_fair n w missing e = tt
  update_fair n w (found k (built_in b)) e = tt
  update_fair n w (found k (macro x)) e =
      by (FairDeed ds) x.locked (λ t. tt) λ free.
      either (FairDeed ds) (among k busy) tt
      (either (FairDeed ds) (ltb x.room (length w)) tt (λ d p l. absurd (true≢false (sym l ∙ ap is_locked (newest_content n ds e p) ∙ free))))

  -- arithmetic
  result_fair : (r : Result ℤ Refusal) → FairDeed ds (result_of r)
  result_fair (Ok z) = tt
  result_fair (Err refusal) = tt

  -- LOCK
  lock_fair : (f : Found) → FairDeed ds (lock_of f)
  lock_fair missing = tt
  lock_fair (found k (macro x)) = λ d p l. locks_fair d.content l
  lock_fair (found k (built_in b)) = tt

  -- each built-in that has its parameters
  performed_fair : (b : BuiltIn) → FairDeed ds (performed busy list ds b)
  performed_fair Def = by_definition (FairDeed ds) (parameter 1 list) (parameter 2 list) tt (λ name. tt)
  performed_fair Val = value_fair (newest (parameter 1 list) ds)
  performed_fair Update = update_fair (parameter 1 list) (parameter 2 list) (newest (parameter 1 list) ds) refl
  performed_fair (Arithmetic op) = result_fair (calculated op (parameter 1 list) (parameter 2 list))
  performed_fair Seq = tt
  performed_fair Size = tt
  performed_fair If = tt
  performed_fair Lock = lock_fair (newest (parameter 1 list) ds)

  -- every call
  deed_fair : FairDeed ds (deed busy list ds)
  unfolding deed
  deed_fair = go (newest (parameter 0 list) ds)
    where
      go : (f : Found) → FairDeed ds (deed_of busy list ds f)
      go missing = tt
      go (found k (macro x)) = tt
      go (found k (built_in b)) = either (FairDeed ds) (ltb (needs b) (length list)) (performed_fair b) tt

-- One scan -----------------------------------------------------------------------------------------------------------

-- from s to s₁
abbrev Passed : State → State → Type 0
Passed s s₁ = Passes (going s s₁) s.standing.definitions (length s₁.standing.definitions) s₁.standing.definitions

-- where no call ends, nothing goes
remains : (s : State) (cs : List Call) (Bs : List Body) → length s.bodies ≤ length Bs → under_way s ≤ length cs + length Bs
    → Passed s (S.with_calls cs (S.with_bodies Bs s))
remains s cs Bs h k = rw (le-ltb (length Bs) (length s.bodies) h, le-ltb (length cs + length Bs) (under_way s) k) (passes_all s.standing.definitions)

-- and where the calls and the bodies are as many as before, none ends
rests : (s : State) → Passed s s
rests s = remains s s.calls s.bodies (omega arith) (omega arith)

-- where the call c ends without a body, what was made while it was collected goes
falls : (c : Call) (cs : List Call) (s : State) {ds₁ : List Definition}
    → Passes (c.stood, length s.standing.definitions) s.standing.definitions (length ds₁) ds₁
    → Passed (S.with_calls (c ∷ cs) s) (S.with_calls cs (S.with_definitions ds₁ s))
falls c cs s p =
    let b = length s.bodies in
    rw (le-ltb b b (omega arith), lt-ltb (length cs + b) (suc (length cs) + b) (omega arith)) p

-- where the body B ends, what was made while its list was collected goes
sinks : (B : Body) (Bs : List Body) (s : State) → B.opened ≤ B.applied → B.applied ≤ length s.standing.definitions
    → Passed (S.with_bodies (B ∷ Bs) s) (S.with_bodies Bs (S.with_definitions (without B.opened B.applied s.standing.definitions) s))
sinks B Bs s h k = rw (lt-ltb (length Bs) (suc (length Bs)) (omega arith)) (passes B.opened B.applied idle h k)

-- the frames of s are in order
abbrev Ordered : State → Type 0
Ordered s = Frames s.calls s.bodies (length s.standing.definitions)

-- a scan from s leads to a state that passes if W holds, which is to say that frames are in order, or to an end with what stood before it
abbrev Kept : Type 0 → State → Step → Type 0
Kept W s x = Leads (λ s₁. W → Passed s s₁) (λ e. e.definitions ≡ s.standing.definitions) x

module _ (L : Limits) (W : Type 0) where
  -- bytes that are copied
  put_keeps : (cs : List Call) (bs : Bytes) (s : State) → Kept W (S.with_calls cs s) (S.put_to L cs bs (S.with_calls cs s))
  put_keeps [] bs s = let s₀ = S.with_calls [] s in writing_leads L bs s₀ (goes_on (λ w. rests s₀)) (ended refl)
  put_keeps (c ∷ cs) bs s = let s₀ = S.with_calls (c ∷ cs) s in charging_leads L (length bs) s₀ (goes_on (λ w. rests s₀)) (ended refl)

  -- `,`
  separate_keeps : (cs : List Call) (b : ℕ) (s : State) → Kept W (S.with_calls cs s) (S.separate L cs b (S.with_calls cs s))
  separate_keeps [] b s = put_keeps [] (b ∷ []) s
  separate_keeps (c ∷ cs) b s = let s₀ = S.with_calls (c ∷ cs) s in charging_leads L end_price s₀ (goes_on (λ w. rests s₀)) (ended refl)

  -- an applied call, by what it does
  perform_keeps : (D : Deed) (c : Call) (cs : List Call) (s : State) → FairDeed s.standing.definitions D
      → (W → c.stood ≤ length s.standing.definitions) → Kept W (S.with_calls (c ∷ cs) s) (S.perform L D c cs (S.with_calls (c ∷ cs) s))
  perform_keeps (reads k v) c cs s fair f =
      let s₀ = S.with_calls (c ∷ cs) s in
      goes_on (λ w. remains s₀ cs (S.new_body k v c cs s₀ ∷ s.bodies) (omega arith) (omega arith))
  perform_keeps (defines n v) c cs s fair f = goes_on (λ w. falls c cs s (passes_made n v (passes_oldest c.stood idle (f w))))
  perform_keeps (gives bs) c [] s fair f =
      writing_leads L bs (S.with_calls (c ∷ []) s) (goes_on (λ w. falls c [] s (passes_oldest c.stood idle (f w)))) (ended refl)
  perform_keeps (gives bs) c (o ∷ cs) s fair f =
      charging_leads L (end_price + length bs) (S.with_calls (c ∷ o ∷ cs) s)
      (goes_on (λ w. falls c (o ∷ cs) s (passes_oldest c.stood idle (f w)))) (ended refl)
  perform_keeps (alters k h) c cs s fair f =
      goes_on (λ w. falls c cs s (passes_oldest c.stood (altered_stays k h s.standing.definitions fair) (f w)))
  perform_keeps (faulty n) c cs s fair f = ended refl

  -- `;`
  apply_keeps : (own : Bool) (b : ℕ) (s : State) → S.own_call s ≡ own → (W → Ordered s) → Kept W s (S.apply L own b s)
  apply_keeps true b s own f = go s.calls f (ltb-true (S.calls_below s.bodies) (length s.calls) own)
    where
      go : (cs : List Call) → (W → Ordered (S.with_calls cs s)) → S.calls_below s.bodies < length cs
          → Kept W (S.with_calls cs s) (S.apply_innermost L cs (S.with_calls cs s))
      go [] f own = ended refl
      go (c ∷ cs) f own =
          let s₀ = S.with_calls (c ∷ cs) s in
          let D = deed (S.reading s.bodies) (list_of c) s.standing.definitions in
          let fair : FairDeed s.standing.definitions D = deed_fair (S.reading s.bodies) (list_of c) s.standing.definitions in
          charging_leads L end_price s₀ (perform_keeps D c cs (S.noting (S.charge s₀ + end_price) s) fair (λ w. (frames_own (f w) own).0)) (ended refl)
  apply_keeps false b s own f = go s.bodies
    where
      go : (Bs : List Body) → Kept W s (S.apply_none L Bs b s)
      go [] = put_keeps s.calls (b ∷ []) s
      go (B ∷ Bs) = ended refl

  -- `~`
  fetch_keeps : (G : Language) (Bs : List Body) (b : ℕ) (s : State) → Kept W (S.with_bodies Bs s) (S.fetch L G Bs b (S.with_bodies Bs s))
  fetch_keeps G [] b s = go s.calls
    where
      go : (cs : List Call) → Kept W (S.with_bodies [] s) (S.fetch_in_text L cs b (S.with_bodies [] s))
      go [] = put_keeps s.calls (b ∷ []) (S.with_bodies [] s)
      go (c ∷ cs) = ended refl
  fetch_keeps G (B ∷ Bs) b s = go B.rest
    where
      supplied : (o : Bool) (p : Bytes) (s : State) → Kept W s (S.fetch_supplied L o p s)
      supplied true p s = put_keeps s.calls p s
      supplied false p s = ended refl

      number' : (k : Option ℕ) (s : State) → Kept W s (S.fetch_number L k B.list s)
      number' None s = ended refl
      number' (Some k) s = supplied (ltb k (length B.list)) (parameter k B.list) s

      go : (r : Bytes) → Kept W (S.with_bodies (B ∷ Bs) s) (S.fetch_in_body L G r B Bs (S.with_bodies (B ∷ Bs) s))
      go [] = ended refl
      go (x ∷ r) = number' (G.parameter_number x) (S.with_bodies (S.with_rest r B ∷ Bs) s)

  -- a byte that was taken from its source
  byte_keeps : (G : Language) (m : Meaning) (b : ℕ) (s : State) → (W → Ordered s) → Kept W s (S.byte L G m b s)
  byte_keeps G (copied q) b s f = put_keeps s.calls (b ∷ []) (S.with_quotes q s)
  byte_keeps G (left_out q) b s f = goes_on (λ w. rests s)
  byte_keeps G opens b s f =
      charging_leads L open_price s (goes_on (λ w. remains s (S.new_call s ∷ s.calls) s.bodies (omega arith) (omega arith))) (ended refl)
  byte_keeps G separates b s f = separate_keeps s.calls b s
  byte_keeps G applies b s f = apply_keeps (S.own_call s) b s refl f
  byte_keeps G fetches b s f = fetch_keeps G s.bodies b s
  byte_keeps G unquotes b s f = go s.bodies s.calls
    where
      go : (Bs : List Body) (cs : List Call) → Kept W s (S.unquote L Bs cs b s)
      go [] [] = ended refl
      go [] (c ∷ cs) = ended refl
      go (B ∷ Bs) cs = put_keeps s.calls (b ∷ []) s

  -- the end of a body
  body_end_keeps : (own : Bool) (B : Body) (Bs : List Body) (s : State) → ltb B.calls (length s.calls) ≡ own → (W → Ordered (S.with_bodies (B ∷ Bs) s))
      → Kept W (S.with_bodies (B ∷ Bs) s) (S.body_end L own B Bs s)
  body_end_keeps true B Bs s own f = ended refl
  body_end_keeps false B Bs s own f = goes_on λ w. let o = frames_body (f w) (ltb-false B.calls (length s.calls) own) in sinks B Bs s o.0 o.1

  -- by where the byte comes from
  from_keeps : (G : Language) (Bs : List Body) (t : Bytes) (s : State) → (W → Ordered (S.with_bodies Bs s))
      → Kept W (S.with_bodies Bs s) (S.from L G Bs t (S.with_bodies Bs s))
  from_keeps G [] [] s f = go s.quotes s.calls
    where
      go : (q : ℕ) (cs : List Call) → Kept W (S.with_bodies [] s) (S.text_end L q cs (S.counting 0 (S.with_bodies [] s)))
      go (suc q) cs = ended refl
      go zero (c ∷ cs) = ended refl
      go zero [] = ended refl
  from_keeps G [] (b ∷ t) s f = byte_keeps G (meaning G.table s.quotes b) b (S.with_text t (S.counting 1 (S.with_bodies [] s))) f
  from_keeps G (B ∷ Bs) t s f = go B.rest
    where
      s₀ : State
      s₀ = S.with_bodies (B ∷ Bs) s

      go : (r : Bytes) → Kept W s₀ (S.from_body L G r B Bs s₀)
      go [] = body_end_keeps (S.own_call s₀) B Bs (S.counting 0 s₀) refl f
      go (b ∷ r) = byte_keeps G (meaning G.table s.quotes b) b (S.with_bodies (S.with_rest r B ∷ Bs) (S.counting 0 s)) (λ w. frames_rest r (f w))

-- what one scan does
scan_passes : (L : Limits) (G : Language) (s : State) → Kept (Ordered s) s (S.scan L G s)
unfolding S.scan
scan_passes L G s = from_keeps L (Ordered s) G s.bodies s.text s (λ w. w)

-- The theorems -------------------------------------------------------------------------------------------------------

-- of one scan that goes on
pub scan_keeps : (L : Limits) (G : Language) {N : ℕ} {s s₁ : State} → Invariant N s → S.scan L G s ≡ next s₁
    → {k j : ℕ} {d : Definition} → Numbered d k s.standing.definitions → is_locked d.content ≡ true → number_after (going s s₁) k ≡ Some j
    → Numbered d j s₁.standing.definitions
scan_keeps L G {s = s} i e p l n = (on_next (scan_passes L G s) e i.framed).keeps p l n

-- every definition after a scan is one that stood, as it was or altered by UPDATE or LOCK, or the newest, made by DEF
pub scan_makes : (L : Limits) (G : Language) {N : ℕ} {s s₁ : State} → Invariant N s → S.scan L G s ≡ next s₁
    → {j : ℕ} {e : Definition} → Numbered e j s₁.standing.definitions
    → ComesFrom (going s s₁) s.standing.definitions (length s₁.standing.definitions) j e
scan_makes L G {s = s} i e p = (on_next (scan_passes L G s) e i.framed).makes p

-- an end has the definitions that stood before its scan
pub stop_keeps : (L : Limits) (G : Language) (s : State) {e : End} → S.scan L G s ≡ stop e → e.definitions ≡ s.standing.definitions
stop_keeps L G s p = on_stop (scan_passes L G s) p

-- from scan to scan
stands_keeps : (L : Limits) (G : Language) {N : ℕ} {s' : State} {j : ℕ} {s : State} {k : ℕ} {d : Definition} → StandsTo L G s' j s k → Invariant N s
    → Numbered d k s.standing.definitions → is_locked d.content ≡ true → Numbered d j s'.standing.definitions
stands_keeps L G {s = s} {d = d} (arrived e) i p l = subst (λ (k : ℕ). Numbered d k s.standing.definitions) e p
stands_keeps L G {N} {s} (goes e n t) i p l = stands_keeps L G t (on_next (invariant_kept L N G s i) e) (scan_keeps L G i e p l n) l

-- A definition that is locked in a state that a run reaches is the same, name, value, room and mark, in every later one as long as it stands,
pub locked_keeps : (L : Limits) (G : Language) (t : Bytes) (ds : List Definition) (n : ℕ) {s s' : State} → S.scans L G n (next (S.start t ds)) ≡ next s
    → {k j : ℕ} → StandsTo L G s' j s k → {d : Definition} → Numbered d k s.standing.definitions → is_locked d.content ≡ true
    → Numbered d j s'.standing.definitions
locked_keeps L G t ds n e to p l = stands_keeps L G to (on_next (invariant_always L G t ds n) e) p l

-- and among those that the end reports.
pub locked_at_end : (L : Limits) (G : Language) (t : Bytes) (ds : List Definition) (n : ℕ) {s s' : State} → S.scans L G n (next (S.start t ds)) ≡ next s
    → {k j : ℕ} → StandsTo L G s' j s k → {e : End} → S.scan L G s' ≡ stop e → {d : Definition} → Numbered d k s.standing.definitions → is_locked d.content ≡ true
    → Numbered d j e.definitions
locked_at_end L G t ds n {s' = s'} e {j = j} to end {d} p l = subst (Numbered d j) (sym (stop_keeps L G s' end)) (locked_keeps L G t ds n e to p l)
