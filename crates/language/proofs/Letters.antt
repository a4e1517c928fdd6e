-- Document 02, One: "Scripts in whose expansion no body shows an unquoted `~` before such a letter expand as before".
use Prim.Native.Nat.{ℕ, zero, suc, ◌<◌, ◌+◌, ◌-◌}
use native.Mathlib.Omega.{arith}
use mathlib.Core.Path.{◌≡◌, refl, sym, ◌∙◌, ap, subst}
use mathlib.Core.Bool.{Bool, true, false, cond, ◌&&◌}
use mathlib.Core.List.{List, [], ◌∷◌}
use Rattle.std.specs.Prelude.{Option, None, Some}
use mathlib.Core.Logic.{◌↔◌}
use lib.ListN.{length}
use lib.Dec.{leb, ltb}
use borrow.Author.Tests.{leb-true}
use Rattle.language.specs.Signs.{Bytes, Table, Language, Meaning, copied, left_out, opens, separates, applies, fetches, unquotes, meaning, is_letter, parameter_digit, parameter_number, language, digits_only}
use Rattle.language.specs.Outcomes
use Rattle.language.specs.Definitions.{Definition}
use Rattle.language.specs.BuiltIns.{parameter}
use Rattle.language.specs.Ends.{End}
use Rattle.language.specs.Scanning.{State, Call, Body, Step, next, stop, Limits, no_limits, end_with, with_rest, with_text, with_bodies, counting, scan, scans, start, end_of, run}
use Rattle.language.specs.Scanning as S
use Rattle.language.specs.Substitution.{substituted}
use Rattle.language.specs.Letters.{ShowsLetter, NoLetterShown}
use Rattle.language.proofs.Lists.{either}
use Rattle.language.proofs.Leads.{not_end, scans_stop}
use Rattle.language.proofs.Agree.{agreement}
use Rattle.language.proofs.Limits.{scans_next, scans_ended, counted_end, reached_alike}

-- what cannot be
clash : {A : Type 0} → ◌≡◌ {A = ℕ} 0 1 → A
clash e = absurd (omega arith)

-- Two languages with one table, whose bytes other than letters stand for the same parameters
module _ (L : Limits) (T : Table) (number number' : ℕ → Option ℕ) (same : (b : ℕ) → is_letter b ≡ false → number b ≡ number' b) where
  abbrev G : Language
  G = record { table = T; parameter_number = number }

  abbrev G' : Language
  G' = record { table = T; parameter_number = number' }

  module _ (s : State) (unshown : ShowsLetter T s → ⊥) where
    text_same : s.bodies ≡ [] → (t : Bytes) → S.from L G [] t s ≡ S.from L G' [] t s
    text_same e [] = refl
    text_same e (b ∷ t) = go (meaning T s.quotes b)
      where
        go : (m : Meaning) → S.byte L G m b (with_text t (counting 1 s)) ≡ S.byte L G' m b (with_text t (counting 1 s))
        go (copied q) = refl
        go (left_out q) = refl
        go opens = refl
        go separates = refl
        go applies = refl
        go fetches = rw e refl
        go unquotes = refl

    -- the byte x behind an unquoted `~` of a body is no letter
    number_same : (B : Body) (Bs : List Body) (b x : ℕ) (r : Bytes) → s.bodies ≡ B ∷ Bs → B.rest ≡ b ∷ x ∷ r
        → meaning T s.quotes b ≡ fetches → number x ≡ number' x
    number_same B Bs b x r e q u = go (is_letter x) refl
      where
        go : (t : Bool) → is_letter x ≡ t → number x ≡ number' x
        go true p =
            absurd (unshown (record { body = B; bodies = Bs; tilde = b; letter = x; rest = r; innermost = e; shown = q; unquoted = u; lower_case = p }))
        go false p = same x p

    body_same : (B : Body) (Bs : List Body) → s.bodies ≡ B ∷ Bs → (r : Bytes) → B.rest ≡ r → S.from_body L G r B Bs s ≡ S.from_body L G' r B Bs s
    body_same B Bs e [] q = refl
    body_same B Bs e (b ∷ r) q = go (meaning T s.quotes b) refl
      where
        s₁ : State
        s₁ = with_bodies (with_rest r B ∷ Bs) (counting 0 s)

        fetched : (x : Bytes) → r ≡ x → meaning T s.quotes b ≡ fetches
            → S.fetch_in_body L G x (with_rest r B) Bs s₁ ≡ S.fetch_in_body L G' x (with_rest r B) Bs s₁
        fetched [] p u = refl
        fetched (x ∷ r') p u =
            ap (λ (k : Option ℕ). S.fetch_number L k B.list (with_bodies (with_rest r' (with_rest r B) ∷ Bs) s₁))
            (number_same B Bs b x r' e (q ∙ ap (λ (z : Bytes). b ∷ z) p) u)

        go : (m : Meaning) → meaning T s.quotes b ≡ m → S.byte L G m b s₁ ≡ S.byte L G' m b s₁
        go (copied k) u = refl
        go (left_out k) u = refl
        go opens u = refl
        go separates u = refl
        go applies u = refl
        go fetches u = fetched r refl u
        go unquotes u = refl

    scan_same : scan L G s ≡ scan L G' s
    unfolding scan
    scan_same = go s.bodies refl
      where
        go : (Bs : List Body) → s.bodies ≡ Bs → S.from L G Bs s.text s ≡ S.from L G' Bs s.text s
        go [] e = text_same e s.text
        go (B ∷ Bs) e = body_same B Bs e B.rest refl

  -- as long as no letter is shown in the one, the other makes the same scans
  scans_same : (n : ℕ) (s : State) → ((k : ℕ) (s' : State) → k < n → scans L G k (next s) ≡ next s' → ShowsLetter T s' → ⊥)
      → scans L G n (next s) ≡ scans L G' n (next s)
  unfolding scans
  scans_same zero s unshown = refl
  scans_same (suc n) s unshown = go (scan L G s) refl (λ s₁ h. scans_same n s₁ h)
    where
      also : {x : Step} → scan L G s ≡ x → scan L G' s ≡ x
      also p = sym (scan_same s (λ x. unshown 0 s (omega arith) refl x)) ∙ p

      go : (x : Step) → scan L G s ≡ x
          → ((s₁ : State) → ((k : ℕ) (s' : State) → k < n → scans L G k (next s₁) ≡ next s' → ShowsLetter T s' → ⊥)
          → scans L G n (next s₁) ≡ scans L G' n (next s₁))
          → scans L G n (scan L G s) ≡ scans L G' n (scan L G' s)
      go (next s₁) p ih = rw (p, also p) (ih s₁ (λ k s' l q. unshown (suc k) s' (omega arith) (rw p q)))
      go (stop e) p ih = rw (p, also p) (scans_stop L G n e ∙ sym (scans_stop L G' n e))

-- Letters, before request One and since ------------------------------------------------------------------------------

-- letters aside, bytes stand for what they stood for
letters_aside : (b : ℕ) → is_letter b ≡ false → parameter_number b ≡ parameter_digit b
letters_aside b e = rw e refl

-- before request One a letter stood for nothing
nothing_before : (b : ℕ) → is_letter b ≡ true → parameter_digit b ≡ None
nothing_before b e = go (leb 97 b) refl e (leb 48 b) (leb b 57) refl
  where
    go : (x : Bool) → leb 97 b ≡ x → x && leb b 122 ≡ true → (y z : Bool) → leb b 57 ≡ z → cond (y && z) (Some (b - 48)) None ≡ None
    go false p e y z q = clash cc
    go true p e true true q = absurd (omega (arith, leb-true 97 b p, leb-true b 57 q))
    go true p e true false q = refl
    go true p e false z q = refl

module _ (L : Limits) (T : Table) (s : State) where
  -- the end with 12 at the next scan
  abbrev at_letter : End
  at_letter = end_with Outcomes.fetches_nothing (counting 0 s).standing

  -- to which a run came that showed a letter,
  stopped_before : ShowsLetter T s → scan L (digits_only T) s ≡ stop at_letter
  unfolding scan
  stopped_before x = rw (x.innermost, x.shown, x.unquoted, nothing_before x.letter x.lower_case) refl

  -- and to which it comes no more
  Otherwise : Step → Type 0
  Otherwise x = (m : ℕ) → end_of (scans L (language T) m x) ≡ at_letter → ⊥

  stops_otherwise : (e : End) → (e.outcome ≡ Outcomes.fetches_nothing → ⊥) → Otherwise (stop e)
  unfolding Otherwise
  stops_otherwise e other m p = other (ap (λ (y : End). y.outcome) (ap end_of (sym (scans_stop L (language T) m e)) ∙ p))

  goes_otherwise : (s₁ : State) → s₁.standing.scans ≡ s.standing.scans + 1 → Otherwise (next s₁)
  unfolding Otherwise
  goes_otherwise s₁ counts m p = go (scans L (language T) m (next s₁)) refl p
    where
      go : (x : Step) → scans L (language T) m (next s₁) ≡ x → end_of x ≡ at_letter → ⊥
      go (next s₂) q r = let z : Outcomes.no_scans_left ≡ Outcomes.fetches_nothing = ap (λ (y : End). y.outcome) r in omega arith
      go (stop e) q r =
          let more = (counted_end L (language T) m s₁ e q).above in
          let same : e.scans ≡ s.standing.scans + 1 = ap (λ (y : End). y.scans) r in
          omega arith

  puts_otherwise : (cs : List Call) (p : Bytes) (s₁ : State) → s₁.standing.scans ≡ s.standing.scans + 1 → Otherwise (S.put_to L cs p s₁)
  puts_otherwise [] p s₁ counts =
      either Otherwise (S.allows L.output (length s₁.standing.output + length p)) (goes_otherwise _ counts)
      (stops_otherwise _ (λ e. omega arith))
  puts_otherwise (c ∷ cs) p s₁ counts =
      either Otherwise (S.allows L.cells (S.charge s₁ + length p)) (goes_otherwise _ counts)
      (stops_otherwise _ (λ e. omega arith))

  supplied_otherwise : (given : Bool) (p : Bytes) (s₁ : State) → s₁.standing.scans ≡ s.standing.scans + 1 → Otherwise (S.fetch_supplied L given p s₁)
  supplied_otherwise true p s₁ counts = puts_otherwise s₁.calls p s₁ counts
  supplied_otherwise false p s₁ counts = stops_otherwise _ (λ e. omega arith)

  fetches_otherwise : ShowsLetter T s → Otherwise (scan L (language T) s)
  unfolding scan
  fetches_otherwise x =
      let list = x.body.list in
      let k = x.letter - 97 + 10 in
      let s₁ = with_bodies (with_rest x.rest x.body ∷ x.bodies) (counting 0 s) in
      subst Otherwise fetched (supplied_otherwise (ltb k (length list)) (parameter k list) s₁ refl)
    where
      fetched : S.fetch_supplied L (ltb (x.letter - 97 + 10) (length x.body.list)) (parameter (x.letter - 97 + 10) x.body.list)
          (with_bodies (with_rest x.rest x.body ∷ x.bodies) (counting 0 s)) ≡ S.from L (language T) s.bodies s.text s
      fetched = rw (x.innermost, x.shown, x.unquoted, x.lower_case) refl

-- Whether a state shows a letter: what it shows is what its innermost body has
module _ (T : Table) (s : State) (B : Body) (Bs : List Body) (e : s.bodies ≡ B ∷ Bs) where
  shown_rest : (y : ShowsLetter T s) → B.rest ≡ y.tilde ∷ y.letter ∷ y.rest
  shown_rest y =
      let p : y.body ∷ y.bodies ≡ B ∷ Bs = sym y.innermost ∙ e in
      let q : y.body ≡ B = cc in
      ap (λ (z : Body). z.rest) (sym q) ∙ y.shown

  shown-meaning : (b : ℕ) (r : Bytes) → B.rest ≡ b ∷ r → ShowsLetter T s → meaning T s.quotes b ≡ fetches
  shown-meaning b r q y =
      let p : y.tilde ∷ y.letter ∷ y.rest ≡ b ∷ r = sym (shown_rest y) ∙ q in
      let z : y.tilde ≡ b = cc in
      ap (meaning T s.quotes) (sym z) ∙ y.unquoted

  shown_letter : (b x : ℕ) (r : Bytes) → B.rest ≡ b ∷ x ∷ r → ShowsLetter T s → is_letter x ≡ true
  shown_letter b x r q y =
      let p : y.tilde ∷ y.letter ∷ y.rest ≡ b ∷ x ∷ r = sym (shown_rest y) ∙ q in
      let z : y.letter ≡ x = cc in
      ap is_letter (sym z) ∙ y.lower_case

  letter? : (b x : ℕ) (r : Bytes) → B.rest ≡ b ∷ x ∷ r → meaning T s.quotes b ≡ fetches → (t : Bool) → is_letter x ≡ t
      → Dec (ShowsLetter T s)
  letter? b x r q u true p =
      yes (record { body = B; bodies = Bs; tilde = b; letter = x; rest = r; innermost = e; shown = q; unquoted = u; lower_case = p })
  letter? b x r q u false p = no (λ y. let w = shown_letter b x r q y in clash cc)

  next? : (b : ℕ) (r : Bytes) → B.rest ≡ b ∷ r → meaning T s.quotes b ≡ fetches → Dec (ShowsLetter T s)
  next? b [] q u = no (λ y. let w = sym (shown_rest y) ∙ q in clash cc)
  next? b (x ∷ r) q u = letter? b x r q u (is_letter x) refl

  fetches? : (b : ℕ) (r : Bytes) → B.rest ≡ b ∷ r → (m : Meaning) → meaning T s.quotes b ≡ m → Dec (ShowsLetter T s)
  fetches? b r q (copied k) u = no (λ y. let w = shown-meaning b r q y in clash cc)
  fetches? b r q (left_out k) u = no (λ y. let w = shown-meaning b r q y in clash cc)
  fetches? b r q opens u = no (λ y. let w = shown-meaning b r q y in clash cc)
  fetches? b r q separates u = no (λ y. let w = shown-meaning b r q y in clash cc)
  fetches? b r q applies u = no (λ y. let w = shown-meaning b r q y in clash cc)
  fetches? b r q fetches u = next? b r q u
  fetches? b r q unquotes u = no (λ y. let w = shown-meaning b r q y in clash cc)

  rest? : (r : Bytes) → B.rest ≡ r → Dec (ShowsLetter T s)
  rest? [] q = no (λ y. let w = sym (shown_rest y) ∙ q in clash cc)
  rest? (b ∷ r) q = fetches? b r q (meaning T s.quotes b) refl

shows? : (T : Table) (s : State) → Dec (ShowsLetter T s)
shows? T s = go s.bodies refl
  where
    go : (Bs : List Body) → s.bodies ≡ Bs → Dec (ShowsLetter T s)
    go [] e = no (λ y. let w = sym e ∙ y.innermost in clash cc)
    go (B ∷ Bs) e = rest? T s B Bs e B.rest refl

-- A run that shows a letter is another than before
module _ (L : Limits) (T : Table) where
  Differs : ℕ → State → Type 0
  Differs n s = end_of (scans L (language T) n (next s)) ≡ end_of (scans L (digits_only T) n (next s)) → ⊥

  -- at once,
  differs_here : (n : ℕ) (s : State) → ShowsLetter T s → Differs (suc n) s
  unfolding Differs Otherwise scans
  differs_here n s x e =
      fetches_otherwise L T s x n
      (e ∙ ap (λ (z : Step). end_of (scans L (digits_only T) n z)) (stopped_before L T s x) ∙ ap end_of (scans_stop L (digits_only T) n (at_letter L T s)))

  -- or after a scan that both make
  differs_later : (n : ℕ) (s s₁ : State) → (ShowsLetter T s → ⊥) → scan L (language T) s ≡ next s₁ → Differs n s₁ → Differs (suc n) s
  unfolding Differs scans
  differs_later n s s₁ unshown q d e =
      let q' = sym (scan_same L T parameter_number parameter_digit letters_aside s unshown) ∙ q in
      d (ap (λ (z : Step). end_of (scans L (language T) n z)) (sym q) ∙ e ∙ ap (λ (z : Step). end_of (scans L (digits_only T) n z)) q')

  differs : (n k : ℕ) (s s' : State) → k < n → scans L (language T) k (next s) ≡ next s' → ShowsLetter T s' → Differs n s
  unfolding scans
  differs zero k s s' l p x = absurd (omega arith)
  differs (suc n) zero s s' l p x = let same : s ≡ s' = cc in differs_here n s (subst (ShowsLetter T) (sym same) x)
  differs (suc n) (suc k) s s' l p x = go (shows? T s) (scan L (language T) s) refl (λ s₁ q. differs n k s₁ s' (omega arith) q x)
    where
      go : Dec (ShowsLetter T s) → (z : Step) → scan L (language T) s ≡ z
          → ((s₁ : State) → scans L (language T) k (next s₁) ≡ next s' → Differs n s₁) → Differs (suc n) s
      go (yes y) z q ih = differs_here n s y
      go (no unshown) (next s₁) q ih = differs_later n s s₁ unshown q (ih s₁ (ap (scans L (language T) k) (sym q) ∙ p))
      go (no unshown) (stop e) q ih = not_end (sym p ∙ ap (scans L (language T) k) q ∙ scans_stop L (language T) k e)

-- The theorems -------------------------------------------------------------------------------------------------------

module _ (T : Table) (t : Bytes) (ds : List Definition) where
  -- A run in which no body shows an unquoted `~` before a letter is the run of the language before request One, in outcome,
  -- output, all counts and standing definitions, under all limits; and no other run is.
  pub run_as_before : (L : Limits) (n : ℕ) → NoLetterShown L (language T) n t ds ↔ (run L (language T) n t ds ≡ run L (digits_only T) n t ds)
  unfolding run Differs
  run_as_before L n =
      (λ unshown. ap end_of (scans_same L T parameter_number parameter_digit letters_aside n (start t ds) unshown), λ e k s l p x. differs L T n k (start t ds) s l p x e)

  -- So is every run that did not end with 12 in that language.
  pub as_before_unless_12 : (L : Limits) (n : ℕ) → ((run L (digits_only T) n t ds).outcome ≡ Outcomes.fetches_nothing → ⊥)
      → run L (language T) n t ds ≡ run L (digits_only T) n t ds
  unfolding run
  as_before_unless_12 L n other = ap end_of (sym (scans_same L T parameter_digit parameter_number (λ b e. sym (letters_aside b e)) n (start t ds) unshown))
    where
      unshown : NoLetterShown L (digits_only T) n t ds
      unshown k s l p x =
          let r = next (start t ds) in
          let ended = scans_ended L (digits_only T) (suc k) n r (at_letter L T s) (omega arith) (scans_next L (digits_only T) k r s p ∙ stopped_before L T s x) in
          other (ap (λ (y : Step). (end_of y).outcome) ended)

  module _ (unshown : (n : ℕ) → NoLetterShown no_limits (language T) n t ds) where
    -- Where none does without limits, every run is as before,
    pub every-run_as_before : (L : Limits) (n : ℕ) → run L (language T) n t ds ≡ run L (digits_only T) n t ds
    every-run_as_before L n = (run_as_before L n).0 (λ k s l p. unshown n k s l (reached_alike (language T) t ds L k s p))

    -- and substitution comes to the ends that it came to.
    pub substitution_as_before : (e : End)
        → ((d : ℕ) × (substituted (language T) d t ds ≡ Some e)) ↔ ((d : ℕ) × (substituted (digits_only T) d t ds ≡ Some e))
    substitution_as_before e =
        let now = agreement (language T) t ds e in
        let before = agreement (digits_only T) t ds e in
        (λ p. before.0 (let q = now.1 p in (q.0, sym (alike q.0) ∙ q.1)), λ p. now.0 (let q = before.1 p in (q.0, alike q.0 ∙ q.1)))
      where
        alike : (n : ℕ) → scans no_limits (language T) n (next (start t ds)) ≡ scans no_limits (digits_only T) n (next (start t ds))
        alike n = scans_same no_limits T parameter_number parameter_digit letters_aside n (start t ds) (unshown n)
