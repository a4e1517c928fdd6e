-- Runs of the unlimited machine: what they come to and how long they last.
use Prim.Native.Nat.{ℕ, zero, suc, ◌≤◌, ◌+◌}
use native.Mathlib.Nat.{zero-add, suc-add}
use mathlib.Core.Path.{◌≡◌, refl, sym, ◌∙◌}
use lib.ListN.{length}
use Rattle.language.specs.Signs.{Bytes, Language}
use Rattle.language.specs.Ends.{End}
use Rattle.language.specs.Scanning.{State, Step, next, stop, no_limits}
use Rattle.language.specs.Scanning as S
use Rattle.language.specs.Substitution.{Held, Result, stretch, finish, deeper, ◌then◌}
use Rattle.language.proofs.Leads.{not_end, scans_stop}

module _ (G : Language) where
  abbrev pub scan : State → Step
  scan s = S.scan no_limits G s

  abbrev pub scans : ℕ → Step → Step
  scans n t = S.scans no_limits G n t

  -- a scan from s, now or later, has the result t
  pub data Gets (t : Step) : State → Type 0 where
    now : {s : State} → scan s ≡ t → Gets t s
    later : {s s' : State} → scan s ≡ next s' → Gets t s' → Gets t s

  -- from s the machine makes n scans and has not ended
  pub data Lasts : ℕ → State → Type 0 where
    any : {s : State} → Lasts zero s
    one : {n : ℕ} {s s' : State} → scan s ≡ next s' → Lasts n s' → Lasts (suc n) s

  pub join : {t : Step} {s' s : State} → Gets (next s') s → Gets t s' → Gets t s
  join (now e) h = later e h
  join (later e g) h = later e (join g h)

  pub fewer : {n : ℕ} {s : State} → Lasts (suc n) s → Lasts n s
  fewer l = go _ l
    where
      go : (n : ℕ) {s : State} → Lasts (suc n) s → Lasts n s
      go zero l = any
      go (suc n) (one e l) = one e (go n l)

  pub lasts : {n : ℕ} {s' s : State} → Gets (next s') s → Lasts n s' → Lasts (suc n) s
  lasts (now e) l = one e l
  lasts (later e g) l = one e (fewer (lasts g l))

  -- What a result of substitution says of the machine's run from s: a value leads to the step that κ makes of it, leaves at
  -- most n bytes and is good; an end is that end; "deeper" lasts d scans at least.
  pub data Comes (κ : Bytes → Held → Step) (P : Held → Type 0) (n d : ℕ) (s : State) : Result → Type 0 where
    to_stretch : {r : Bytes} {h : Held} → Gets (κ r h) s → length r ≤ n → P h → Comes κ P n d s (stretch r h)
    to_finish : {e : End} → Gets (stop e) s → Comes κ P n d s (finish e)
    to_deeper : Lasts d s → Comes κ P n d s deeper

  -- after one scan or more
  pub after : {κ : Bytes → Held → Step} {P : Held → Type 0} {n d : ℕ} {s s' : State} {r : Result}
      → Gets (next s') s → Comes κ P n d s' r → Comes κ P n (suc d) s r
  after g (to_stretch c l k) = to_stretch (join g c) l k
  after g (to_finish c) = to_finish (join g c)
  after g (to_deeper l) = to_deeper (lasts g l)

  pub weaker : {κ : Bytes → Held → Step} {P : Held → Type 0} {n d : ℕ} {s : State} {r : Result} → Comes κ P n (suc d) s r → Comes κ P n d s r
  weaker (to_stretch c l k) = to_stretch c l k
  weaker (to_finish c) = to_finish c
  weaker (to_deeper l) = to_deeper (fewer l)

  -- one evaluation after another
  pub then_comes : {κ κ' : Bytes → Held → Step} {P P' : Held → Type 0} {n n' d : ℕ} {s : State} {r : Result} (f : Bytes → Held → Result)
      → Comes κ P n d s r
      → ((x : Bytes) (h : Held) → Gets (κ x h) s → length x ≤ n → P h → Comes κ' P' n' d s (f x h))
      → Comes κ' P' n' d s (r then f)
  then_comes f (to_stretch {r = x} {h = h} c l g) k = k x h c l g
  then_comes f (to_finish c) k = to_finish c
  then_comes f (to_deeper l) k = to_deeper l

  -- Gets and the run

  pub scans_gets : (n : ℕ) (s : State) (e : End) → scans n (next s) ≡ stop e → Gets (stop e) s
  unfolding S.scans
  scans_gets zero s e p = not_end p
  scans_gets (suc n) s e p = go (scan s) refl p (λ s' p'. scans_gets n s' e p')
    where
      go : (t : Step) → scan s ≡ t → scans n t ≡ stop e → ((s' : State) → scans n (next s') ≡ stop e → Gets (stop e) s') → Gets (stop e) s
      go (next s') q p ih = later q (ih s' p)
      go (stop e') q p ih = now (q ∙ sym (scans_stop no_limits G n e') ∙ p)

  pub gets_scans : {e : End} {s : State} → Gets (stop e) s → (n : ℕ) × (scans n (next s) ≡ stop e)
  unfolding S.scans
  gets_scans (now p) = (1, p)
  gets_scans (later p g) = let r = gets_scans g in (suc r.0, rw p r.1)

  pub gets_once : {e e' : End} {s : State} → Gets (stop e) s → Gets (stop e') s → e ≡ e'
  gets_once (now p) (now p') = cc
  gets_once (now p) (later p' g') = not_end (sym p' ∙ p)
  gets_once (later p g) (now p') = not_end (sym p ∙ p')
  gets_once {e} {e'} (later {s' = a} p g) (later {s' = b} p' g') = let q : a ≡ b = cc in gets_once g (rw (← q) at g')

  -- a run that ends after n scans does not last longer
  pub not_longer : (n : ℕ) (s : State) (e : End) → scans n (next s) ≡ stop e → Lasts n s → ⊥
  unfolding S.scans
  not_longer zero s e p l = not_end p
  not_longer (suc n) s e p (one {s' = s'} q l) = not_longer n s' e (sym (rw q refl) ∙ p) l

  pub scans_more : (n k : ℕ) (t : Step) (e : End) → scans n t ≡ stop e → scans (n + k) t ≡ stop e
  unfolding S.scans
  scans_more zero k t e p = rw (p, zero-add) (scans_stop no_limits G k e)
  scans_more (suc n) k (next s) e p = rw suc-add (scans_more n k (scan s) e p)
  scans_more (suc n) k (stop e') e p = rw suc-add p
