-- What a scan leads to: a property of the next state, or one of the end.
use Prim.Native.Nat.{ℕ, zero, suc, ◌+◌}
use native.Mathlib.Omega.{arith}
use mathlib.Core.Path.{◌≡◌, refl, subst}
use mathlib.Core.Bool.{cond}
use lib.ListN.{length}
use Rattle.language.specs.Signs.{Bytes, Language}
use Rattle.language.specs.Outcomes
use Rattle.language.specs.Ends.{End}
use Rattle.language.specs.Scanning.{State, Step, next, stop, Limits}
use Rattle.language.specs.Scanning as S
use Rattle.language.proofs.Lists.{either}

pub data Leads (P : State → Type 0) (Q : End → Type 0) : Step → Type 0 where
  goes_on : {s : State} → P s → Leads P Q (next s)
  ended : {e : End} → Q e → Leads P Q (stop e)

module _ {P : State → Type 0} {Q : End → Type 0} where
  -- where the limit of cells enters a scan, and where that of the output does
  pub charging_leads : (L : Limits) (n : ℕ) (s : State) {t : Step} → Leads P Q t → Leads P Q (S.ends Outcomes.no_cells_left s)
      → Leads P Q (cond (S.allows L.cells (S.charge s + n)) t (S.ends Outcomes.no_cells_left s))
  charging_leads L n s x y = either (Leads P Q) (S.allows L.cells (S.charge s + n)) x y

  pub writing_leads : (L : Limits) (bs : Bytes) (s : State) {t : Step} → Leads P Q t → Leads P Q (S.ends Outcomes.no_output_left s)
      → Leads P Q (cond (S.allows L.output (length s.standing.output + length bs)) t (S.ends Outcomes.no_output_left s))
  writing_leads L bs s x y = either (Leads P Q) (S.allows L.output (length s.standing.output + length bs)) x y

  pub on_next : {t : Step} {s : State} → Leads P Q t → t ≡ next s → P s
  on_next {s = s} l e = go (subst (Leads P Q) e l)
    where
      go : Leads P Q (next s) → P s
      go (goes_on p) = p

  pub on_stop : {t : Step} {e : End} → Leads P Q t → t ≡ stop e → Q e
  on_stop {e = e} l p = go (subst (Leads P Q) p l)
    where
      go : Leads P Q (stop e) → Q e
      go (ended q) = q

  -- an invariant of every scan is one of every run
  pub scans_lead : (L : Limits) (G : Language) → ((s : State) → P s → Leads P Q (S.scan L G s)) → (n : ℕ) (t : Step) → Leads P Q t → Leads P Q (S.scans L G n t)
  unfolding S.scans
  scans_lead L G keep zero t l = l
  scans_lead L G keep (suc n) (next s) (goes_on p) = scans_lead L G keep n (S.scan L G s) (keep s p)
  scans_lead L G keep (suc n) (stop e) l = l

-- a state is not an end
pub not_end : {A : Type 0} {s : State} {e : End} → next s ≡ stop e → A
not_end p = let z : ◌≡◌ {A = ℕ} 0 1 = cc in absurd (omega arith)

-- an end stays
pub scans_stop : (L : Limits) (G : Language) (n : ℕ) (e : End) → S.scans L G n (stop e) ≡ stop e
unfolding S.scans
scans_stop L G zero e = refl
scans_stop L G (suc n) e = refl
