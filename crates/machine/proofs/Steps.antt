-- Scans one after another in the cells are as many scans of the language.
use Prim.Native.Nat.{ℕ, zero, suc, ◌+◌}
use native.Mathlib.Omega.{arith}
use mathlib.Core.Path.{◌≡◌, refl, sym, ap, subst, ◌∙◌}
use mathlib.Core.Bool.{cond}
use mathlib.Core.List.{List}
use lib.ListN.{length}
use Rattle.language.specs.Signs.{Bytes, Table, language}
use Rattle.language.specs.BuiltIns.{built_ins}
use Rattle.language.specs.Octets.{HoldsOctets}
use Rattle.language.specs.Scanning.{State, Step, next, stop, Limits, scan, scans}
use Rattle.language.specs.Expansion.{Lent, limits_of}
use Rattle.language.proofs.Leads.{goes_on as leadsOn, on_next, scans_lead, scans_stop}
use Rattle.language.proofs.Octets.{octets_kept}
use Rattle.language.proofs.Demand.{built_ins_free}
use Rattle.machine.specs.declared.run.Run.{Run}
use Rattle.machine.specs.declared.run.Answer.{Answer}
use Rattle.machine.specs.declared.run.Answer.TheVariants.{GoesOn, Ended, Damaged, Refused}
use Rattle.machine.specs.declared.run.Stepped.{Stepped}
use Rattle.machine.specs.Machine.{Indexed, InRange, leaves_indexed, keeping, goes, goes_on, step, steps}
use Rattle.machine.specs.Held.{Represents}
use Rattle.machine.specs.Moving.{Holds, Comes}
use Rattle.machine.proofs.Represents.{SimulatesIndexed, goes as simulates, stops, output_size, charge_is}
use Rattle.machine.proofs.Simulating.{step_sim}

-- no scan follows an end
pub steps-ended : (k : ℕ) (kinds text : List ℕ) (a : Indexed) → (a.after.answer ≡ GoesOn → ⊥) → steps k kinds text a ≡ a
unfolding steps
steps-ended zero kinds text a out = refl
steps-ended (suc k) kinds text a out = go a.after.answer out
  where
    go : (t : Answer) → (t ≡ GoesOn → ⊥) → cond (goes_on t) (steps k kinds text (step a.after.run kinds text a.heads a.after.lent)) a ≡ a
    go GoesOn over = absurd (over refl)
    go (Ended c) over = refl
    go Damaged over = refl
    go Refused over = refl

-- so many and then more are as many together
pub steps-add : (j k : ℕ) (kinds text : List ℕ) (a : Indexed) → steps (j + k) kinds text a ≡ steps k kinds text (steps j kinds text a)
unfolding steps
steps-add zero k kinds text a = let none : 0 + k ≡ k = omega arith in ap (λ (i : ℕ). steps i kinds text a) none
steps-add (suc j) k kinds text a =
    let more : suc j + k ≡ suc (j + k) = omega arith in
    ap (λ (i : ℕ). steps i kinds text a) more ∙ go a.after.answer refl (steps-add j k kinds text (step a.after.run kinds text a.heads a.after.lent))
  where
    b : Indexed
    b = step a.after.run kinds text a.heads a.after.lent

    over : (t : Answer) → (t ≡ GoesOn → ⊥) → a.after.answer ≡ t → a ≡ steps k kinds text a
    over t out e = sym (steps-ended k kinds text a (λ q. out (sym e ∙ q)))

    go : (t : Answer) → a.after.answer ≡ t → steps (j + k) kinds text b ≡ steps k kinds text (steps j kinds text b)
        → cond (goes_on t) (steps (j + k) kinds text b) a ≡ steps k kinds text (cond (goes_on t) (steps j kinds text b) a)
    go GoesOn e h = h
    go (Ended c) e h = over (Ended c) (λ q. let z : ◌≡◌ {A = ℕ} 0 1 = cc in omega arith) e
    go Damaged e h = over Damaged (λ q. let z : ◌≡◌ {A = ℕ} 0 1 = cc in omega arith) e
    go Refused e h = over Refused (λ q. let z : ◌≡◌ {A = ℕ} 0 1 = cc in omega arith) e

-- one of them is that scan
pub one_scan : (kinds text : List ℕ) (r : Run) (h : List ℕ) (m : Lent) {a : Indexed} → a ≡ steps 1 kinds text (keeping h (goes r m)) → a ≡ step r kinds text h m
unfolding steps
one_scan kinds text r h m e = e

module _ (T : Table) (text first : Bytes) (n : ℕ) where
  abbrev L : Limits
  L = limits_of n (length first)

  -- from memory that represents a state
  pub steps_sim : (k : ℕ) {r : Run} {ix : List ℕ} {m : Lent} {s : State} → Represents n built_ins ix text first r m s → HoldsOctets s
      → SimulatesIndexed n built_ins text first (steps k T text (keeping ix (goes r m))) (scans L (language T) k (next s))
  unfolding steps scans
  steps_sim zero h oct = simulates refl h
  steps_sim (suc k) {r} {ix} {m} {s} h oct = by (scan L (language T) s) refl (step_sim T h oct) (λ s₁ x y. steps_sim k x y)
    where
      a : Indexed
      a = step r T text ix m

      Goal : Indexed → Step → Type 0
      Goal y t = SimulatesIndexed n built_ins text first (steps k T text y) (scans L (language T) k t)

      by : (t : Step) → scan L (language T) s ≡ t → SimulatesIndexed n built_ins text first a t
          → ((s₁ : State) → Represents n built_ins a.heads text first a.after.run a.after.lent s₁ → HoldsOctets s₁ → Goal (keeping a.heads (goes a.after.run a.after.lent)) (next s₁)) → Goal a t
      by (next s₁) q (simulates e x) more =
          let is : keeping a.heads (goes a.after.run a.after.lent) ≡ a = ap (λ (y : Answer). keeping a.heads (record { run = a.after.run; answer = y; lent = a.after.lent })) (sym e) in
          subst (λ (y : Indexed). Goal y (next s₁)) is (more s₁ x (on_next (octets_kept L (language T) s oct) q))
      by (stop y) q (stops x) more =
          let over : a.after.answer ≡ GoesOn → ⊥ = λ e. let z : ◌≡◌ {A = ℕ} 0 1 = cc x.answer in omega arith in
          rw (steps-ended k T text a over, scans_stop L (language T) k y) (stops x)

-- so a call that leaves what so many of them do, with its numbers in range where it goes on, comes to what the scanning comes to
pub moving : (T : Table) (text : Bytes) (due : ℕ) (r : Run) (h₀ : List ℕ) (m : Lent) (st : Stepped) (h' : List ℕ) (m' : Lent) → leaves_indexed st m' h' ≡ steps due T text (keeping h₀ (goes r m))
    → length m'.cells ≡ length m.cells → length m'.output ≡ length m.output
    → (st.answer ≡ GoesOn → InRange (length m.cells) (length m.output) st.run) → (start : Bytes) (s : State) → Holds h₀ text start r m s
    → Comes h' text start st m' (scans (limits_of (length m.cells) (length m.output)) (language T) due (next s))
moving T text due r h₀ m st h' m' is cs os ranged start s x = go (scans L' (language T) due (next s)) refl simulated
  where
    L' : Limits
    L' = limits_of (length m.cells) (length m.output)

    simulated : SimulatesIndexed (length m.cells) built_ins text start (leaves_indexed st m' h') (scans L' (language T) due (next s))
    simulated =
        subst (λ (y : Indexed). SimulatesIndexed (length m.cells) built_ins text start y (scans L' (language T) due (next s))) (sym is)
        (subst (λ (j : ℕ). SimulatesIndexed (length m.cells) built_ins text start (steps due T text (keeping h₀ (goes r m))) (scans (limits_of (length m.cells) j) (language T) due (next s))) (sym (output_size x.represents.lies))
        (steps_sim T text start (length m.cells) due x.represents x.octets))

    go : (t : Step) → scans L' (language T) due (next s) ≡ t → SimulatesIndexed (length m.cells) built_ins text start (leaves_indexed st m' h') t → Comes h' text start st m' t
    go (next s₁) q (simulates e h) = (
      e,
      record {
        represents = rw cs h;
        octets = on_next (scans_lead L' (language T) (octets_kept L' (language T)) due (next s) (leadsOn x.octets)) q;
        in_range = rw (cs, os) (ranged e);
        carries = sym (charge_is built_ins_free h);
      },
    )
    go (stop y) q (stops h) = h
