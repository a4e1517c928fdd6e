-- Between two scans the numbers are those of what was written so far.
use Prim.Native.Nat.{ℕ, suc, ◌+◌, ◌-◌, ◌≤◌, ◌<◌}
use native.Mathlib.Omega.{arith}
use mathlib.Core.Path.{◌≡◌, refl, sym, ap, subst, ◌∙◌}
use mathlib.Core.Bool.{Bool, true, false, ◌||◌, true≢false}
use mathlib.Core.List.{List, [], ◌∷◌, ◌++◌, append-nil, append_assoc, map, map-append}
use Rattle.std.specs.Prelude.{Option, None, Some}
use lib.ListN.{length, length-append, length-map, length-drop}
use lib.Dec.{ltb}
use borrow.Author.Tests.{ltb-false}
use Rattle.memory.specs.Block.{placed, repeated, filled}
use Rattle.memory.proofs.Blocks.{filled_in, placed-length, placed-none, placed-append, length-repeated}
use Rattle.language.specs.Signs.{Bytes, Table, Language, language}
use Rattle.language.specs.BuiltIns.{built_ins}
use Rattle.language.specs.Octets.{HoldsOctets}
use Rattle.language.specs.Scanning.{State, Step, next, stop, Limits, scan}
use Rattle.language.specs.Expansion.{Lent, limits_of}
use Rattle.language.specs.Origins.{Writes, bytes_in, writes, Origin, each, scan_origins, origins_from, reads_of, rules_of, Numbers, numbers, too_short}
use Rattle.language.proofs.Leads.{on_next}
use Rattle.language.proofs.Octets.{octets_kept}
use Rattle.language.proofs.Origins.{scan_writes, none_at_end, origins_stop}
use Rattle.machine.specs.declared.run.Run.{Run}
use Rattle.machine.specs.declared.run.Answer.TheVariants.{GoesOn}
use Rattle.machine.specs.Walks.{cell}
use Rattle.machine.specs.Machine.{Indexed, goes, keeping, step, steps}
use Rattle.machine.specs.Held.{Represents}
use Rattle.machine.specs.Moving.{Holds}
use Rattle.language.specs.declared.rules.Rule.{Rule}
use Rattle.language.specs.Origins.{rule_number}
use Rattle.machine.specs.Origins.{noted_from, Noted, rule, note, note_unless, at_once}
use Rattle.machine.proofs.Lists.{cell_is}
use Rattle.machine.proofs.Represents.{SimulatesIndexed, goes as simulates, stops, output_size}
use Rattle.machine.proofs.Simulating.{step_sim}
use Rattle.machine.proofs.Steps.{one_scan}
use Rattle.machine.proofs.Rules.{RuleIs, rule_is}

-- of two tests that are not both failed
neither : (a b : Bool) → a || b ≡ false → (a ≡ false) × (b ≡ false)
neither true b e = absurd (true≢false e)
neither false b e = (refl, e)

-- as many as are left, or one of them
pub at_once_few : (silent : Bool) (left : ℕ) → 0 < left → (at_once silent left ≤ left) × (0 < at_once silent left)
at_once_few true left h = (omega arith, h)
at_once_few false left h = (h, omega arith)

-- One scan more ------------------------------------------------------------------------------------------------------

-- so many of one number behind others
filled_more : (to : ℕ) (xs : List ℕ) (count v : ℕ) (l : List ℕ) → to + length xs + count ≤ length l
    → filled (to + length xs) count v (placed to xs l) ≡ placed to (xs ++ repeated count v) l
filled_more to xs count v l h =
    let z = length-repeated count v in
    let size : length (placed to xs l) ≡ length l = placed-length to xs l (omega arith) in
    filled_in (to + length xs) count v (placed to xs l) (omega arith) ∙ placed-append to xs (repeated count v) l (omega arith)

-- what one scan adds to a run of numbers that holds what is read off the origins before
column : (f : Origin → ℕ) (to : ℕ) (before os : List Origin) (written count v : ℕ) (l : List ℕ) → written ≡ to + length before → written + count ≤ length l
    → map f os ≡ repeated count v → filled written count v (placed to (map f before) l) ≡ placed to (map f (before ++ os)) l
column f to before os written count v l e h is =
    let size = length-map before f in
    let from : written ≡ to + length (map f before) = omega arith in
    ap (λ (k : ℕ). filled k count v (placed to (map f before) l)) from
    ∙ filled_more to (map f before) count v l (omega arith)
    ∙ ap (λ (ys : List ℕ). placed to (map f before ++ ys) l) (sym is)
    ∙ ap (λ (ys : List ℕ). placed to ys l) (sym (map-append f before os))

-- the same read off each
same_each : (f : Origin → ℕ) (read by v : ℕ) → ((b : ℕ) → f (record { byte = b; read = read; rule = by }) ≡ v) → (bs : Bytes)
    → map f (each read by bs) ≡ repeated (length bs) v
unfolding repeated
same_each f read by v h [] = refl
same_each f read by v h (b ∷ bs) = rw (h b, same_each f read by v h bs)

-- what one scan adds to both runs of numbers
record Own (k : Rule) (w : Option Writes) (s : State) : Type 0 where
  pub count : length (scan_origins w (next s)) ≡ length (bytes_in w)
  pub reads : reads_of (scan_origins w (next s)) ≡ repeated (length (bytes_in w)) s.standing.read
  pub rules : rules_of (scan_origins w (next s)) ≡ repeated (length (bytes_in w)) (rule_number k)

own : (k : Rule) (w : Option Writes) (s : State) → RuleIs k w → Own k w s
unfolding repeated
own k None s h = record { count = refl; reads = refl; rules = refl }
own k (Some w) s h = record {
  count = length-map w.bytes _;
  reads = same_each (λ (o : Origin). o.read) s.standing.read w.rule s.standing.read (λ b. refl) w.bytes;
  rules = same_each (λ (o : Origin). o.rule) s.standing.read w.rule (rule_number k) (λ b. h) w.bytes;
}

-- The loop -----------------------------------------------------------------------------------------------------------

module _ (T : Table) (text first : Bytes) (n : ℕ) where
  abbrev L : Limits
  L = limits_of n (length first)

  abbrev G : Language
  G = language T

  -- of a state s₀ that was held before the first scan, when so many bytes were written and the numbers were ns₀
  pub record Tracing (due₀ : ℕ) (s₀ : State) (written₀ : ℕ) (ns₀ : Numbers) (r : Run) (h : List ℕ) (m : Lent) (ns : Numbers) (until : ℕ) : Type 0 where
    pub state : State
    pub represents : Represents n built_ins h text first r m state
    pub octets : HoldsOctets state
    pub done : List Origin
    pub all : origins_from L G due₀ (next s₀) ≡ done ++ origins_from L G (until - r.counts.scans) (next state)
    pub wrote : r.counts.written ≡ written₀ + length done
    pub numbers : ns ≡ noted_from written₀ done ns₀
    pub counted : state.standing.read + length state.text < 4294967296
    pub origins : length first ≤ length ns₀.origins
    pub rules : length first ≤ length ns₀.rules

  module _ {due₀ : ℕ} {s₀ : State} {written₀ : ℕ} {ns₀ : Numbers} {r : Run} {ix : List ℕ} {m : Lent} {ns : Numbers} {until : ℕ}
      (x : Tracing due₀ s₀ written₀ ns₀ r ix m ns until) (some : r.counts.scans < until) (a : Indexed) (e : a ≡ step r T text ix m) where
    abbrev s : State
    s = x.state

    more : until - r.counts.scans ≡ suc (until - (r.counts.scans + 1))
    more = omega arith

    simulated : SimulatesIndexed n built_ins text first a (scan L G s)
    simulated = subst (λ (y : Indexed). SimulatesIndexed n built_ins text first y (scan L G s)) (sym e) (step_sim T x.represents x.octets)

    -- what is due begins with this scan
    due : origins_from L G due₀ (next s₀) ≡ x.done ++ (scan_origins (writes G s) (scan L G s) ++ origins_from L G (until - (r.counts.scans + 1)) (scan L G s))
    unfolding origins_from
    due = x.all ∙ ap (λ (j : ℕ). x.done ++ origins_from L G j (next s)) more

    pub traced : a.after.answer ≡ GoesOn → a.after.run.counts.scans ≡ r.counts.scans + 1
        → Tracing due₀ s₀ written₀ ns₀ a.after.run a.heads a.after.lent (note r a.after.run (rule r T m.cells) ns) until
    traced on once = go (scan L G s) refl simulated
      where
        go : (t : Step) → scan L G s ≡ t → SimulatesIndexed n built_ins text first a t
            → Tracing due₀ s₀ written₀ ns₀ a.after.run a.heads a.after.lent (note r a.after.run (rule r T m.cells) ns) until
        go (stop y) q (stops h) = let z : ◌≡◌ {A = ℕ} 0 1 = cc h.answer in absurd (omega arith)
        go (next s₁) q (simulates g h) =
            let w = writes G s in
            let k = rule r T m.cells in
            let os = scan_origins w (next s₁) in
            let sc = on_next (scan_writes L G s) q in
            let mine = own k w s₁ (rule_is x.represents T x.octets) in
            let long = ap length sc.output ∙ length-append s.standing.output (bytes_in w) in
            let before = x.represents.lies.wrote.written in
            let after = h.lies.wrote.written in
            let count : a.after.run.counts.written - r.counts.written ≡ length (bytes_in w) = omega arith in
            let fits : r.counts.written + length (bytes_in w) ≤ length first = omega (arith, h.lies.wrote.enough) in
            let counted : s₁.standing.read + length s₁.text < 4294967296 =
            omega (arith, x.counted, sc.read, ap length sc.text, length-drop sc.taken s.text, sc.within) in
            let read : cell a.after.run.counts.read ≡ s₁.standing.read = ap cell h.lies.read ∙ cell_is s₁.standing.read (omega arith) in
            let reads : reads_of os ≡ repeated (a.after.run.counts.written - r.counts.written) (cell a.after.run.counts.read) =
            mine.reads ∙ ap (λ (c : ℕ). repeated c s₁.standing.read) (sym count) ∙ ap (repeated (a.after.run.counts.written - r.counts.written)) (sym read) in
            let rules : rules_of os ≡ repeated (a.after.run.counts.written - r.counts.written) (rule_number k) = mine.rules ∙ ap (λ (c : ℕ). repeated c (rule_number k)) (sym count) in
            let first' = column (λ (o : Origin). o.read) written₀ x.done os r.counts.written (a.after.run.counts.written - r.counts.written) (cell a.after.run.counts.read) ns₀.origins x.wrote (omega (arith, x.origins)) reads in
            let second = column (λ (o : Origin). o.rule) written₀ x.done os r.counts.written (a.after.run.counts.written - r.counts.written) (rule_number k) ns₀.rules x.wrote (omega (arith, x.rules)) rules in
            record {
              state = s₁;
              represents = h;
              octets = on_next (octets_kept L G s x.octets) q;
              done = x.done ++ os;
              all =
                  due
                  ∙ ap (λ (t : Step). x.done ++ (scan_origins w t ++ origins_from L G (until - (r.counts.scans + 1)) t)) q
                  ∙ sym (append_assoc x.done os (origins_from L G (until - (r.counts.scans + 1)) (next s₁)))
                  ∙ ap (λ (j : ℕ). (x.done ++ os) ++ origins_from L G (until - j) (next s₁)) (sym once);
              wrote = omega (arith, length-append x.done os, mine.count, x.wrote);
              numbers =
                  ap (note r a.after.run k) x.numbers
                  ∙ ap (λ (y : List ℕ). numbers y (filled r.counts.written (a.after.run.counts.written - r.counts.written) (rule_number k) (placed written₀ (rules_of x.done) ns₀.rules))) first'
                  ∙ ap (numbers (placed written₀ (reads_of (x.done ++ os)) ns₀.origins)) second;
              counted = counted;
              origins = x.origins;
              rules = x.rules;
            }

    -- the scan that ends the run adds nothing
    pub traced_ended : (a.after.answer ≡ GoesOn → ⊥) → ns ≡ noted_from written₀ (origins_from L G due₀ (next s₀)) ns₀
    traced_ended out = go (scan L G s) refl simulated
      where
        go : (t : Step) → scan L G s ≡ t → SimulatesIndexed n built_ins text first a t → ns ≡ noted_from written₀ (origins_from L G due₀ (next s₀)) ns₀
        go (stop y) q (stops h) =
            let none : origins_from L G due₀ (next s₀) ≡ x.done =
            due
            ∙ ap (λ (t : Step). x.done ++ (scan_origins (writes G s) t ++ origins_from L G (until - (r.counts.scans + 1)) t)) q
            ∙ ap (λ (os : List Origin). x.done ++ (os ++ origins_from L G (until - (r.counts.scans + 1)) (stop y))) (none_at_end L G (writes G s) y)
            ∙ ap (λ (os : List Origin). x.done ++ os) (origins_stop L G (until - (r.counts.scans + 1)) y)
            ∙ append-nil x.done in
            x.numbers ∙ ap (λ (os : List Origin). noted_from written₀ os ns₀) (sym none)
        go (next s₁) q (simulates g h) = absurd (out g)

  -- before the first scan nothing is noted
  pub traces : {r : Run} {ix : List ℕ} {m : Lent} (due₀ : ℕ) (s₀ : State) (ns₀ : Numbers) → Represents n built_ins ix text first r m s₀ → HoldsOctets s₀
      → too_short ns₀ (length first) ≡ false → s₀.standing.read + length s₀.text < 4294967296
      → Tracing due₀ s₀ r.counts.written ns₀ r ix m ns₀ (r.counts.scans + due₀)
  traces {r} due₀ s₀ ns₀ h oct long counted =
      let each = neither (ltb (length ns₀.origins) (length first)) (ltb (length ns₀.rules) (length first)) long in
      let all' : due₀ ≡ r.counts.scans + due₀ - r.counts.scans = omega arith in
      record {
        state = s₀;
        represents = h;
        octets = oct;
        done = [];
        all = ap (λ (j : ℕ). origins_from L G j (next s₀)) all';
        wrote = omega arith;
        numbers = sym (ap (λ (y : List ℕ). numbers y (placed r.counts.written [] ns₀.rules)) (placed-none r.counts.written ns₀.origins) ∙ ap (numbers ns₀.origins) (placed-none r.counts.written ns₀.rules));
        counted = counted;
        origins = ltb-false _ _ each.0;
        rules = ltb-false _ _ each.1;
      }

  -- after the last one all is
  pub traced_all : {due₀ : ℕ} {s₀ : State} {written₀ : ℕ} {ns₀ : Numbers} {r : Run} {ix : List ℕ} {m : Lent} {ns : Numbers} {until : ℕ}
      → Tracing due₀ s₀ written₀ ns₀ r ix m ns until → until ≤ r.counts.scans → ns ≡ noted_from written₀ (origins_from L G due₀ (next s₀)) ns₀
  unfolding origins_from
  traced_all {written₀ = written₀} {ns₀} {r} {until = until} x over =
      let none : until - r.counts.scans ≡ 0 = omega arith in
      let is = x.all ∙ ap (λ (j : ℕ). x.done ++ origins_from L G j (next x.state)) none ∙ append-nil x.done in
      x.numbers ∙ ap (λ (os : List Origin). noted_from written₀ os ns₀) (sym is)

-- Whatever state was held at first --------------------------------------------------------------------------------

module _ (T : Table) (text : Bytes) (r₀ : Run) (h₀ : List ℕ) (m₀ : Lent) (due₀ : ℕ) (ns₀ : Numbers) where
  -- what the loop keeps
  abbrev pub Notable : Run → List ℕ → Lent → Numbers → ℕ → Type 0
  Notable r ix m ns until =
      (start : Bytes) (s : State) → Holds h₀ text start r₀ m₀ s → too_short ns₀ (length m₀.output) ≡ false → s.standing.read + length s.text < 4294967296
      → Tracing T text start (length m₀.cells) due₀ s r₀.counts.written ns₀ r ix m ns until

  pub notable : Notable r₀ h₀ m₀ ns₀ (r₀.counts.scans + due₀)
  notable start s x long counted =
      let size = output_size x.represents.lies in
      traces T text start (length m₀.cells) due₀ s ns₀ x.represents x.octets (ap (too_short ns₀) (sym size) ∙ long) counted

  -- what it leaves
  all_noted : {ns : Numbers}
      → ((start : Bytes) (s : State) → Holds h₀ text start r₀ m₀ s → too_short ns₀ (length m₀.output) ≡ false → s.standing.read + length s.text < 4294967296
      → ns ≡ noted_from r₀.counts.written (origins_from (limits_of (length m₀.cells) (length start)) (language T) due₀ (next s)) ns₀)
      → Noted T text due₀ r₀ h₀ m₀ ns₀ ns
  all_noted h start s x long counted =
      h start s x long counted
      ∙ ap (λ (j : ℕ). noted_from r₀.counts.written (origins_from (limits_of (length m₀.cells) j) (language T) due₀ (next s)) ns₀) (sym (output_size x.represents.lies))

  module _ {r : Run} {ix : List ℕ} {m : Lent} {ns : Numbers} {until : ℕ} (t : Notable r ix m ns until) where
    pub noted_again : r.counts.scans < until → (a : Indexed) → a ≡ step r T text ix m → a.after.answer ≡ GoesOn → a.after.run.counts.scans ≡ r.counts.scans + 1
        → {k : Rule} → k ≡ rule r T m.cells → {ns' : Numbers} → ns' ≡ note r a.after.run k ns → Notable a.after.run a.heads a.after.lent ns' until
    noted_again left₁ a e on once known is start s x long counted =
        subst (λ (y : Numbers). Tracing T text start (length m₀.cells) due₀ s r₀.counts.written ns₀ a.after.run a.heads a.after.lent y until)
        (sym (is ∙ ap (λ (j : Rule). note r a.after.run j ns) known)) (traced T text start (length m₀.cells) (t start s x long counted) left₁ a e on once)

    pub noted-ended : r.counts.scans < until → (a : Indexed) → a ≡ step r T text ix m → (a.after.answer ≡ GoesOn → ⊥) → Noted T text due₀ r₀ h₀ m₀ ns₀ ns
    noted-ended left a e out = all_noted (λ start s x long counted. traced_ended T text start (length m₀.cells) (t start s x long counted) left a e out)

    pub noted_done : until ≤ r.counts.scans → Noted T text due₀ r₀ h₀ m₀ ns₀ ns
    noted_done over = all_noted (λ start s x long counted. traced_all T text start (length m₀.cells) (t start s x long counted) over)

    -- whether the scan was noted or several were made at once: that nothing is noted is told by the lengths
    module _ (silent : Bool) (told : silent ≡ too_short ns₀ (length m₀.output)) (left : ℕ) where
      pub noted_on : r.counts.scans < until → (a : Indexed) → a ≡ steps (at_once silent left) T text (keeping ix (goes r m)) → a.after.answer ≡ GoesOn
          → a.after.run.counts.scans ≡ r.counts.scans + at_once silent left → {k : Rule} → k ≡ rule r T m.cells → {ns' : Numbers} → ns' ≡ note_unless silent r a.after.run k ns
          → Notable a.after.run a.heads a.after.lent ns' until
      noted_on due a e on once {k} known {ns'} is = go silent told e once is
        where
          go : (b : Bool) → b ≡ too_short ns₀ (length m₀.output) → a ≡ steps (at_once b left) T text (keeping ix (goes r m)) → a.after.run.counts.scans ≡ r.counts.scans + at_once b left
              → ns' ≡ note_unless b r a.after.run k ns → Notable a.after.run a.heads a.after.lent ns' until
          go true t e₁ o i = λ start s x long counted. absurd (true≢false (t ∙ long))
          go false t e₁ o i = noted_again due a (one_scan T text r ix m e₁) on o known i

      pub noted_over : r.counts.scans < until → (a : Indexed) → a ≡ steps (at_once silent left) T text (keeping ix (goes r m)) → (a.after.answer ≡ GoesOn → ⊥) → Noted T text due₀ r₀ h₀ m₀ ns₀ ns
      noted_over due a e out = go silent told e
        where
          go : (b : Bool) → b ≡ too_short ns₀ (length m₀.output) → a ≡ steps (at_once b left) T text (keeping ix (goes r m)) → Noted T text due₀ r₀ h₀ m₀ ns₀ ns
          go true t e₁ = λ start s x long counted. absurd (true≢false (t ∙ long))
          go false t e₁ = noted-ended due a (one_scan T text r ix m e₁) out

      -- what is too short stays as it is
      pub kept_on : (too_short ns₀ (length m₀.output) ≡ true → ns ≡ ns₀) → (r' : Run) (k : Rule) {ns' : Numbers} → ns' ≡ note_unless silent r r' k ns
          → too_short ns₀ (length m₀.output) ≡ true → ns' ≡ ns₀
      kept_on kept r' k is short =
          let quiet : silent ≡ true = told ∙ short in
          is ∙ ap (λ (b : Bool). note_unless b r r' k ns) quiet ∙ kept short
