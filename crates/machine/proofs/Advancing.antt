-- Scan after scan: what the exported call promises.
use Prim.Native.Nat.{ℕ, suc, ◌+◌, ◌-◌, ◌≤◌, ◌<◌}
use native.Mathlib.Omega.{arith}
use mathlib.Core.Path.{◌≡◌, refl, sym, ap, subst, ◌∙◌}
use mathlib.Core.Bool.{Bool, true, false, cond, true≢false}
use mathlib.Core.List.{List}
use lib.ListN.{length, get_or}
use lib.Dec.{eqb, ltb}
use borrow.Author.Tests.{ltb-false, leb-true, le-ltb, le-leb, eqb-true, eq-eqb}
use Rattle.language.specs.Signs.{Bytes, Table, cells_limit}
use Rattle.language.specs.Expansion.{Lent}
use Rattle.machine.specs.declared.run.Run.{Run}
use Rattle.machine.specs.declared.run.Answer.{Answer}
use Rattle.machine.specs.declared.run.Answer.TheVariants.{GoesOn, Refused}
use Rattle.machine.specs.declared.run.Stepped.{Stepped}
use Rattle.machine.specs.Machine as M
use Rattle.machine.specs.Machine.{Ready, InRange, last_scan}
use Rattle.machine.specs.Moving.{is_in_range, Advances}
use Rattle.machine.proofs.Keeping.{Kept, step_kept}
use Rattle.machine.proofs.Steps.{steps-ended, steps-add, moving}

-- The test of a standing ---------------------------------------------------------------------------------------------

-- a test that must fail, and one that must hold
passes : (t : Bool) {x : Bool} → cond t false x ≡ true → (t ≡ false) × (x ≡ true)
passes true e = absurd (true≢false (sym e))
passes false e = (refl, e)

holds : (t : Bool) {x : Bool} → cond t x false ≡ true → (t ≡ true) × (x ≡ true)
holds true e = (refl, e)
holds false e = absurd (true≢false (sym e))

-- what passes is in range
pub in_range_lem : (r : Run) (n k : ℕ) → is_in_range r n k ≡ true → InRange n k r
in_range_lem r n k e =
    let a = passes (ltb cells_limit n) e in
    let b = passes (ltb n r.right) a.1 in
    let c = passes (ltb r.right r.calls.left) b.1 in
    let d = passes (ltb n r.charge) c.1 in
    let f = holds (eqb (r.charge + r.right) (r.calls.left + n)) d.1 in
    let g = passes (ltb cells_limit r.counts.live) f.1 in
    let h = passes (ltb k r.counts.written) g.1 in
    let i = passes (ltb 65535 r.calls.call) h.1 in
    let j = passes (ltb 65536 r.calls.hand) i.1 in
    let o = passes (ltb 65535 r.source.list) j.1 in
    let p = passes (ltb 65535 r.source.body) o.1 in
    let q = passes (ltb 4294967296 r.source.offset) p.1 in
    record {
      ready = record {
        cells_lent = ltb-false _ _ a.0;
        ordered = ltb-false _ _ c.0;
        inside = ltb-false _ _ b.0;
        in_use = eqb-true _ _ f.0;
        call_below = ltb-false _ _ i.0;
        hand_below = ltb-false _ _ j.0;
        list_below = ltb-false _ _ o.0;
        body_below = ltb-false _ _ p.0;
        offset_below = ltb-false _ _ q.0;
        quotes_below = omega (arith, leb-true r.quotes r.counts.scans q.1);
        live_below = ltb-false _ _ g.0;
      };
      written = ltb-false _ _ h.0;
    }

-- and what is in range passes
pub range_in : (r : Run) (n k : ℕ) → InRange n k r → is_in_range r n k ≡ true
range_in r n k h =
    let s = h.ready in
    rw (
      le-ltb cells_limit n s.cells_lent,
      le-ltb n r.right s.inside,
      le-ltb r.right r.calls.left s.ordered,
      le-ltb n r.charge (omega (arith, s.in_use, s.ordered, s.inside)),
      eq-eqb (r.charge + r.right) (r.calls.left + n) s.in_use,
      le-ltb cells_limit r.counts.live s.live_below,
      le-ltb k r.counts.written h.written,
      le-ltb 65535 r.calls.call s.call_below,
      le-ltb 65536 r.calls.hand s.hand_below,
      le-ltb 65535 r.source.list s.list_below,
      le-ltb 65535 r.source.body s.body_below,
      le-ltb 4294967296 r.source.offset s.offset_below,
      le-leb r.quotes r.counts.scans (omega (arith, s.quotes_below)),
    )

-- Between two scans --------------------------------------------------------------------------------------------------

module _ (T : Table) (text : Bytes) (n k : ℕ) where
  -- what the loop keeps until so many scans are made: r₀ and m₀ stood before its first one
  pub record Going (r₀ : Run) (h₀ : List ℕ) (m₀ : Lent) (due₀ : ℕ) (r : Run) (h : List ℕ) (m : Lent) (until : ℕ) : Type 0 where
    pub cells : length m.cells ≡ n
    pub output : length m.output ≡ k
    pub small : (i : ℕ) → get_or m.cells i 0 < 4294967296
    pub in_range : InRange n k r
    pub counted : until ≤ last_scan
    pub not_past : r.counts.scans ≤ until
    pub all : until ≡ r₀.counts.scans + due₀
    pub made : M.steps due₀ T text (M.keeping h₀ (M.goes r₀ m₀)) ≡ M.steps (until - r.counts.scans) T text (M.keeping h (M.goes r m))

  pub begins : (r : Run) (h : List ℕ) (m : Lent) (due : ℕ) → length m.cells ≡ n → length m.output ≡ k → ((i : ℕ) → get_or m.cells i 0 < 4294967296)
      → InRange n k r → r.counts.scans + due ≤ last_scan → Going r h m due r h m (r.counts.scans + due)
  begins r h m due c o b i t =
      let all : due ≡ r.counts.scans + due - r.counts.scans = omega arith in
      record {
        cells = c;
        output = o;
        small = b;
        in_range = i;
        counted = t;
        not_past = omega arith;
        all = refl;
        made = ap (λ (j : ℕ). M.steps j T text (M.keeping h (M.goes r m))) all;
      }

  -- what so many scans leave is what is promised
  advances : {r₀ : Run} {h₀ h' : List ℕ} {m₀ m' : Lent} {due₀ : ℕ} {st : Stepped} → M.leaves_indexed st m' h' ≡ M.steps due₀ T text (M.keeping h₀ (M.goes r₀ m₀))
      → length m₀.cells ≡ n → length m₀.output ≡ k → length m'.cells ≡ n → length m'.output ≡ k
      → (st.answer ≡ Refused → ⊥) → (st.answer ≡ GoesOn → InRange n k st.run)
      → Advances T text due₀ r₀ h₀ m₀ st h' m' × (M.leaves_indexed st m' h' ≡ M.steps due₀ T text (M.keeping h₀ (M.goes r₀ m₀)))
  advances {r₀} {h₀} {h'} {m₀} {m'} {due₀} {st} is c o cs os told ranged =
      let inside : st.answer ≡ GoesOn → InRange (length m₀.cells) (length m₀.output) st.run = λ q. rw (c, o) (ranged q) in
      (record { answered = told; ranged = inside; moves = moving T text due₀ r₀ h₀ m₀ st h' m' is (cs ∙ sym c) (os ∙ sym o) inside }, is)

  module _ {r₀ r : Run} {h₀ h : List ℕ} {m₀ m : Lent} {due₀ until : ℕ} (g : Going r₀ h₀ m₀ due₀ r h m until) (some : r.counts.scans < until)
      (a : M.Indexed) (e : a ≡ M.step r T text h m) (cs : length a.after.lent.cells ≡ n) (os : length a.after.lent.output ≡ k) where
    kept : Kept n k (r.counts.scans + 1) a.after
    kept =
        subst (λ (y : M.Indexed). Kept n k (r.counts.scans + 1) y.after) (sym e)
        (subst (λ (j : ℕ). Kept j k (r.counts.scans + 1) (M.step r T text h m).after) g.cells
        (subst (λ (j : ℕ). Kept (length m.cells) j (r.counts.scans + 1) (M.step r T text h m).after) g.output
        (step_kept m h g.small r T text
        (subst (λ (j : ℕ). InRange (length m.cells) j r) (sym g.output) (subst (λ (j : ℕ). InRange j k r) (sym g.cells) g.in_range)))))

    -- one scan, and what is due behind it
    stepped : M.steps due₀ T text (M.keeping h₀ (M.goes r₀ m₀)) ≡ M.steps (until - (r.counts.scans + 1)) T text a
    unfolding M.steps
    stepped =
        let more : until - r.counts.scans ≡ suc (until - (r.counts.scans + 1)) = omega arith in
        g.made
        ∙ ap (λ (j : ℕ). M.steps j T text (M.keeping h (M.goes r m))) more
        ∙ ap (λ (y : M.Indexed). M.steps (until - (r.counts.scans + 1)) T text y) (sym e)

    -- one more scan is made
    pub once_more : a.after.answer ≡ GoesOn → a.after.run.counts.scans ≡ r.counts.scans + 1
    once_more out = kept.counted out

    pub again : ((i : ℕ) → get_or a.after.lent.cells i 0 < 4294967296) → a.after.answer ≡ GoesOn → Going r₀ h₀ m₀ due₀ a.after.run a.heads a.after.lent until
    again b out = record {
      cells = cs;
      output = os;
      small = b;
      in_range = kept.kept out;
      counted = g.counted;
      not_past = omega (arith, kept.counted out);
      all = g.all;
      made =
          stepped
          ∙ ap (λ (y : Answer). M.steps (until - (r.counts.scans + 1)) T text (M.keeping a.heads (record { run = a.after.run; answer = y; lent = a.after.lent }))) out
          ∙ ap (λ (j : ℕ). M.steps (until - j) T text (M.keeping a.heads (M.goes a.after.run a.after.lent))) (sym (kept.counted out));
    }

    pub ends : (st : Stepped) (h' : List ℕ) (m' : Lent) → a ≡ M.leaves_indexed st m' h' → (a.after.answer ≡ GoesOn → ⊥) → length m₀.cells ≡ n → length m₀.output ≡ k
        → Advances T text due₀ r₀ h₀ m₀ st h' m' × (M.leaves_indexed st m' h' ≡ M.steps due₀ T text (M.keeping h₀ (M.goes r₀ m₀))) × (st.answer ≡ GoesOn → st.run.counts.scans ≡ r₀.counts.scans + due₀)
    ends st h' m' is out c o =
        let told : st.answer ≡ a.after.answer = ap (λ (j : M.Indexed). j.after.answer) (sym is) in
        let left : a.after.lent ≡ m' = ap (λ (j : M.Indexed). j.after.lent) is in
        let (is₁, is₂) = advances (sym (stepped ∙ steps-ended (until - (r.counts.scans + 1)) T text a out ∙ is)) c o
        (ap (λ (y : Lent). length y.cells) (sym left) ∙ cs) (ap (λ (y : Lent). length y.output) (sym left) ∙ os)
        (λ q. kept.told (sym told ∙ q)) (λ q. absurd (out (sym told ∙ q))) in
        (is₁, is₂, λ q. absurd (out (sym told ∙ q)))

  -- the last scan that was due is made
  pub done : {r₀ r : Run} {h₀ h : List ℕ} {m₀ m : Lent} {due₀ until : ℕ} → Going r₀ h₀ m₀ due₀ r h m until → until ≤ r.counts.scans → length m₀.cells ≡ n → length m₀.output ≡ k
      → Advances T text due₀ r₀ h₀ m₀ (record { run = r; answer = GoesOn }) h m × (M.keeping h (M.goes r m) ≡ M.steps due₀ T text (M.keeping h₀ (M.goes r₀ m₀)))
      × (GoesOn ≡ GoesOn → r.counts.scans ≡ r₀.counts.scans + due₀)
  unfolding M.steps
  done {r = r} {h = h} {m = m} {due₀ = due₀} {until} g over c o =
      let none : until - r.counts.scans ≡ 0 = omega arith in
      let (is₁, is₂) = advances (sym (g.made ∙ ap (λ (j : ℕ). M.steps j T text (M.keeping h (M.goes r m))) none)) c o g.cells g.output
      (λ q. let z : ◌≡◌ {A = ℕ} 0 1 = cc in omega arith) (λ q. g.in_range) in
      (is₁, is₂, λ q. omega (arith, g.not_past, g.all))

  -- Several scans at a time ----------------------------------------------------------------------------------------

  module _ {r₀ r : Run} {h₀ h : List ℕ} {m₀ m : Lent} {due₀ until : ℕ} (g : Going r₀ h₀ m₀ due₀ r h m until) (p : ℕ) (few : p ≤ until - r.counts.scans)
      (st : Stepped) (h' : List ℕ) (m' : Lent) (is : M.leaves_indexed st m' h' ≡ M.steps p T text (M.keeping h (M.goes r m))) (cs : length m'.cells ≡ n) (os : length m'.output ≡ k) where
    several : M.steps due₀ T text (M.keeping h₀ (M.goes r₀ m₀)) ≡ M.steps (until - (r.counts.scans + p)) T text (M.leaves_indexed st m' h')
    several =
        let parts : until - r.counts.scans ≡ p + (until - (r.counts.scans + p)) = omega arith in
        g.made
        ∙ ap (λ (j : ℕ). M.steps j T text (M.keeping h (M.goes r m))) parts
        ∙ steps-add p (until - (r.counts.scans + p)) T text (M.keeping h (M.goes r m))
        ∙ ap (M.steps (until - (r.counts.scans + p)) T text) (sym is)

    pub more : ((i : ℕ) → get_or m'.cells i 0 < 4294967296) → st.answer ≡ GoesOn → st.run.counts.scans ≡ r.counts.scans + p → InRange n k st.run
        → Going r₀ h₀ m₀ due₀ st.run h' m' until
    more b on scans in_range = record {
      cells = cs;
      output = os;
      small = b;
      in_range = in_range;
      counted = g.counted;
      not_past = omega (arith, g.not_past);
      all = g.all;
      made =
          several
          ∙ ap (λ (y : Answer). M.steps (until - (r.counts.scans + p)) T text (M.keeping h' (record { run = st.run; answer = y; lent = m' }))) on
          ∙ ap (λ (j : ℕ). M.steps (until - j) T text (M.keeping h' (M.goes st.run m'))) (sym scans);
    }

    pub over : (st.answer ≡ Refused → ⊥) → (st.answer ≡ GoesOn → ⊥) → length m₀.cells ≡ n → length m₀.output ≡ k → Advances T text due₀ r₀ h₀ m₀ st h' m'
    over told out c o =
        (advances (sym (several ∙ steps-ended (until - (r.counts.scans + p)) T text (M.leaves_indexed st m' h') out)) c o cs os told (λ q. absurd (out q))).0

  -- a number of scans that is due
  pub several_ready : {r₀ r : Run} {h₀ h : List ℕ} {m₀ m : Lent} {due₀ until : ℕ} → Going r₀ h₀ m₀ due₀ r h m until → (p : ℕ) → p ≤ until - r.counts.scans → r.counts.scans < until
      → InRange (length m.cells) (length m.output) r × (r.counts.scans + p ≤ last_scan)
  several_ready {r = r} {m = m} g p few some =
      (subst (λ (j : ℕ). InRange (length m.cells) j r) (sym g.output) (subst (λ (j : ℕ). InRange j k r) (sym g.cells) g.in_range), omega (arith, g.counted))
