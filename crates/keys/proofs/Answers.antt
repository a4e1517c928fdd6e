-- What the call gives back: the first of its checks that holds, or the script; and what is promised of either.
use Prim.Native.Nat.{ℕ, ◌+◌, ◌/◌, ◌%◌, ◌≤◌, ◌<◌}
use native.Mathlib.Omega.{arith}
use mathlib.Core.Path.{◌≡◌, refl, sym, ap, subst, ◌∙◌}
use mathlib.Core.Bool.{Bool, true, false, cond, not, ◌||◌, true≢false}
use mathlib.Core.List.{◌++◌}
use Rattle.std.specs.Prelude.{Option, None, Some}
use lib.ListN.{length, take, drop}
use lib.Seq.{take_at}
use lib.Dec.{eqb, ltb, T as So}
use borrow.Author.Tests.{ltb-false, lt-ltb, le-ltb}
use Rattle.language.specs.Signs.{Bytes, text_limit}
use Rattle.language.specs.Outcomes
use Rattle.language.specs.Refusals.{refused_by, sign_refusals, AcceptedTable}
use Rattle.language.specs.BuiltIns.{built_ins}
use Rattle.language.specs.Matched.{All, empty, with}
use Rattle.language.specs.Octets.{Octets}
use Rattle.language.specs.Expansion.{overwritten}
use Rattle.language.proofs.Accepted.{accepted_exactly, refused_none, refused_with, behind_none, behind_some, both_none}
use Rattle.keys.specs.Scripts.{Asked, Answered, number_of, script, wanted_limit, too_long, matched, lent_refusals, script_refusals, refusals, answered_by, answered, NoScript, Promised, Scripted, Numbered}
use Rattle.keys.proofs.Scripts.{script-length, is_matched, script_expands, none_exactly}

-- no number of what is lent is 0 or 34
abbrev OfLent : ℕ → Type 0
OfLent k = So (not (eqb k Outcomes.finished)) × So (not (eqb k Outcomes.no_script))

module _ (g : Asked) where
  lent-numbers : All (λ r. OfLent r.outcome) (lent_refusals g)
  lent-numbers = with (tt, tt) (with (tt, tt) (with (tt, tt) (with (tt, tt) empty)))

  -- by which check a call is refused: for its sizes, for its signs, or by its own
  pub refused_large : too_long (length g.wanted) (length g.output) ≡ true → refused_by (refusals g) ≡ Some Outcomes.too_large
  unfolding refused_by
  refused_large e = behind_some (lent_refusals g) (script_refusals g) Outcomes.too_large (rw e refl)

  module _ (fits : too_long (length g.wanted) (length g.output) ≡ false) where
    pub refused_signs : {k : ℕ} → refused_by (sign_refusals g.table) ≡ Some k → refused_by (refusals g) ≡ Some k
    unfolding refused_by
    refused_signs {k} e = behind_some (lent_refusals g) (script_refusals g) k (rw fits e)

    pub refused_own : AcceptedTable g.table → refused_by (refusals g) ≡ refused_by (script_refusals g)
    unfolding refused_by
    refused_own e = behind_none (lent_refusals g) (script_refusals g) (rw fits e)

  -- and by which of its own
  pub refused_unmatched : matched g.table g.wanted ≡ false → refused_by (script_refusals g) ≡ Some Outcomes.no_script
  unfolding refused_by
  refused_unmatched u = rw u refl

  module _ (m : matched g.table g.wanted ≡ true) where
    pub refused_short : length g.output < length g.wanted + 2 → refused_by (script_refusals g) ≡ Some Outcomes.no_output_left
    unfolding refused_by
    refused_short h = rw (m, lt-ltb (length g.output) (length (script g.table g.wanted)) (omega (arith, script-length g.table g.wanted))) refl

    pub refused_not : length g.wanted + 2 ≤ length g.output → refused_by (script_refusals g) ≡ None
    unfolding refused_by
    refused_not h = rw (m, le-ltb (length g.output) (length (script g.table g.wanted)) (omega (arith, script-length g.table g.wanted))) refl

  -- what passes the checks of what is lent has such a table
  lent_accepted : refused_by (lent_refusals g) ≡ None → AcceptedTable g.table
  unfolding refused_by
  lent_accepted e = (refused_none Outcomes.too_large (too_long (length g.wanted) (length g.output)) _ e).1

  -- a call that is refused for what is lent
  lent-refused : (k : ℕ) → refused_by (lent_refusals g) ≡ Some k → Promised g (answered_by (Some k) g)
  lent-refused k h =
      let (no0, no34) = refused_with OfLent lent-numbers h in
      record {
        expands = λ e. absurd (subst (λ (j : ℕ). So (not (eqb j Outcomes.finished))) e no0);
        none = (λ e. absurd (subst (λ (j : ℕ). So (not (eqb j Outcomes.no_script))) e no34), λ p. let q = p.0 in let z : ◌≡◌ {A = ℕ} 0 1 = cc in absurd (omega arith));
      }

  -- one that passes these: by its own checks
  module _ (oct : Octets g.wanted) (passes : refused_by (lent_refusals g) ≡ None) where
    unmatched_refused : matched g.table g.wanted ≡ false → Promised g (answered_by (Some Outcomes.no_script) g)
    unmatched_refused u = record {
      expands = λ e. absurd (omega (arith, e));
      none = (λ e. (passes, (none_exactly g.table (lent_accepted passes) g.wanted oct).0 u), λ p. refl);
    }

    -- bytes with matched quotes have a script
    has_script : matched g.table g.wanted ≡ true → NoScript g.table g.wanted → ⊥
    has_script m absent = true≢false (sym m ∙ (none_exactly g.table (lent_accepted passes) g.wanted oct).1 absent)

    short_refused : matched g.table g.wanted ≡ true → Promised g (answered_by (Some Outcomes.no_output_left) g)
    short_refused m = record {
      expands = λ e. absurd (omega (arith, e));
      none = (λ e. absurd (omega (arith, e)), λ p. absurd (has_script m p.1));
    }

    writes : matched g.table g.wanted ≡ true → Promised g (answered_by None g)
    writes m =
        let t = script g.table g.wanted in
        let e : take (length t) (t ++ drop (length t) g.output) ≡ t = take_at t (drop (length t) g.output) (length t) refl in
        record {
          expands = λ _ n h. rw e (script_expands g.table (lent_accepted passes) g.wanted (is_matched g.table g.wanted m) built_ins n h);
          none = (λ e. absurd (omega (arith, e)), λ p. absurd (has_script m p.1));
        }

    own_checks : Promised g (answered_by (refused_by (script_refusals g)) g)
    unfolding refused_by
    own_checks = go (matched g.table g.wanted) (ltb (length g.output) (length (script g.table g.wanted))) refl
      where
        go : (m s : Bool) → matched g.table g.wanted ≡ m
            → Promised g (answered_by (cond (not m) (Some Outcomes.no_script) (cond s (Some Outcomes.no_output_left) None)) g)
        go false s p = unmatched_refused p
        go true true p = short_refused p
        go true false p = writes p

  promised : Octets g.wanted → Promised g (answered g)
  unfolding answered
  promised oct = go (refused_by (lent_refusals g)) refl
    where
      go : (r : Option ℕ) → refused_by (lent_refusals g) ≡ r → Promised g (answered_by (refused_by (lent_refusals g ++ script_refusals g)) g)
      go (Some k) h = rw (behind_some (lent_refusals g) (script_refusals g) k h) (lent-refused k h)
      go None h = rw (behind_none (lent_refusals g) (script_refusals g) h) (own_checks oct h)

  -- The answer of the definitions has what is promised.
  pub delivers : Octets g.wanted → (x : Answered) → x ≡ answered g → Scripted g x
  delivers oct x e = (e, subst (Promised g) (sym e) (promised oct))

  -- A call that is refused,
  pub answers_refused : {k : ℕ} → refused_by (refusals g) ≡ Some k → answered_by (Some k) g ≡ answered g
  unfolding answered
  answers_refused e = rw e refl

  -- and one that is not
  pub answers_script : refused_by (refusals g) ≡ None
      → record { outcome = Outcomes.finished; length = length g.wanted + 2; output = overwritten (script g.table g.wanted) g.output } ≡ answered g
  unfolding answered
  answers_script e = rw (e, script-length g.table g.wanted) refl

  -- What is not refused has the sizes that the code relies on.
  pub record Taken : Type 0 where
    pub wanted : length g.wanted ≤ wanted_limit
    pub table : length g.table ≡ 256
    pub output : length g.wanted + 2 ≤ length g.output

  pub taken : refused_by (refusals g) ≡ None → Taken
  unfolding refused_by
  taken e =
      let (lent, own) = both_none (lent_refusals g) (script_refusals g) e in
      let (fits, accepted) = refused_none Outcomes.too_large (too_long (length g.wanted) (length g.output)) _ lent in
      let (m, rest) = refused_none Outcomes.no_script (not (matched g.table g.wanted)) _ own in
      let (long, end) = refused_none Outcomes.no_output_left (ltb (length g.output) (length (script g.table g.wanted))) None rest in
      let enough = ltb-false (length g.output) (length (script g.table g.wanted)) long in
      record {
        wanted = ltb-false wanted_limit (length g.wanted) (or_none (ltb wanted_limit (length g.wanted)) _ fits);
        table = ((accepted_exactly g.table).0 accepted).size;
        output = omega (arith, script-length g.table g.wanted, enough);
      }
    where
      or_none : (a b : Bool) → (a || b) ≡ false → a ≡ false
      or_none false b e = refl
      or_none true b e = absurd (true≢false e)

-- The longest script is the longest text.
pub answer_length : (g : Asked) → (answered g).length ≤ text_limit
unfolding answered
answer_length g = go (refused_by (refusals g)) refl
  where
    go : (r : Option ℕ) → refused_by (refusals g) ≡ r → (answered_by r g).length ≤ text_limit
    go (Some k) e = omega arith
    go None e = omega (arith, script-length g.table g.wanted, (taken g e).wanted)

-- So both parts of an answer can be read off its number.
pub parts_of : (g : Asked) (number : ℕ) (output : Bytes) → Numbered g number output
    → (number / 4294967296 ≡ (answered g).outcome) × (number % 4294967296 ≡ (answered g).length)
parts_of g number output (x, (e, p), n, o) =
    let few = answer_length g in
    let n' : number ≡ number_of (answered g) = n ∙ ap number_of e in
    (omega arith, omega arith)
