-- Document 02, Six: the script gives the wanted bytes, and where it is refused with 34 no text does.
use Prim.Native.Nat.{ℕ, ◌+◌, ◌≤◌}
use native.Mathlib.Omega.{arith}
use mathlib.Core.Path.{◌≡◌, refl, sym, ap, subst, ◌∙◌}
use mathlib.Core.Bool.{Bool, true, false, true≢false}
use mathlib.Core.List.{List, [], ◌∷◌}
use mathlib.Core.Logic.{◌↔◌}
use Rattle.std.specs.Prelude.{Option, None, Some}
use lib.ListN.{length, length-append}
use lib.Dec.{T as So}
use borrow.Author.Tests.{eqb-true, le-ltb}
use Rattle.language.specs.Signs.{Bytes, Table, sign_of_kind, language, text_limit, cells_limit, output_limit}
use Rattle.language.specs.Outcomes.{finishes, end_of_text}
use Rattle.language.specs.Refusals.{refused_by, AcceptedTable}
use Rattle.language.specs.Definitions.{Definition, live}
use Rattle.language.specs.BuiltIns.{built_ins}
use Rattle.language.specs.Charge.{definitions_price}
use Rattle.language.specs.Ends.{End}
use Rattle.language.specs.Scanning.{Limits, next, stop, end_of, no_limits, scans, start, run}
use Rattle.language.specs.Substitution.{substituted}
use Rattle.language.specs.Matched.{depth_after, Matched, All, empty, with, ValueMatches}
use Rattle.language.specs.Octets.{Octets}
use Rattle.language.specs.Expansion.{Lent, Given, given, cleared, overwritten, ending, expanded}
use Rattle.language.specs.Expansion as E
use Rattle.language.specs.Demand.{Demand3}
use Rattle.language.proofs.Agree.{agreement, depth_once}
use Rattle.language.proofs.Demand.{built_ins_free, demand3}
use Rattle.language.proofs.Limits.{scans_ended}
use Rattle.language.proofs.Octets.{octets_append}
use Rattle.language.proofs.Quotes.{run-matched, built_ins_match}
use Rattle.keys.specs.Scripts.{byte_of, quote_kind, unquote_kind, script, wanted_limit, closed, matched, script_end, script_report, ScriptFits, NoScript}
use Rattle.keys.proofs.Writing.{byte_of_lem}
use Rattle.keys.proofs.Quoting.{quoted}

-- Its bytes --------------------------------------------------------------------------------------------------------------

module _ (T : Table) (accepted : AcceptedTable T) where
  -- a script is of bytes where the wanted ones are
  script_octets : {wanted : Bytes} → Octets wanted → Octets (script T wanted)
  script_octets h =
      with (byte_of_lem T accepted quote_kind (omega arith) (omega arith)).0
      (octets_append h (with (byte_of_lem T accepted unquote_kind (omega arith) (omega arith)).0 empty))

-- the two quotes are two bytes
pub script-length : (T : Table) (wanted : Bytes) → length (script T wanted) ≡ length wanted + 2
script-length T wanted = omega (arith, length-append wanted (byte_of T unquote_kind ∷ []))

-- Quotes are matched or not ----------------------------------------------------------------------------------------------

pub is_matched : (T : Table) (bs : Bytes) → matched T bs ≡ true → Matched T bs
is_matched T bs = go (depth_after T 0 bs)
  where
    go : (o : Option ℕ) → closed o ≡ true → o ≡ Some 0
    go None e = absurd (true≢false (sym e))
    go (Some q) e = ap Some (eqb-true q 0 e)

matched_is : (T : Table) (bs : Bytes) → Matched T bs → matched T bs ≡ true
matched_is T bs m = ap closed m

-- The first theorem ------------------------------------------------------------------------------------------------------

module _ (T : Table) (accepted : AcceptedTable T) (wanted : Bytes) (m : Matched T wanted) (ds : List Definition) where
  -- "With no limits of cells, output or scans, expanding it finishes with outcome 0 and the wanted bytes": from any definitions,
  -- with the counts of `script_end`
  pub script-scanned : scans no_limits (language T) (length wanted + 3) (next (start (script T wanted) ds)) ≡ stop (script_end wanted ds)
  script-scanned =
      let q = (byte_of_lem T accepted quote_kind (omega arith) (omega arith)).1 in
      let u = (byte_of_lem T accepted unquote_kind (omega arith) (omega arith)).1 in
      quoted T (byte_of T quote_kind) (byte_of T unquote_kind) wanted ds (ap sign_of_kind q) (ap sign_of_kind u) m

  -- as a run with that allowance or more,
  pub script_expands : (n : ℕ) → length wanted + 3 ≤ n → run no_limits (language T) n (script T wanted) ds ≡ script_end wanted ds
  unfolding run
  script_expands n h = ap end_of (scans_ended no_limits (language T) (length wanted + 3) n (next (start (script T wanted) ds)) (script_end wanted ds) h script-scanned)

  -- and by substitution
  pub script-substituted : (d : ℕ) × (substituted (language T) d (script T wanted) ds ≡ Some (script_end wanted ds))
  script-substituted = (agreement (language T) (script T wanted) ds (script_end wanted ds)).0 (length wanted + 3, script-scanned)

-- What the script needs -------------------------------------------------------------------------------------------------

module _ (T : Table) (accepted : AcceptedTable T) (wanted : Bytes) (m : Matched T wanted) (lent : Lent) (allowance : ℕ) where
  abbrev g : Given
  g = given T (script T wanted) lent allowance

  abbrev e₀ : End
  e₀ = script_end wanted built_ins

  D : Demand3 g (ending g)
  D = demand3 g (omega (arith, built_ins_free))

  -- As many bytes of output as are wanted and three scans more are enough, and no cells are needed:
  pub enough : ScriptFits wanted lent allowance → ending g ≡ e₀
  enough h =
      let (d, comes) = script-substituted T accepted wanted m built_ins in
      ((D e₀).1 (record { depth = d; comes = comes; enough_cells = omega (arith, built_ins_free); enough_output = h.output; enough_scans = h.scans })).0

  -- with less the run comes to no end of the text.
  pub needed : So (end_of_text (ending g).outcome) → ScriptFits wanted lent allowance
  needed x =
      let a = (D (ending g)).0 (refl, x) in
      let (d, comes) = script-substituted T accepted wanted m built_ins in
      let e = depth_once (language T) (script T wanted) built_ins a.depth d (ending g) e₀ a.comes comes in
      let o = a.enough_output in
      let n = a.enough_scans in
      record { output = rw e at o; scans = rw e at n }

  -- Whatever is lent within the limits, the script is not too long a text for it,
  script-taken : length wanted ≤ wanted_limit → length lent.cells ≤ cells_limit → length lent.output ≤ output_limit → refused_by (E.refusals g) ≡ None
  unfolding refused_by
  script-taken w c o =
      rw (le-ltb text_limit (length (script T wanted)) (omega (arith, script-length T wanted)), le-ltb cells_limit (length lent.cells) c, le-ltb output_limit (length lent.output) o)
      accepted

  -- and a whole run of it, lent enough, gives the wanted bytes: its report is that of `script_report`.
  pub script-expanded : length wanted ≤ wanted_limit → length lent.cells ≤ cells_limit → length lent.output ≤ output_limit → ScriptFits wanted lent allowance
      → expanded g ≡ record { report = script_report wanted; lent = E.lent (cleared lent.cells) (overwritten wanted lent.output) }
  unfolding expanded definitions_price live
  script-expanded w c o h = rw (script-taken w c o, enough h) refl

-- The second theorem -----------------------------------------------------------------------------------------------------

module _ (T : Table) (accepted : AcceptedTable T) (wanted : Bytes) where
  -- What finishes has matched quotes: at any limits, from any definitions whose values have them.
  pub matched_only : (L : Limits) (n : ℕ) (t : Bytes) {ds : List Definition} → All (ValueMatches T) ds
      → finishes (run L (language T) n t ds).outcome ≡ true → (run L (language T) n t ds).output ≡ wanted → matched T wanted ≡ true
  matched_only L n t D f e = matched_is T wanted (subst (Matched T) e (run-matched L T accepted n t D f))

  -- So for other bytes there is no script,
  none_unmatched : matched T wanted ≡ false → NoScript T wanted
  none_unmatched u t oct x =
      true≢false (sym (matched_only no_limits x.allowance t (built_ins_match T) x.finishes x.output) ∙ u)

  -- by substitution neither,
  pub none-substituted : matched T wanted ≡ false → (t : Bytes) (d : ℕ) (e : End) → substituted (language T) d t built_ins ≡ Some e
      → finishes e.outcome ≡ true → e.output ≡ wanted → ⊥
  unfolding run
  none-substituted u t d e p f o =
      let (n, comes) = (agreement (language T) t built_ins e).1 (d, p) in
      true≢false (sym (matched_only no_limits n t (built_ins_match T) (rw comes f) (rw comes o)) ∙ u)

  -- and where there is none quotes are not matched, since of matched ones there is the script
  unmatched_none : Octets wanted → NoScript T wanted → matched T wanted ≡ false
  unmatched_none oct absent = go (matched T wanted) refl
    where
      go : (t : Bool) → matched T wanted ≡ t → t ≡ false
      go false p = refl
      go true p =
          let e = script_expands T accepted wanted (is_matched T wanted p) built_ins (length wanted + 3) (omega arith) in
          absurd (absent (script T wanted) (script_octets T accepted oct)
          (record { allowance = length wanted + 3; finishes = rw e refl; output = rw e refl }))

  -- "It answers that there is none precisely when no script of any length finishes with those bytes as its output;
  -- document 002 hints that unmatched quotes are the only such case."
  pub none_exactly : Octets wanted → (matched T wanted ≡ false) ↔ NoScript T wanted
  none_exactly oct = (none_unmatched, unmatched_none oct)
