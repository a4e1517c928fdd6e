-- A whole run of the machine is a whole run of the language.
use Prim.Native.Nat.{ℕ, zero, suc, ◌-◌, ◌≤◌, min}
use native.Mathlib.Omega.{arith}
use mathlib.Core.Path.{◌≡◌, refl, sym, ap, subst, ◌∙◌}
use mathlib.Core.Bool.{Bool, true, false, true≢false, cond, ◌||◌}
use mathlib.Core.List.{List, [], ◌∷◌, ◌++◌}
use Rattle.std.specs.Prelude.{None, Some}
use lib.ListN.{length}
use lib.Dec.{eqb, leb, ltb}
use borrow.Author.Tests.{ltb-false}
use Rattle.memory.specs.Block.{repeated}
use Rattle.language.specs.Signs.{Bytes, Table, language, text_limit, cells_limit, output_limit}
use Rattle.language.specs.Outcomes
use Rattle.language.specs.Refusals.{refused_by, sizes_too_large, AcceptedTable}
use Rattle.language.specs.Definitions.{Definition, live}
use Rattle.language.specs.Groups.{groups}
use Rattle.language.specs.BuiltIns.{built_ins}
use Rattle.language.specs.Charge.{definitions_price}
use Rattle.language.specs.Ends.{End, reported}
use Rattle.language.specs.Octets.{Octets}
use Rattle.language.specs.Scanning.{Standing, Step, next, stop, end_with}
use Rattle.language.specs.Scanning as S
use Rattle.language.specs.Expansion.{Lent, lent, Given, given, Returned, refusals, cleared, overwritten, limits_of, ending, expanded}
use Rattle.language.specs.Demand.{Demand3, Substitutes, Expanded}
use Rattle.language.proofs.Accepted.{lent_accepted, accepted_exactly}
use Rattle.language.proofs.Demand.{built_ins_free, demand3, substitutes}
use Rattle.machine.specs.declared.run.Stepped.{Stepped}
use Rattle.machine.specs.declared.run.Answer.{Answer}
use Rattle.machine.specs.declared.run.Answer.TheVariants.{GoesOn, Ended, Damaged, Refused}
use Rattle.machine.specs.Machine.{fresh, last_scan}
use Rattle.machine.specs.Index.{no_heads}
use Rattle.machine.specs.Held.{next_position, next_list, definition_at, definitions_held_from, shown, standing_of, outcome_in, Shows}
use Rattle.machine.specs.Moving.{Comes, Moves}
use Rattle.machine.proofs.Fresh.{fresh_holds}
use Rattle.machine.proofs.Advancing.{range_in}
use Rattle.machine.proofs.Showing.{state_shown}
use Rattle.expander.specs.Reports.{numbers, returned, refused_with, outcome_of, report_of, came_to, Ran}

-- The end of the run -------------------------------------------------------------------------------------------------

-- a built-in is not counted, and every definition in the cells is
held_live : (turns : ℕ) (l : List ℕ) (p list : ℕ) → live (definitions_held_from turns l p list ++ built_ins) ≡ length (definitions_held_from turns l p list)
unfolding definitions_held_from live
held_live zero l p list = refl
held_live (suc turns) l p list = go (leb (length l) p) (eqb p list) (held_live turns l (next_position l p list) (next_list l p list))
  where
    r : List Definition
    r = definitions_held_from turns l (next_position l p list) (next_list l p list)

    go : (x y : Bool) → live (r ++ built_ins) ≡ length r
        → live (cond x [] (cond y r (definition_at l p ∷ r)) ++ built_ins) ≡ length (cond x [] (cond y r (definition_at l p ∷ r)))
    go true y h = refl
    go false true h = h
    go false false h = omega (arith, h)

-- the built-ins can always be afforded
pub free : (g : Given) → g.definitions ≡ built_ins → definitions_price g.definitions ≤ length g.lent.cells
free g from = omega (arith, ap definitions_price from, built_ins_free)

-- a run that shows the standing of its end has come to it
module _ (g : Given) (st : Stepped) (m : Lent) (from : g.definitions ≡ built_ins) (outcome : outcome_of st.answer ≡ (ending g).outcome)
    (h : Shows built_ins g.lent.output st.run m (standing_of (ending g))) where
  came : came_to st m ≡ ending g
  came = ap (λ (k : ℕ). end_with k (shown built_ins st.run m)) outcome ∙ ap (end_with (ending g).outcome) h.standing

  alive : st.run.counts.live ≡ live (ending g).definitions
  alive =
      let l = m.cells in
      h.live ∙ sym (held_live (length l) l st.run.right st.run.source.list) ∙ ap (λ (w : Standing). live w.definitions) h.standing

  counted : numbers (report_of st) ≡ reported (ending g)
  counted =
      let w = h.standing in
      rw (outcome, h.wrote.written, ap (λ (x : Standing). x.read) w, ap (λ (x : Standing). x.scans) w, ap (λ (x : Standing). x.most) w, alive) refl

  ran_to : Ran g st m
  ran_to = record {
    scanned = came;
    substitutes = subst (Demand3 g) (sym came) (demand3 g (free g from));
    reports = counted ∙ ap reported (sym came);
    left = subst (λ (x : End). m.output ≡ overwritten x.output g.lent.output) (sym came) h.wrote.output;
  }

-- what a run that ended is reported with
ended_with : (x : Answer) {n : ℕ} → outcome_in x ≡ Some n → outcome_of x ≡ n
ended_with GoesOn e = cc
ended_with (Ended outcome) e = cc
ended_with Damaged e = cc
ended_with Refused e = cc

pub ran : (T : Table) (text : Bytes) (allowance : ℕ) (m : Lent) (st : Stepped) (h' : List ℕ) (m' : Lent)
    → Moves T text allowance (fresh (length m.cells)) (no_heads groups) m st h' m' → length m.cells ≤ cells_limit → Octets text → allowance ≤ last_scan
    → Ran (given T text m allowance) st m'
unfolding S.run
ran T text allowance m st h' m' h small oct fits =
    let x = fresh_holds text m small oct in
    let a = h.advanced (range_in _ _ _ x.in_range) in
    let all : min allowance (last_scan - 0) ≡ allowance = omega arith in
    let r = go (S.scans (limits_of (length m.cells) (length m.output)) (language T) allowance (next (S.start text built_ins)))
    (rw all at (a.moves m.output (S.start text built_ins) x)) in
    ran_to (given T text m allowance) st m' refl r.0 r.1
  where
    go : (t : Step) → Comes h' text m.output st m' t
        → (outcome_of st.answer ≡ (S.end_of t).outcome) × Shows built_ins m.output st.run m' (standing_of (S.end_of t))
    go (next s) (e, y) = (rw e, state_shown y.represents)
    go (stop e) y = (ended_with st.answer y.answer, y.shows)

-- The report ---------------------------------------------------------------------------------------------------------

cleared_is : (l : List ℕ) → repeated (length l) 0 ≡ cleared l
unfolding repeated cleared
cleared_is [] = refl
cleared_is (x ∷ l) = ap (λ (y : List ℕ). 0 ∷ y) (cleared_is l)

pub reports : (g : Given) {st : Stepped} {m : Lent} → Ran g st m → length m.cells ≡ length g.lent.cells → refused_by (refusals g) ≡ None
    → returned (report_of st) (lent (repeated (length m.cells) 0) m.output) ≡ expanded g
unfolding expanded
reports g {st} {m} h size accepted =
    let zeroed : repeated (length m.cells) 0 ≡ cleared g.lent.cells = ap (λ (n : ℕ). repeated n 0) size ∙ cleared_is g.lent.cells in
    let told : numbers (report_of st) ≡ reported (ending g) = h.reports ∙ ap reported h.scanned in
    let left : m.output ≡ overwritten (ending g).output g.lent.output = h.left ∙ ap (λ (x : End). overwritten x.output g.lent.output) h.scanned in
    rw (accepted, told, left, zeroed) refl

-- a call that is refused: nothing is touched
pub refuses : (g : Given) (outcome : ℕ) → refused_by (refusals g) ≡ Some outcome → returned (refused_with outcome) g.lent ≡ expanded g
unfolding expanded
refuses g outcome refused = rw refused refl

abbrev too_large : Given → Bool
too_large g = sizes_too_large (length g.text) (length g.lent.cells) (length g.lent.output)

-- as where a size is too large
pub large : (g : Given) → too_large g ≡ true → returned (refused_with Outcomes.too_large) g.lent ≡ expanded g
unfolding refused_by
large g e = refuses g Outcomes.too_large (rw e refl)

-- what is not refused has few enough bytes of text, few enough cells, and 256 signs
module _ (g : Given) (accepted : refused_by (refusals g) ≡ None) where
  fits : (too_large g ≡ false) × AcceptedTable g.table
  fits = lent_accepted (length g.text) (length g.lent.cells) (length g.lent.output) g.table accepted

  sizes_fit : (length g.text ≤ text_limit) × (length g.lent.cells ≤ cells_limit)
  sizes_fit =
      go (ltb text_limit (length g.text)) refl (ltb cells_limit (length g.lent.cells)) refl (ltb output_limit (length g.lent.output)) fits.0
    where
      go : (t : Bool) → ltb text_limit (length g.text) ≡ t → (c : Bool) → ltb cells_limit (length g.lent.cells) ≡ c → (o : Bool) → (t || (c || o)) ≡ false
          → (length g.text ≤ text_limit) × (length g.lent.cells ≤ cells_limit)
      go false d false e o h = (ltb-false text_limit (length g.text) d, ltb-false cells_limit (length g.lent.cells) e)
      go true d c e o h = absurd (true≢false h)
      go false d true e o h = absurd (true≢false h)

  pub text_fits : length g.text ≤ text_limit
  text_fits = sizes_fit.0

  pub cells_fit : length g.lent.cells ≤ cells_limit
  cells_fit = sizes_fit.1

  pub signs_fit : length g.table ≡ 256
  signs_fit = ((accepted_exactly g.table).0 fits.1).size

-- a whole run from the built-ins, and demand 3 of it
pub delivers : (g : Given) → g.definitions ≡ built_ins → (x : Returned) → x ≡ expanded g → Expanded g x
delivers g from x e = (e, subst (Substitutes g) (sym e) (substitutes g (free g from)))

-- what a call leaves is determined by what it is given: so `expand` is `expand_signs` with the standard table
pub determined : (g : Given) (x y : Returned) → Expanded g x → Expanded g y → x ≡ y
determined g x y p q = p.0 ∙ sym q.0
