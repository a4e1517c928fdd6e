-- Demand 3 holds between the two definitions, for every text, every table and all limits.
use Prim.Native.Nat.{ℕ, ◌≤◌}
use native.Mathlib.Omega.{arith}
use mathlib.Core.Path.{◌≡◌, refl, sym, ap, subst}
use mathlib.Core.Bool.{not}
use Rattle.std.specs.Prelude.{Option, None, Some}
use lib.ListN.{length}
use lib.Dec.{T as So, T_not}
use Rattle.language.specs.Signs.{Language, language}
use Rattle.language.specs.Outcomes.{end_of_text}
use Rattle.language.specs.Refusals.{refused_by}
use Rattle.language.specs.BuiltIns.{built_ins}
use Rattle.language.specs.Charge.{definitions_price}
use Rattle.language.specs.Ends.{End, reported}
use Rattle.language.specs.Matched.{All, empty, with}
use Rattle.language.specs.Expansion.{Given, refusals, returned_by, answered, ending, expanded}
use Rattle.language.specs.Demand.{Affords, Demand3, Substitutes}
use Rattle.language.proofs.Accepted.{refused_with}
use Rattle.language.proofs.Agree.{agreement}
use Rattle.language.proofs.Limits.{within-lent, ended_alike, fitting_run, unlimited_ends}

module _ (g : Given) where
  abbrev G : Language
  G = language g.table

  abbrev c : ℕ
  c = length g.lent.cells

  abbrev o : ℕ
  o = length g.lent.output

  afforded : definitions_price g.definitions ≤ c → (e : End) → ending g ≡ e → So (end_of_text e.outcome) → Affords g e
  afforded h e p q =
      let q' : So (end_of_text (ending g).outcome) = subst (λ (x : End). So (end_of_text x.outcome)) (sym p) q in
      let d = (agreement G g.text g.definitions (ending g)).0 (g.allowance, ended_alike G g.text g.definitions c o g.allowance q') in
      let w = within-lent G g.text g.definitions c o g.allowance h in
      subst (Affords g) p (record { depth = d.0; comes = d.1; enough_cells = w.cells; enough_output = w.output; enough_scans = w.scans })

  ends : (e : End) → Affords g e → (ending g ≡ e) × So (end_of_text e.outcome)
  ends e a =
      let m = (agreement G g.text g.definitions e).1 (a.depth, a.comes) in
      (fitting_run G g.text g.definitions c o g.allowance m.0 e m.1 (record { cells = a.enough_cells; output = a.enough_output; scans = a.enough_scans }), unlimited_ends G g.text g.definitions m.0 e m.1)

  -- Demand 3, from any definitions that can be afforded
  pub demand3 : definitions_price g.definitions ≤ c → Demand3 g (ending g)
  demand3 h e = (λ p. afforded h e p.0 p.1, ends e)

-- the built-ins cost nothing
pub built_ins_free : definitions_price built_ins ≡ 0
unfolding definitions_price
built_ins_free = refl

-- no number of a refusal is an end of the text
abbrev NoEnd : ℕ → Type 0
NoEnd k = So (not (end_of_text k))

refusals_no_ends : (g : Given) → All (λ r. NoEnd r.outcome) (refusals g)
refusals_no_ends g = with tt (with tt (with tt (with tt empty)))

-- Demand 3 of a whole run, from definitions that the cells afford: its report and what it leaves in the output
pub substitutes : (g : Given) → definitions_price g.definitions ≤ length g.lent.cells → Substitutes g (expanded g)
unfolding expanded
substitutes g price = go (refused_by (refusals g)) refl
  where
    e₀ : End
    e₀ = ending g

    D : Demand3 g e₀
    D = demand3 g price

    go : (r : Option ℕ) → refused_by (refusals g) ≡ r → Substitutes g (answered r g)
    go (Some k) h = record {
      only = λ x. absurd (T_not (end_of_text k) (refused_with NoEnd (refusals_no_ends g) h) x);
      always = λ p. let z : ◌≡◌ {A = ℕ} 0 1 = cc in absurd (omega arith);
    }
    go None h = record {
      only = λ x. (e₀, (D e₀).0 (refl, x), refl, refl);
      always = λ p e a.
          let r = (D e).1 a in
          (r.1, ap reported r.0, ap (λ (x : End). (returned_by x g.lent).lent.output) r.0);
    }
