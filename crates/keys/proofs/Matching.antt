-- How far the reading of the quotes has come.
use Prim.Native.Nat.{ℕ, zero, suc, ◌+◌, ◌-◌, ◌≤◌, ◌<◌}
use native.Mathlib.Omega.{arith}
use mathlib.Core.Path.{◌≡◌, refl, ap, ◌∙◌}
use Rattle.std.specs.Prelude.{Option, None, Some}
use Rattle.std.specs.Prelude.{option_and_then}
use lib.ListN.{length, drop, get_or, drop_of_length-le}
use lib.Seq.{drop-cons}
use Rattle.language.specs.declared.signs.Sign.{Sign}
use Rattle.language.specs.declared.signs.Sign.TheVariants.{Plain, Dollar, Comma, Semicolon, Tilde, Quote, Unquote}
use Rattle.language.specs.Signs.{Bytes, Table, sign_of}
use Rattle.language.specs.Matched.{depth_by, depth_after}
use Rattle.language.proofs.Quotes.{none_some}

-- Depths ---------------------------------------------------------------------------------------------------------------

-- a byte makes it deeper by one at most
depth_grows : (g : Sign) (d k : ℕ) → depth_by g d ≡ Some k → k ≤ suc d
depth_grows Plain d k e = let h : d ≡ k = cc in omega arith
depth_grows Dollar d k e = let h : d ≡ k = cc in omega arith
depth_grows Comma d k e = let h : d ≡ k = cc in omega arith
depth_grows Semicolon d k e = let h : d ≡ k = cc in omega arith
depth_grows Tilde d k e = let h : d ≡ k = cc in omega arith
depth_grows Quote d k e = let h : suc d ≡ k = cc in omega arith
depth_grows Unquote zero k e = absurd (none_some e)
depth_grows Unquote (suc d) k e = let h : d ≡ k = cc in omega arith

-- what a sign says of the depth
pub depth_quote : (g : Sign) (d : ℕ) → g ≡ Quote → depth_by g d ≡ Some (d + 1)
depth_quote g d e = rw e (ap Some (omega arith))

pub depth_lost : (g : Sign) (d : ℕ) → g ≡ Unquote → d ≡ 0 → depth_by g d ≡ None
depth_lost g d e z = rw (e, z) refl

pub depth_unquote : (g : Sign) (d : ℕ) → g ≡ Unquote → 0 < d → depth_by g d ≡ Some (d - 1)
depth_unquote g zero e h = absurd (omega arith)
depth_unquote g (suc d) e h = rw e (ap Some (omega arith))

pub depth_other : (g : Sign) (d : ℕ) → (g ≡ Quote → ⊥) → (g ≡ Unquote → ⊥) → depth_by g d ≡ Some d
depth_other Plain d f h = refl
depth_other Dollar d f h = refl
depth_other Comma d f h = refl
depth_other Semicolon d f h = refl
depth_other Tilde d f h = refl
depth_other Quote d f h = absurd (f refl)
depth_other Unquote d f h = absurd (h refl)

-- The first `done` of the wanted bytes lead to a depth, and what is read behind them decides.
pub record Matching (T : Table) (wanted : Bytes) (done depth : ℕ) : Type 0 where
  pub inside : done ≤ length wanted
  pub below : depth ≤ done
  pub rest : depth_after T 0 wanted ≡ depth_after T depth (drop done wanted)

module _ {T : Table} {wanted : Bytes} where
  -- the next byte, and the rest behind it
  matching_next : {done depth : ℕ} → Matching T wanted done depth → done < length wanted
      → depth_after T 0 wanted ≡ option_and_then (λ k. depth_after T k (drop (suc done) wanted)) (depth_by (sign_of T (get_or wanted done 0)) depth)
  unfolding depth_after
  matching_next {done} {depth} r h = r.rest ∙ ap (depth_after T depth) (drop-cons wanted done 0 h)

  pub matching_step : {done depth k : ℕ} → Matching T wanted done depth → done < length wanted
      → depth_by (sign_of T (get_or wanted done 0)) depth ≡ Some k → Matching T wanted (done + 1) k
  matching_step {done} {depth} {k} r h e =
      let next : done + 1 ≡ suc done = omega arith in
      let grows = depth_grows (sign_of T (get_or wanted done 0)) depth k e in
      rw next (record {
        inside = omega arith;
        below = omega (arith, grows, r.below);
        rest = matching_next r h ∙ ap (λ (o : Option ℕ). option_and_then (λ k. depth_after T k (drop (suc done) wanted)) o) e;
      })

  -- an unquote where nothing is open
  pub matching_lost : {done depth : ℕ} → Matching T wanted done depth → done < length wanted → depth_by (sign_of T (get_or wanted done 0)) depth ≡ None
      → depth_after T 0 wanted ≡ None
  matching_lost {done} r h e = matching_next r h ∙ ap (λ (o : Option ℕ). option_and_then (λ k. depth_after T k (drop (suc done) wanted)) o) e

  pub matching_end : {done depth : ℕ} → Matching T wanted done depth → length wanted ≤ done → depth_after T 0 wanted ≡ Some depth
  unfolding depth_after
  matching_end {done} {depth} r h = r.rest ∙ ap (depth_after T depth) (drop_of_length-le wanted {i = done} h)
