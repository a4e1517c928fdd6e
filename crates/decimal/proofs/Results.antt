-- What each branch of the operations answers is the definition's result.
use mathlib.Core.Path.{◌≡◌, ap, ◌∙◌}
use mathlib.Core.Bool.{true}
use Rattle.std.specs.Prelude.{Ok}
use lib.IntN.{ℤ}
use mir.Syntax.{w32}
use mir.Val.{SFits, of_z, to_z}
use mir.Facts.{to_z-of_z}
use Rattle.decimal.proofs.Ranges.{in_range_lem}
use Rattle.decimal.proofs.Division.{quotient_only, remainder_only, divisor_some, quotient_fits, remainder_fits}
use Rattle.decimal.specs.declared.operations.Operation.TheVariants.{Quotient, Remainder}
use Rattle.decimal.specs.Operand.{in_range}
use Rattle.decimal.specs.Arithmetic.{Division, ranged, of_numbers}

-- a number in range is its own result
in_is_number : (z : ℤ) → in_range z ≡ true → Ok z ≡ ranged z
in_is_number z e = rw e

-- quotient and remainder are those of the division
module _ {a b q r : ℤ} (f : SFits w32 a) (g : SFits w32 b) (d : Division (to_z w32 (of_z w32 a)) (to_z w32 (of_z w32 b)) q r) where
  -- of the numbers themselves
  itself : Division a b q r
  itself = rw (to_z-of_z f, to_z-of_z g) at d

  pub quotient_number : (of_z w32 b ≡ 4294967295 → ⊥) → Ok (to_z w32 (of_z w32 q)) ≡ of_numbers Quotient a b
  quotient_number m =
      let h = quotient_fits f (λ e. m (ap (of_z w32) e)) itself in
      rw (to_z-of_z h) (in_is_number q (in_range_lem q h.sfits) ∙ rw (divisor_some itself, quotient_only itself))

  pub remainder_number : Ok (to_z w32 (of_z w32 r)) ≡ of_numbers Remainder a b
  remainder_number =
      let h = remainder_fits g itself in
      rw (to_z-of_z h) (in_is_number r (in_range_lem r h.sfits) ∙ rw (divisor_some itself, remainder_only itself))
