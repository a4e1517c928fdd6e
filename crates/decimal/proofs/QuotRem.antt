-- Document 02, Seven, of two texts: what Quot and Rem give is what a division of the two operands has, and nothing but the quotient
-- of -2147483648 by -1 is out of range.
use Prim.Native.Nat.{ℕ}
use mathlib.Core.Path.{◌≡◌, refl, sym, ap, ◌∙◌, subst}
use mathlib.Core.Logic.{◌↔◌, ◌≢◌}
use mathlib.Core.Bool.{Bool, true, false, cond, true≢false}
use mathlib.Core.List.{List}
use Rattle.std.specs.Prelude.{Option, None, Some, Result, Ok, Err}
use lib.Dec.{T}
use lib.IntN.{ℤ, pos, negsuc}
use Rattle.decimal.proofs.Ranges.{true_of, in_range_lem, range_fits}
use Rattle.decimal.proofs.Division.{division, quotient_only, remainder_only, divisor_some, out_of_range_only, remainder_fits}
use Rattle.decimal.proofs.Laws.{none_some, no_number, result_in_range}
use Rattle.decimal.specs.declared.operations.Operation.{Operation}
use Rattle.decimal.specs.declared.operations.Operation.TheVariants.{Quotient, Remainder}
use Rattle.decimal.specs.declared.operations.Refusal.{Refusal}
use Rattle.decimal.specs.declared.operations.Refusal.TheVariants.{NotANumber, DivisorZero, ResultOutOfRange}
use Rattle.decimal.specs.Operand.{worth, smallest, in_range, operand}
use Rattle.decimal.specs.Operand.{ranged as rangedOperand}
use Rattle.decimal.specs.Arithmetic.{DivisionOf, divides, is_zero, quotient_of, remainder_of, exact, ranged, of_operands, calculated}

-- an operand is in range
operand_in : (o : Option ℤ) (z : ℤ) → rangedOperand o ≡ Some z → in_range z ≡ true
operand_in None z e = absurd (none_some e)
operand_in (Some x) z e = go (in_range x) refl e
  where
    go : (t : Bool) → in_range x ≡ t → cond t (Some x) None ≡ Some z → in_range z ≡ true
    go true h q = let same : x ≡ z = cc in rw (← same) h
    go false h q = absurd (none_some q)

operand_range : (t : List ℕ) (z : ℤ) → operand t ≡ Some z → in_range z ≡ true
unfolding operand
operand_range t z e = operand_in (worth t) z e

-- a number that is ranged is itself
ranged_number : (t : Bool) (x z : ℤ) → cond t (Ok x) (Err ResultOutOfRange) ≡ Ok z → x ≡ z
ranged_number true x z e = cc
ranged_number false x z e = absurd (no_number _ z e)

-- and what is refused is out of range
ranged-refused : (t : Bool) (x : ℤ) → cond t (Ok x) (Err ResultOutOfRange) ≡ Err ResultOutOfRange → t ≡ false
ranged-refused true x e = absurd (no_number _ x (sym e))
ranged-refused false x e = refl

-- a divisor that is not refused is not zero
not_zero : (b : ℤ) → is_zero b ≡ false → b ≢ pos 0
not_zero b h e = true≢false (sym (ap is_zero e) ∙ h)

-- a result of Quot or Rem that is neither 22 nor 23 is that of two operands, by a divisor that is not zero
of_two : (op : Operation) → T (divides op) → (o p : Option ℤ) (x : Result ℤ Refusal) → Err NotANumber ≢ x → Err DivisorZero ≢ x → of_operands op o p ≡ x
    → (a : ℤ) × (b : ℤ) × (o ≡ Some a) × (p ≡ Some b) × (b ≢ pos 0) × (ranged (exact op a b) ≡ x)
of_two op h None p x m n e = absurd (m e)
of_two op h (Some a) None x m n e = absurd (m e)
of_two op h (Some a) (Some b) x m n e = go (is_zero b) refl (rw (true_of (divides op) h) at e)
  where
    go : (t : Bool) → is_zero b ≡ t → cond t (Err DivisorZero) (ranged (exact op a b)) ≡ x
        → (a' : ℤ) × (b' : ℤ) × (Some a ≡ Some a') × (Some b ≡ Some b') × (b' ≢ pos 0) × (ranged (exact op a' b') ≡ x)
    go true z q = absurd (n q)
    go false z q = (a, b, refl, refl, not_zero b z, q)

module _ (s t : List ℕ) where
  -- what Quot and Rem give is what any division of the two has
  pub by_division : (q r : ℤ) → DivisionOf s t q r → (calculated Quotient s t ≡ ranged q) × (calculated Remainder s t ≡ Ok r)
  by_division q r (a, b, first, second, d) =
      let h : in_range r ≡ true = in_range_lem r (remainder_fits (range_fits b (operand_range t b second)) d).sfits in
      (rw (first, second, divisor_some d, quotient_only d), rw (first, second, divisor_some d, remainder_only d, h))

  -- where one of them is a number, there is a division
  divided : (op : Operation) → T (divides op) → (z : ℤ) → calculated op s t ≡ Ok z
      → (a : ℤ) × (b : ℤ) × (exact op a b ≡ z) × DivisionOf s t (quotient_of a b) (remainder_of a b)
  divided op h z e =
      let (a, b, first, second, n, x) = of_two op h (operand s) (operand t) (Ok z) (no_number _ z) (no_number _ z) e in
      (a, b, ranged_number (in_range (exact op a b)) (exact op a b) z x, (a, b, first, second, division a b n))

  -- Quot gives a number exactly where it is the quotient of the two, and in range
  pub quotient_exactly : (q : ℤ) → (calculated Quotient s t ≡ Ok q) ↔ (((r : ℤ) × DivisionOf s t q r) × T (in_range q))
  quotient_exactly q = (
    λ e.
        let (a, b, x, d) = divided Quotient tt q e in
        ((remainder_of a b, subst (λ z. DivisionOf s t z (remainder_of a b)) x d), result_in_range Quotient s t q e),
    λ g. (by_division q g.0.0 g.0.1).0 ∙ rw (true_of (in_range q) g.1),
  )

  -- Rem gives a number exactly where it is the remainder of the two
  pub remainder_exactly : (r : ℤ) → (calculated Remainder s t ≡ Ok r) ↔ ((q : ℤ) × DivisionOf s t q r)
  remainder_exactly r = (
    λ e.
        let (a, b, x, d) = divided Remainder tt r e in
        (quotient_of a b, subst (λ z. DivisionOf s t (quotient_of a b) z) x d),
    λ g. (by_division g.0 r g.1).1,
  )

  -- what is out of range is a result of two operands
  beyond : (op : Operation) → T (divides op) → calculated op s t ≡ Err ResultOutOfRange
      → (a : ℤ) × (b : ℤ) × (operand s ≡ Some a) × (operand t ≡ Some b) × (b ≢ pos 0) × (in_range (exact op a b) ≡ false)
  beyond op h e =
      let (a, b, first, second, n, x) = of_two op h (operand s) (operand t) (Err ResultOutOfRange) (λ q. cc) (λ q. cc) e in
      (a, b, first, second, n, ranged-refused (in_range (exact op a b)) (exact op a b) x)

  -- Quot is out of range exactly where -2147483648 is divided by -1
  pub out_of_range_exactly : (calculated Quotient s t ≡ Err ResultOutOfRange) ↔ ((operand s ≡ Some smallest) × (operand t ≡ Some (negsuc 0)))
  out_of_range_exactly = (
    λ e.
        let (a, b, first, second, n, x) = beyond Quotient tt e in
        let only = out_of_range_only a b (operand_range s a first) x in
        (first ∙ ap Some only.0, second ∙ ap Some only.1),
    λ g. rw (g.0, g.1),
  )

  -- Rem never is
  pub remainder_in_range : calculated Remainder s t ≢ Err ResultOutOfRange
  remainder_in_range e =
      let (a, b, first, second, n, x) = beyond Remainder tt e in
      true≢false (sym (in_range_lem (remainder_of a b) (remainder_fits (range_fits b (operand_range t b second)) (division a b n)).sfits) ∙ x)
