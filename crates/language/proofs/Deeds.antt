-- What an applied call can do, whichever it is: a body that is read is that of a standing definition, a definition has the two
-- parameters of DEF, the first of which is its name and not empty, and every fault is one of the text.
use Rattle.std.specs.Prelude.{ℤ, Result}
use Prim.Native.Nat.{ℕ, ◌<◌}
use native.Mathlib.Omega.{arith}
use mathlib.Core.Path.{◌≡◌, refl}
use mathlib.Core.Bool.{Bool, true, false, cond, ◌&&◌}
use mathlib.Core.List.{List, [], ◌∷◌}
use Rattle.std.specs.Prelude.{Option, None, Some}
use lib.ListN.{length}
use lib.Dec.{T as So, ltb}
use lib.IntN.{ℤ}
use borrow.Author.Tests.{ltb-true}
use Rattle.decimal.specs.declared.operations.Operation.{Operation}
use Rattle.decimal.specs.declared.operations.Refusal.{Refusal}
use Rattle.decimal.specs.Operand.{operand, in_range}
use Rattle.decimal.specs.Arithmetic.{divides, is_zero, exact, of_operands}
use Rattle.language.specs.Signs.{Bytes}
use Rattle.language.specs.Outcomes
use Rattle.language.specs.Outcomes.{end_of_text}
use Rattle.language.specs.declared.built_ins.BuiltIn.{BuiltIn}
use Rattle.language.specs.declared.built_ins.BuiltIn.TheVariants.{Def, Val, Update, Arithmetic, Seq, Size, If, Lock}
use Rattle.language.specs.Definitions.{Content, macro, built_in, Definition, Found, found, missing, newest, same, Change, among}
use Rattle.language.specs.BuiltIns.{Deed, reads, defines, gives, alters, faulty, deed, deed_of, performed, value_of, update_of, result_of, lock_of, parameter, needs}
use Rattle.language.proofs.Lists.{either, by_definition}

pub data Does (list : List Bytes) (ds : List Definition) : Deed → Type 0 where
  to_read : {k : ℕ} {v : Bytes} → k < length ds → Does list ds (reads k v)
  to_define : 2 < length list → 0 < length (parameter 1 list) → Does list ds (defines (parameter 1 list) (parameter 2 list))
  to_give : {bs : Bytes} → Does list ds (gives bs)
  to_alter : {k : ℕ} {h : Change} → Does list ds (alters k h)
  to_fail : {n : ℕ} → So (end_of_text n) → Does list ds (faulty n)

-- a definition that is found stands
pub newest-stands : (n : Bytes) (ds : List Definition) (k : ℕ) (c : Content) → newest n ds ≡ found k c → k < length ds
unfolding newest
newest-stands n [] k c e = let z : ◌≡◌ {A = ℕ} 0 1 = cc in absurd (omega arith)
newest-stands n (d ∷ ds) k c e = go (same n d.name) e (λ p. newest-stands n ds k c p)
  where
    go : (t : Bool) → cond t (found (length ds) d.content) (newest n ds) ≡ found k c → (newest n ds ≡ found k c → k < length ds) → k < length (d ∷ ds)
    go true e ih = let p : length ds ≡ k = cc in omega arith
    go false e ih = omega (arith, ih e)

module _ (busy : List ℕ) (list : List Bytes) (ds : List Definition) where
  -- VAL
  value_does : (f : Found) → Does list ds (value_of f)
  value_does missing = to_fail tt
  value_does (found k (macro x)) = to_give
  value_does (found k (built_in b)) = to_fail tt

  -- UPDATE
  update_does : (w : Bytes) (f : Found) → Does list ds (update_of busy w f)
  update_does w missing = to_fail tt
  update_does w (found k (built_in b)) = to_fail tt
  update_does w (found k (macro x)) = either (Does list ds) x.locked (to_fail tt) (either (Does list ds) (among k busy) (to_fail tt) (either (Does list ds) (ltb x.room (length w)) (to_fail tt) to_alter))

  -- arithmetic: 22, 23 and 24
  result_does : (op : Operation) (a b : Option ℤ) → Does list ds (result_of (of_operands op a b))
  result_does op None b = to_fail tt
  result_does op (Some a) None = to_fail tt
  result_does op (Some a) (Some b) = either does (divides op && is_zero b) (to_fail tt) (either does (in_range (exact op a b)) to_give (to_fail tt))
    where
      does : Result ℤ Refusal → Type 0
      does r = Does list ds (result_of r)

  -- LOCK
  lock_does : (f : Found) → Does list ds (lock_of f)
  lock_does missing = to_fail tt
  lock_does (found k (macro x)) = to_alter
  lock_does (found k (built_in b)) = to_fail tt

  -- each built-in that has its parameters
  performed_does : (b : BuiltIn) → needs b < length list → Does list ds (performed busy list ds b)
  performed_does Def h = by_definition (Does list ds) (parameter 1 list) (parameter 2 list) (to_fail tt) (λ name. to_define h name)
  performed_does Val h = value_does (newest (parameter 1 list) ds)
  performed_does Update h = update_does (parameter 2 list) (newest (parameter 1 list) ds)
  performed_does (Arithmetic op) h = result_does op (operand (parameter 1 list)) (operand (parameter 2 list))
  performed_does Seq h = to_give
  performed_does Size h = to_give
  performed_does If h = to_give
  performed_does Lock h = lock_does (newest (parameter 1 list) ds)

  -- every call
  pub deed_does : Does list ds (deed busy list ds)
  unfolding deed
  deed_does = go (newest (parameter 0 list) ds) refl
    where
      test : (b : BuiltIn) (t : Bool) → ltb (needs b) (length list) ≡ t
          → Does list ds (cond t (performed busy list ds b) (faulty Outcomes.not_supplied))
      test b true e = performed_does b (ltb-true (needs b) (length list) e)
      test b false e = to_fail tt

      go : (f : Found) → newest (parameter 0 list) ds ≡ f → Does list ds (deed_of busy list ds f)
      go missing e = to_fail tt
      go (found k (macro x)) e = to_read (newest-stands (parameter 0 list) ds k (macro x) e)
      go (found k (built_in b)) e = test b (ltb (needs b) (length list)) refl
