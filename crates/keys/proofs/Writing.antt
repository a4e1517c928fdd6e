-- The two quotes of a table, and the script in the output.
use Prim.Native.Nat.{ℕ, zero, suc, ◌+◌, ◌≤◌, ◌<◌}
use native.Mathlib.Omega.{arith}
use mathlib.Core.Path.{◌≡◌, refl, sym, ap, ◌∙◌}
use mathlib.Core.Bool.{Bool, true, false, cond, true≢false}
use mathlib.Core.List.{[], ◌∷◌, ◌++◌}
use lib.ListN.{length, drop, get_or, set}
use lib.Seq.{take-length}
use borrow.Author.Tests.{eqb-true, eq-eqb}
use Rattle.memory.specs.Block.{copied}
use Rattle.memory.proofs.Blocks.{copied_in, placed_before, placed-after}
use Rattle.language.specs.Signs.{Bytes, Table}
use Rattle.language.specs.Refusals.{has_kind, AcceptedTable}
use Rattle.language.specs.Expansion.{overwritten}
use Rattle.language.proofs.Accepted.{below_suc, Single, accepted_exactly}
use Rattle.keys.specs.Scripts.{last_below, byte_of, quote_kind, unquote_kind, script}

-- The byte of a kind ---------------------------------------------------------------------------------------------------

module _ (n : ℕ) (test : ℕ → Bool) where
  pub last_here : test n ≡ true → last_below (suc n) test ≡ n
  unfolding last_below
  last_here e = rw e refl

  pub last_lower : test n ≡ false → last_below (suc n) test ≡ last_below n test
  unfolding last_below
  last_lower e = rw e refl

-- where a test holds of some number, it holds of the last
last_has : (n k : ℕ) (test : ℕ → Bool) → k < n → test k ≡ true → (last_below n test < n) × (test (last_below n test) ≡ true)
unfolding last_below
last_has zero k test h e = absurd (omega arith)
last_has (suc n) k test h e = go (test n) refl (λ below. last_has n k test below e)
  where
    Last : ℕ → ℕ → Type 0
    Last m j = (j < m) × (test j ≡ true)

    go : (t : Bool) → test n ≡ t → (k < n → Last n (last_below n test)) → Last (suc n) (cond t n (last_below n test))
    go true p more = (omega arith, p)
    go false p more =
        below_suc (λ j. test j ≡ true → Last (suc n) (last_below n test)) n k h (λ q. absurd (true≢false (sym q ∙ p)))
        (λ below q. let (l, e') = more below in (omega (arith, l), e')) e

-- an accepted table has one byte of each kind from 1 to 6, and this is it
module _ (T : Table) (accepted : AcceptedTable T) (kind : ℕ) (least : 1 ≤ kind) (most : kind ≤ 6) where
  one : Single 256 (has_kind T kind)
  one = ((accepted_exactly T).0 accepted).signs kind least most

  pub byte_of_lem : (byte_of T kind < 256) × (get_or T (byte_of T kind) 0 ≡ kind)
  byte_of_lem =
      let (h, e) = last_has 256 one.number (has_kind T kind) one.inside one.has in
      (h, eqb-true (get_or T (byte_of T kind) 0) kind e)

  pub byte_only : (b : ℕ) → b < 256 → get_or T b 0 ≡ kind → b ≡ byte_of T kind
  byte_only b h e =
      let (h', e') = last_has 256 one.number (has_kind T kind) one.inside one.has in
      one.only b h (eq-eqb (get_or T b 0) kind e) ∙ sym (one.only (byte_of T kind) h' e')

-- The script in the output -----------------------------------------------------------------------------------------------

-- bytes copied to the second place, then one put before them and one behind
quoted_bytes : (q u : ℕ) (wanted output : Bytes) → length wanted + 2 ≤ length output
    → set (set (copied 0 1 (length wanted) wanted output) 0 q) (length wanted + 1) u ≡ overwritten (q ∷ (wanted ++ (u ∷ []))) output
quoted_bytes q u wanted output h =
    let next : length wanted + 1 ≡ 0 + length (q ∷ wanted) = omega arith in
    let all : 0 + length (q ∷ (wanted ++ (u ∷ []))) ≡ length (q ∷ (wanted ++ (u ∷ []))) = omega arith in
    rw (copied_in 0 1 (length wanted) wanted output (omega arith) (omega arith), take-length wanted, placed_before 0 wanted output q (omega arith), next)
    (placed-after 0 (q ∷ wanted) output u (omega arith) ∙ ap (λ (n : ℕ). (q ∷ (wanted ++ (u ∷ []))) ++ drop n output) all)

-- so the output has become the script
pub written-script : (T : Table) (wanted output : Bytes) {o₁ o₂ o₃ : Bytes} {q u : ℕ} → length wanted + 2 ≤ length output
    → o₁ ≡ copied 0 1 (length wanted) wanted output → q ≡ byte_of T quote_kind → o₂ ≡ set o₁ 0 q
    → u ≡ byte_of T unquote_kind → o₃ ≡ set o₂ (length wanted + 1) u
    → o₃ ≡ overwritten (script T wanted) output
written-script T wanted output h e₁ q e₂ u e₃ =
    rw (e₃, u, e₂, q, e₁) (quoted_bytes (byte_of T quote_kind) (byte_of T unquote_kind) wanted output h)
