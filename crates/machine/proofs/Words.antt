-- The words from M6 on the arguments of a call, as they stand in cells: the comparison of SEQ and the choice of IF.
use Prim.Native.Nat.{ℕ, zero, suc, ◌+◌, ◌≤◌, ◌<◌}
use native.Mathlib.Omega.{arith}
use mathlib.Core.Path.{◌≡◌, refl, sym, ap, ◌∙◌}
use mathlib.Core.Bool.{Bool, true, false, cond}
use mathlib.Core.List.{List, [], ◌∷◌, ◌++◌}
use Rattle.std.specs.Prelude.{Option, None, Some}
use lib.ListN.{length, drop, get_or}
use borrow.Author.Tests.{lt-leb}
use Rattle.memory.specs.Block.{block, same, same_blocks}
use Rattle.memory.proofs.Blocks.{eq_same, same_true, same_blocks_in, same_blocks-true, same_bytes_in}
use Rattle.language.specs.Signs.{Bytes, ascii}
use Rattle.language.specs.Definitions as D
use Rattle.language.specs.BuiltIns as B
use Rattle.language.specs.Charge.{arguments_price}
use Rattle.machine.specs.Walks.{mark, behind, is_text, chosen_from, compare}
use Rattle.machine.specs.Items.{encode_arguments}
use Rattle.machine.proofs.Finds.{first_of, argument_at, argument_behind, argument_past}
use Rattle.machine.proofs.Lists.{block-cons}
use Rattle.machine.proofs.Naming.{TextAt, argument_text, same_is}

-- What is shown ------------------------------------------------------------------------------------------------------

-- what IF gives, as the code has it: nothing, or the argument at a length cell
pub data Picked (l : List ℕ) (v : Bytes) : Option ℕ → Type 0 where
  nothing : v ≡ [] → Picked l v None
  picked : {q : ℕ} → TextAt l q v → Picked l v (Some q)

-- SEQ ----------------------------------------------------------------------------------------------------------------

-- two tests of which each passes where the other does
alike : (x y : Bool) → (x ≡ true → y ≡ true) → (y ≡ true → x ≡ true) → x ≡ y
alike true y f g = sym (f refl)
alike false true f g = g refl
alike false false f g = refl

-- the code compares length and bytes at once, and comes to what SEQ asks
pub compare_is : {l : List ℕ} {p q : ℕ} {a b : Bytes} → TextAt l p a → TextAt l q b → compare l p q ≡ cond (D.same a b) 1 0
compare_is {l} {p} {q} {a} {b} f g =
    rw (f.counted, alike (same_blocks p q (length a + 1) l) (same a b) equal together, same_is a b)
  where
    whole : block p (length a + 1) l ≡ length a ∷ a
    whole = block-cons p (length a) l (omega (arith, f.within)) ∙ rw (f.counted, f.bytes)

    other : (k : ℕ) → block q (k + 1) l ≡ length b ∷ block (q + 1) k l
    other k = block-cons q k l (omega (arith, g.within)) ∙ rw g.counted

    equal : same_blocks p q (length a + 1) l ≡ true → same a b ≡ true
    equal e =
        let blocks : length a ∷ a ≡ length b ∷ block (q + 1) (length a) l = sym whole ∙ (same_blocks-true p q (length a + 1) l e).2 ∙ other (length a) in
        let size : length a ≡ length b = ap (λ (x : List ℕ). get_or x 0 0) blocks in
        eq_same a b (ap (drop 1) blocks ∙ ap (λ (k : ℕ). block (q + 1) k l) size ∙ g.bytes)

    together : same a b ≡ true → same_blocks p q (length a + 1) l ≡ true
    together e =
        let is : a ≡ b = same_true a b e in
        let size : length a ≡ length b = ap length is in
        same_blocks_in p q (length a + 1) l (omega (arith, f.within)) (omega (arith, g.within))
        ∙ eq_same (block p (length a + 1) l) (block q (length a + 1) l)
        (whole
        ∙ ap (λ (x : List ℕ). length x ∷ x) is
        ∙ sym (other (length a) ∙ ap (λ (k : ℕ). length b ∷ block (q + 1) k l) size ∙ ap (λ (x : List ℕ). length b ∷ x) g.bytes))

-- IF -----------------------------------------------------------------------------------------------------------------

-- the code finds out whether an argument is exactly `1`
is_one_is : {l : List ℕ} {p : ℕ} {t : Bytes} → TextAt l p t → is_text l p (ascii "1") ≡ D.same t (ascii "1")
is_one_is {l} {p} {t} h = rw (h.counted, same_bytes_in (p + 1) (length t) (ascii "1") l h.within, h.bytes, same_is t (ascii "1"))

-- the walk over the pairs behind the first of some arguments comes to what IF gives
pub chosen_at : (t : ℕ) (l : List ℕ) (p : ℕ) (args : List Bytes) (rest : List ℕ) → drop p l ≡ encode_arguments args ++ (mark ∷ rest)
    → p + arguments_price args < length l → length l ≤ 65536 → arguments_price args ≤ t → 0 < length args
    → Picked l (B.chosen (drop 1 args)) (chosen_from t l p)
unfolding arguments_price B.chosen chosen_from
chosen_at t l p [] rest e small sized enough h = absurd (omega arith)
chosen_at zero l p (a ∷ args) rest e small sized enough h = absurd (omega arith)
chosen_at (suc t) l p (a ∷ []) rest e small sized enough h =
    rw (lt-leb (length l) p (omega arith), argument_past l p (a ∷ []) rest 2 e (omega arith) (omega arith)) (nothing refl)
chosen_at (suc t) l p (a ∷ x ∷ []) rest e small sized enough h =
    rw (lt-leb (length l) p (omega arith), argument_past l p (a ∷ x ∷ []) rest 2 e (omega arith) (omega arith)) (nothing refl)
chosen_at (suc t) l p (a ∷ x ∷ y ∷ more) rest e small sized enough h =
    let f = first_of l p a (x ∷ y ∷ more) (mark ∷ rest) e in
    let g = first_of l (p + (length a + 1)) x (y ∷ more) (mark ∷ rest) f.behind in
    let q₁ = argument_behind l p (a ∷ x ∷ y ∷ more) rest e (omega arith) (omega arith) in
    let q₂ = argument_at l p (a ∷ x ∷ y ∷ more) rest 2 e (omega arith) (λ z. omega arith) (omega arith) in
    let first : TextAt l (behind l p) x = argument_text q₁ (omega arith) in
    let second : TextAt l q₂.at y = argument_text q₂.is (omega arith) in
    let at : q₂.at ≡ p + (length a + 1) + (length x + 1) = omega (arith, q₂.is.place) in
    let r = chosen_at t l q₂.at (y ∷ more) rest (ap (λ (j : ℕ). drop j l) at ∙ g.behind) (omega arith) sized (omega arith) (omega arith) in
    rw (lt-leb (length l) p (omega arith), q₂.found, is_one_is first)
    (go (D.same x (ascii "1")) (picked second) r)
  where
    go : (b : Bool) {q q' : Option ℕ} → Picked l y q → Picked l (B.chosen more) q' → Picked l (cond b y (B.chosen more)) (cond b q q')
    go true here further = here
    go false here further = further
