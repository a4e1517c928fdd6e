-- Laws about numbers in cells and about lists, for all that follows.
use Prim.Native.Nat.{ℕ, suc, ◌+◌, ◌≤◌, ◌<◌}
use native.Mathlib.Omega.{arith}
use mathlib.Core.Path.{◌≡◌, refl, sym, ap, ◌∙◌}
use mathlib.Core.List.{List, [], ◌∷◌, ◌++◌, append_assoc}
use lib.ListN.{length, take, drop, get_or, set, length-append}
use lib.Seq.{take_at, drop_at, drop-cons, drop-drop}
use Rattle.memory.specs.Block.{block, placed}
use Rattle.memory.proofs.Blocks.{placed-after, placed-none}
use Rattle.machine.specs.Walks.{packed, high, low, cell}

-- a number that fits a cell
pub cell_is : (x : ℕ) → x < 4294967296 → cell x ≡ x
cell_is x h = omega arith

-- and the low one
pub packed-low : (a b : ℕ) → b < 65536 → low (packed a b) ≡ b
packed-low a b h = omega arith

-- the high part of a packed pair
pub packed-high : (a b : ℕ) → a < 65536 → high (packed a b) ≡ a
packed-high a b h = omega arith

-- a block by its first cell and the others
pub block-cons : (p k : ℕ) (l : List ℕ) → p < length l → block p (k + 1) l ≡ get_or l p 0 ∷ block (p + 1) k l
block-cons p k l h =
    let e : k + 1 ≡ suc k = omega arith in
    let e₂ : suc p ≡ p + 1 = omega arith in
    ap (λ (j : ℕ). block p j l) e ∙ ap (take (suc k)) (drop-cons l p 0 h) ∙ ap (λ (j : ℕ). get_or l p 0 ∷ take k (drop j l)) e₂

-- One element set is a piece of one placed.
pub set-placed : (l : List ℕ) (i v : ℕ) → i < length l → set l i v ≡ placed i (v ∷ []) l
set-placed l i v h =
    let e : i + 0 ≡ i = omega arith in
    let p : set (placed i [] l) (i + 0) v ≡ placed i (v ∷ []) l = placed-after i [] l v (omega arith) in
    rw (placed-none i l, e) at p

-- A piece placed behind what was written.
pub overwrite : (out start bs : List ℕ) → length out + length bs ≤ length start
    → placed (length out) bs (out ++ drop (length out) start) ≡ (out ++ bs) ++ drop (length (out ++ bs)) start
overwrite out start bs h =
    let e : drop (length out + length bs) (out ++ drop (length out) start) ≡ drop (length (out ++ bs)) start =
    sym (drop-drop (length bs) (length out) (out ++ drop (length out) start))
    ∙ ap (drop (length bs)) (drop_at out (drop (length out) start) (length out) refl)
    ∙ drop-drop (length bs) (length out) start
    ∙ ap (λ (x : ℕ). drop x start) (sym (length-append out bs)) in
    ap (λ (x : List ℕ). x ++ (bs ++ drop (length out + length bs) (out ++ drop (length out) start))) (take_at out (drop (length out) start) (length out) refl)
    ∙ ap (λ (x : List ℕ). out ++ (bs ++ x)) e
    ∙ sym (append_assoc out bs (drop (length (out ++ bs)) start))
