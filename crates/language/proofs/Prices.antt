-- Laws of definitions and their prices, for any lists.
use Prim.Native.Nat.{ℕ, suc, ◌≤◌, ◌+◌, ◌-◌}
use native.Mathlib.Omega.{arith}
use mathlib.Core.Path.{◌≡◌, refl, sym, ◌∙◌, ap}
use mathlib.Core.Bool.{Bool, true, false, cond}
use mathlib.Core.List.{List, [], ◌∷◌, ◌++◌}
use lib.ListN.{length, drop, length-append, length-take, length-drop, take-append-drop}
use lib.Seq.{drop-drop}
use lib.Dec.{eqb}
use Rattle.language.specs.Signs.{Bytes}
use Rattle.language.specs.Definitions.{Content, macro, built_in, Definition, Change, updates, locks, changed, altered, oldest, newer, between, without}
use Rattle.language.specs.Charge.{arguments_price, content_price, definition_price, definitions_price}

-- arguments one behind the other
pub arguments_append : (a b : List Bytes) → arguments_price (a ++ b) ≡ arguments_price a + arguments_price b
unfolding arguments_price
arguments_append [] b = omega arith
arguments_append (x ∷ a) b = omega (arith, arguments_append a b)

-- the argument in hand ended too
pub arguments_last : (a : List Bytes) (h : Bytes) → arguments_price (a ++ (h ∷ [])) ≡ arguments_price a + length h + 1
unfolding arguments_price
arguments_last a h = omega (arith, arguments_append a (h ∷ []))

pub price_append : (a b : List Definition) → definitions_price (a ++ b) ≡ definitions_price a + definitions_price b
unfolding definitions_price
price_append [] b = omega arith
price_append (d ∷ a) b = omega (arith, price_append a b)

-- the definitions up to a moment and those made since
pub price_split : (n : ℕ) (ds : List Definition) → definitions_price (newer n ds) + definitions_price (oldest n ds) ≡ definitions_price ds
price_split n ds = sym (price_append (newer n ds) (oldest n ds)) ∙ ap definitions_price (take-append-drop (length ds - n) ds)

pub length-oldest : (n : ℕ) (ds : List Definition) → n ≤ length ds → length (oldest n ds) ≡ n
length-oldest n ds h = length-drop (length ds - n) ds ∙ omega arith

pub length-newer : (n : ℕ) (ds : List Definition) → length (newer n ds) ≡ length ds - n
length-newer n ds = length-take (length ds - n) ds ∙ omega arith

-- those that stood at the earlier of two moments
pub oldest-oldest : (n m : ℕ) (ds : List Definition) → n ≤ m → m ≤ length ds → oldest n (oldest m ds) ≡ oldest n ds
oldest-oldest n m ds h k =
    let e : (length ds - m) + (m - n) ≡ length ds - n = omega arith in
    ap (λ (x : ℕ). drop (x - n) (oldest m ds)) (length-oldest m ds k)
    ∙ drop-drop (m - n) (length ds - m) ds
    ∙ ap (λ (x : ℕ). drop x ds) e

-- what is dropped between two moments and what is left
pub price_without : (n m : ℕ) (ds : List Definition) → n ≤ m → m ≤ length ds
    → definitions_price (between n m ds) + definitions_price (without n m ds) ≡ definitions_price ds
price_without n m ds h k =
    omega (
      arith,
      price_split m ds,
      price_split n (oldest m ds),
      ap definitions_price (oldest-oldest n m ds h k),
      price_append (newer m ds) (oldest n ds),
    )

pub length_without : (n m : ℕ) (ds : List Definition) → n ≤ m → m ≤ length ds → n ≤ length (without n m ds)
length_without n m ds h k =
    omega (arith, length-append (newer m ds) (oldest n ds), length-oldest n ds (omega arith))

-- UPDATE and LOCK move no definition and change no price
content_price_lem : (n : ℕ) (h : Change) (c : Content) → content_price n (changed h c) ≡ content_price n c
content_price_lem n (updates v) (macro x) = refl
content_price_lem n locks (macro x) = refl
content_price_lem n h (built_in b) = refl

pub price_altered : (k : ℕ) (h : Change) (ds : List Definition) → definitions_price (altered k h ds) ≡ definitions_price ds
unfolding altered definitions_price
price_altered k h [] = refl
price_altered k h (d ∷ ds) = go (eqb k (length ds)) (price_altered k h ds)
  where
    go : (t : Bool) → definitions_price (altered k h ds) ≡ definitions_price ds
        → definitions_price (cond t (record { name = d.name; content = changed h d.content } ∷ ds) (d ∷ altered k h ds)) ≡ definitions_price (d ∷ ds)
    go true e = ap (λ (x : ℕ). x + definitions_price ds) (content_price_lem (length d.name) h d.content)
    go false e = ap (λ (x : ℕ). definition_price d + x) e

pub length-altered : (k : ℕ) (h : Change) (ds : List Definition) → length (altered k h ds) ≡ length ds
unfolding altered
length-altered k h [] = refl
length-altered k h (d ∷ ds) = go (eqb k (length ds)) (length-altered k h ds)
  where
    go : (t : Bool) → length (altered k h ds) ≡ length ds
        → length (cond t (record { name = d.name; content = changed h d.content } ∷ ds) (d ∷ altered k h ds)) ≡ length (d ∷ ds)
    go true e = refl
    go false e = ap suc e
