-- Laws about a choice and about every element of a list, for all that follows; about the choice of IF, and DEF's check.
use Prim.Native.Nat.{ℕ, zero, suc, ◌<◌}
use native.Mathlib.Omega.{arith}
use mathlib.Core.Path.{◌≡◌, refl, sym}
use mathlib.Core.Bool.{Bool, true, false, cond, true≢false}
use mathlib.Core.List.{List, [], ◌∷◌, ◌++◌}
use lib.ListN.{length, take, drop, get_or}
use Rattle.language.specs.Signs.{Bytes, ascii}
use Rattle.language.specs.Definitions.{same}
use Rattle.language.specs.Outcomes
use Rattle.language.specs.BuiltIns.{Deed, defines, faulty, definition_by, chosen}
use Rattle.language.specs.Matched.{All, empty, with}

-- whichever of two is taken, where both have a property
pub either : {A : Type 0} (P : A → Type 0) (t : Bool) {a b : A} → P a → P b → P (cond t a b)
either P true p q = p
either P false p q = q

-- whether every element passes a test
unfoldable pub every : {A : Type 0} → (A → Bool) → List A → Bool
every test [] = true
every test (x ∷ xs) = let r = every test xs in cond (test x) r false

module _ {A : Type 0} {P : A → Type 0} where
  -- of two lists, one behind the other
  pub all_append : {xs ys : List A} → All P xs → All P ys → All P (xs ++ ys)
  all_append empty q = q
  all_append (with p ps) q = with p (all_append ps q)

  -- of the first n
  pub all_take : (n : ℕ) {xs : List A} → All P xs → All P (take n xs)
  all_take zero p = empty
  all_take (suc n) empty = empty
  all_take (suc n) (with p ps) = with p (all_take n ps)

  -- of all but the first n
  pub all_drop : (n : ℕ) {xs : List A} → All P xs → All P (drop n xs)
  all_drop zero p = p
  all_drop (suc n) empty = empty
  all_drop (suc n) (with p ps) = all_drop n ps

  -- of element n, or of what stands for one that is missing
  pub all_get_d : (d : A) → P d → {xs : List A} → All P xs → (n : ℕ) → P (get_or xs n d)
  all_get_d d z empty n = z
  all_get_d d z (with p ps) zero = p
  all_get_d d z (with p ps) (suc n) = all_get_d d z ps n

  -- of all, where each passes a test that shows it
  pub all_by : (test : A → Bool) → ((x : A) → test x ≡ true → P x) → (xs : List A) → every test xs ≡ true → All P xs
  unfolding every
  all_by test shows [] h = empty
  all_by test shows (x ∷ xs) h = go (test x) refl h (all_by test shows xs)
    where
      go : (t : Bool) → test x ≡ t → cond t (every test xs) false ≡ true → (every test xs ≡ true → All P xs) → All P (x ∷ xs)
      go true e h others = with (shows x e) (others h)
      go false e h others = absurd (true≢false (sym h))

-- IF chooses one of its parameters or nothing: what holds of these holds of its choice
pub all_chosen : {P : Bytes → Type 0} → P [] → {list : List Bytes} → All P list → P (chosen list)
unfolding chosen
all_chosen z empty = z
all_chosen z (with p empty) = z
all_chosen {P} z (with {x = first} p (with q ps)) = either P (same first (ascii "1")) q (all_chosen z ps)

-- DEF turns an empty name away and defines every other: what holds of both holds of what it does
pub by_definition : (P : Deed → Type 0) (n v : Bytes) → P (faulty Outcomes.empty_name) → (0 < length n → P (defines n v)) → P (definition_by n v)
by_definition P [] v p q = p
by_definition P (b ∷ n) v p q = q (omega arith)
