-- Document 02, Thirteen: "A lookup reads one group and finds the definition that reading all would find, or none if that finds
-- none." Every definition stands in one group, which is that of its name.
use Prim.Native.Nat.{ℕ, zero, suc, ◌+◌, ◌≤◌, ◌<◌}
use native.Mathlib.Nat.{mod-lt}
use native.Mathlib.Omega.{arith}
use mathlib.Core.Path.{◌≡◌, refl, sym, ap, ◌∙◌}
use mathlib.Core.Bool.{Bool, true, false, cond, ◌&&◌, true≢false}
use mathlib.Core.List.{List, [], ◌∷◌, ◌++◌}
use Rattle.std.specs.Prelude.{None, Some}
use lib.ListN.{length, replicate}
use lib.Dec.{eqb, ltb}
use borrow.Author.Tests.{eqb-true, eqb-false, eq-eqb, ne_eqb, ltb-true, ltb-false, lt-ltb, le-ltb}
use Rattle.language.specs.Signs.{Bytes, ascii}
use Rattle.language.specs.declared.built_ins.BuiltIn.TheVariants.{Def, Update, Arithmetic, Seq, If, Lock}
use Rattle.decimal.specs.declared.operations.Operation.TheVariants.{Quotient}
use Rattle.language.specs.Definitions.{built_in, Definition, Found, found, missing, defined, same, newest, Change, changed, altered}
use Rattle.language.specs.BuiltIns.{named, built_ins}
use Rattle.language.specs.Groups.{groups, sum, group, of_group, content_of}
use Rattle.language.specs.Matched.{All, empty, with}
use Rattle.language.proofs.Prices.{length-altered}

-- Cases ------------------------------------------------------------------------------------------------------------------

-- the groups of the names of definitions
abbrev groups_of : List Definition → List ℕ
groups_of [] = []
groups_of (d ∷ ds) = group d.name ∷ groups_of ds

-- those of `DEF`, `VAL`, `UPDATE`, `+`, `-`, `*`, `Quot`, `Rem`, `SEQ`, `SIZE`, `IF` and `LOCK`
pub groups_of_built_ins : groups_of built_ins ≡ 15 ∷ 35 ∷ 3 ∷ 43 ∷ 45 ∷ 42 ∷ 41 ∷ 36 ∷ 41 ∷ 59 ∷ 15 ∷ 41 ∷ []
unfolding sum
groups_of_built_ins = refl

-- one group of three built-ins, in their order
pub group_of_three : of_group 41 built_ins ≡ named (ascii "Quot") (Arithmetic Quotient) ∷ named (ascii "SEQ") Seq ∷ named (ascii "LOCK") Lock ∷ []
unfolding of_group sum
group_of_three = refl

-- names that are not of letters alone: no byte; the last byte below 64 and the first from it on; bytes above 127; 300 bytes
pub groups_of_names :
    (group [] ≡ 0)
    × (group (63 ∷ []) ≡ 63)
    × (group (64 ∷ []) ≡ 0)
    × (group (200 ∷ 255 ∷ 130 ∷ []) ≡ 9)
    × (group (replicate 300 255) ≡ 20)
unfolding sum
groups_of_names = (refl, refl, refl, refl, refl)

-- two names of the group of UPDATE, one of them twice, among others: one of the group of `+`, one of the group of DEF and IF
abbrev standing : List Definition
standing =
    defined (ascii "ab") (ascii "3") ∷
    defined (ascii "k") (ascii "4") ∷
    defined (ascii "ba") (ascii "2") ∷
    defined (ascii "FED") (ascii "5") ∷
    defined (ascii "ab") (ascii "1") ∷
    built_ins

-- in their order, before UPDATE
pub group_of_two_names :
    of_group (group (ascii "ba")) standing
    ≡ defined (ascii "ab") (ascii "3") ∷ defined (ascii "ba") (ascii "2") ∷ defined (ascii "ab") (ascii "1") ∷ named (ascii "UPDATE") Update ∷ []
unfolding of_group sum
group_of_two_names = refl

-- a definition before built-ins of its group
pub group_with_built_ins : of_group 15 standing ≡ defined (ascii "FED") (ascii "5") ∷ named (ascii "DEF") Def ∷ named (ascii "IF") If ∷ []
unfolding of_group sum
group_with_built_ins = refl

-- what one group finds: behind a definition of another name, a built-in behind a definition, and no definition
pub found_in_a_group :
    (content_of (newest (ascii "ba") (of_group (group (ascii "ba")) standing)) ≡ Some (defined (ascii "ba") (ascii "2")).content)
    × (content_of (newest (ascii "IF") (of_group 15 standing)) ≡ Some (built_in If))
    × (content_of (newest (ascii "EDF") (of_group 15 standing)) ≡ None)
unfolding of_group newest same sum
found_in_a_group = (refl, refl, refl)

-- of a group that is not its own a lookup finds none
pub not_in_another_group : content_of (newest (ascii "k") (of_group 15 standing)) ≡ None
unfolding of_group newest same sum
not_in_another_group = refl

-- Names ----------------------------------------------------------------------------------------------------------------

-- every name has one of the groups
pub group_below : (name : Bytes) → group name < groups
group_below name = mod-lt (sum name) (omega arith)

-- names that pass the test are one name
pub same_names : (n m : Bytes) → same n m ≡ true → n ≡ m
unfolding same
same_names [] [] h = refl
same_names [] (y ∷ ys) h = absurd (true≢false (sym h))
same_names (x ∷ xs) [] h = absurd (true≢false (sym h))
same_names (x ∷ xs) (y ∷ ys) h = go (eqb x y) refl h (same_names xs ys)
  where
    go : (t : Bool) → eqb x y ≡ t → t && same xs ys ≡ true → (same xs ys ≡ true → xs ≡ ys) → x ∷ xs ≡ y ∷ ys
    go true e h rest = rw (eqb-true x y e, rest h)
    go false e h rest = absurd (true≢false (sym h))

-- so that they are of one group,
pub same_group : (n m : Bytes) → same n m ≡ true → group n ≡ group m
same_group n m h = ap (λ (x : Bytes). group x) (same_names n m h)

-- and names of two groups are two names
pub other_group : (n m : Bytes) → (group n ≡ group m → ⊥) → same n m ≡ false
other_group n m apart = go (same n m) refl
  where
    go : (t : Bool) → same n m ≡ t → t ≡ false
    go true e = absurd (apart (same_group n m e))
    go false e = refl

-- What a group holds -----------------------------------------------------------------------------------------------------

-- a definition stands in the group of its name, before what stood there
pub of_own : (g : ℕ) (d : Definition) (ds : List Definition) → group d.name ≡ g → of_group g (d ∷ ds) ≡ d ∷ of_group g ds
unfolding of_group
of_own g d ds e = rw (eq-eqb (group d.name) g e)

-- and in no other
pub of_other : (g : ℕ) (d : Definition) (ds : List Definition) → (group d.name ≡ g → ⊥) → of_group g (d ∷ ds) ≡ of_group g ds
unfolding of_group
of_other g d ds apart = rw (ne_eqb (group d.name) g apart)

-- the groups of definitions one behind the other
pub of_group-append : (g : ℕ) (a b : List Definition) → of_group g (a ++ b) ≡ of_group g a ++ of_group g b
unfolding of_group
of_group-append g [] b = refl
of_group-append g (d ∷ a) b = go (eqb (group d.name) g) (of_group-append g a b)
  where
    go : (t : Bool) → of_group g (a ++ b) ≡ of_group g a ++ of_group g b
        → cond t (d ∷ of_group g (a ++ b)) (of_group g (a ++ b)) ≡ cond t (d ∷ of_group g a) (of_group g a) ++ of_group g b
    go true e = ap (λ (x : List Definition). d ∷ x) e
    go false e = e

-- no group holds more than stand
pub group-length : (g : ℕ) (ds : List Definition) → length (of_group g ds) ≤ length ds
unfolding of_group
group-length g [] = omega arith
group-length g (d ∷ ds) = go (eqb (group d.name) g) (group-length g ds)
  where
    go : (t : Bool) → length (of_group g ds) ≤ length ds → length (cond t (d ∷ of_group g ds) (of_group g ds)) ≤ length (d ∷ ds)
    go true e = omega arith
    go false e = omega arith

-- "exactly its standing definitions": no group holds one of another,
pub group_own : (g : ℕ) (ds : List Definition) → All (λ d. group d.name ≡ g) (of_group g ds)
unfolding of_group
group_own g [] = empty
group_own g (d ∷ ds) = go (eqb (group d.name) g) refl (group_own g ds)
  where
    go : (t : Bool) → eqb (group d.name) g ≡ t → All (λ d. group d.name ≡ g) (of_group g ds)
        → All (λ d. group d.name ≡ g) (cond t (d ∷ of_group g ds) (of_group g ds))
    go true e others = with (eqb-true (group d.name) g e) others
    go false e others = others

-- and the 64 together hold each definition once: how many the groups below g hold
unfoldable pub held : ℕ → List Definition → ℕ
held zero ds = 0
held (suc g) ds = length (of_group g ds) + held g ds

-- nothing is held where nothing stands
held_none : (g : ℕ) → held g [] ≡ 0
unfolding held of_group
held_none zero = refl
held_none (suc g) = omega (arith, held_none g)

-- 1 where a test passes
abbrev one : Bool → ℕ
one true = 1
one false = 0

-- a group grows by a definition whose name is of it
group_grows : (g : ℕ) (d : Definition) (ds : List Definition) → length (of_group g (d ∷ ds)) ≡ one (eqb (group d.name) g) + length (of_group g ds)
unfolding of_group
group_grows g d ds = go (eqb (group d.name) g)
  where
    go : (t : Bool) → length (cond t (d ∷ of_group g ds) (of_group g ds)) ≡ one t + length (of_group g ds)
    go true = omega arith
    go false = omega arith

-- a number below the next is this one or below it
below_next : (k g : ℕ) → one (eqb k g) + one (ltb k g) ≡ one (ltb k (suc g))
below_next k g = go (eqb k g) refl (ltb k g) refl
  where
    go : (t : Bool) → eqb k g ≡ t → (u : Bool) → ltb k g ≡ u → one t + one u ≡ one (ltb k (suc g))
    go true e true f = absurd (omega (arith, eqb-true k g e, ltb-true k g f))
    go true e false f = ap one (sym (lt-ltb k (suc g) (omega (arith, eqb-true k g e))))
    go false e true f = ap one (sym (lt-ltb k (suc g) (omega (arith, ltb-true k g f))))
    go false e false f = ap one (sym (le-ltb k (suc g) (omega (arith, ltb-false k g f, eqb-false k g e))))

-- a definition more is one more from its group on
held_cons : (g : ℕ) (d : Definition) (ds : List Definition) → held g (d ∷ ds) ≡ one (ltb (group d.name) g) + held g ds
unfolding held
held_cons zero d ds = omega (arith, ap one (le-ltb (group d.name) 0 (omega arith)))
held_cons (suc g) d ds = omega (arith, group_grows g d ds, held_cons g d ds, below_next (group d.name) g)

-- every definition is of one of the 64
pub groups_hold_all : (ds : List Definition) → held groups ds ≡ length ds
groups_hold_all [] = held_none groups
groups_hold_all (d ∷ ds) =
    omega (arith, held_cons groups d ds, ap one (lt-ltb (group d.name) groups (group_below d.name)), groups_hold_all ds)

-- What a lookup finds ----------------------------------------------------------------------------------------------------

-- the definitions of a group, each with its number among all that stand
unfoldable pub in_group : ℕ → List Definition → List (ℕ × Definition)
in_group g [] = []
in_group g (d ∷ ds) = let r = in_group g ds in cond (eqb (group d.name) g) ((length ds, d) ∷ r) r

abbrev pub without_numbers : List (ℕ × Definition) → List Definition
without_numbers [] = []
without_numbers (e ∷ es) = e.1 ∷ without_numbers es

-- without their numbers they are those of the group
pub in_group_is : (g : ℕ) (ds : List Definition) → without_numbers (in_group g ds) ≡ of_group g ds
unfolding in_group of_group
in_group_is g [] = refl
in_group_is g (d ∷ ds) = go (eqb (group d.name) g) (in_group_is g ds)
  where
    go : (t : Bool) → without_numbers (in_group g ds) ≡ of_group g ds
        → without_numbers (cond t ((length ds, d) ∷ in_group g ds) (in_group g ds)) ≡ cond t (d ∷ of_group g ds) (of_group g ds)
    go true e = ap (λ (x : List Definition). d ∷ x) e
    go false e = e

-- the first with a name among definitions with their numbers
unfoldable pub first_named : Bytes → List (ℕ × Definition) → Found
first_named n [] = missing
first_named n (e ∷ es) = let r = first_named n es in cond (same n e.1.name) (found e.0 e.1.content) r

-- "the definition that reading all would find", and no other that is equal to it: it has the same number
pub group_finds_the_newest : (n : Bytes) (ds : List Definition) → first_named n (in_group (group n) ds) ≡ newest n ds
unfolding in_group first_named newest
group_finds_the_newest n [] = refl
group_finds_the_newest n (d ∷ ds) = go (eqb (group d.name) (group n)) refl (same n d.name) refl (group_finds_the_newest n ds)
  where
    go : (t : Bool) → eqb (group d.name) (group n) ≡ t → (u : Bool) → same n d.name ≡ u
        → first_named n (in_group (group n) ds) ≡ newest n ds
        → first_named n (cond t ((length ds, d) ∷ in_group (group n) ds) (in_group (group n) ds)) ≡ cond u (found (length ds) d.content) (newest n ds)
    go true e true f older = rw f
    go true e false f older = rw f older
    go false e true f older = absurd (eqb-false (group d.name) (group n) e (sym (same_group n d.name f)))
    go false e false f older = older

-- what is found does not depend on the numbers
content_found : (n : Bytes) (es : List (ℕ × Definition)) → content_of (newest n (without_numbers es)) ≡ content_of (first_named n es)
unfolding first_named newest
content_found n [] = refl
content_found n (e ∷ es) = go (same n e.1.name) (content_found n es)
  where
    go : (t : Bool) → content_of (newest n (without_numbers es)) ≡ content_of (first_named n es)
        → content_of (cond t (found (length (without_numbers es)) e.1.content) (newest n (without_numbers es))) ≡ content_of (cond t (found e.0 e.1.content) (first_named n es))
    go true older = refl
    go false older = older

-- "A lookup reads one group and finds the definition that reading all would find, or none if that finds none", whatever
-- definitions stand
pub group_finds : (n : Bytes) (ds : List Definition) → content_of (newest n (of_group (group n) ds)) ≡ content_of (newest n ds)
group_finds n ds =
    ap (λ (x : List Definition). content_of (newest n x)) (sym (in_group_is (group n) ds))
    ∙ content_found n (in_group (group n) ds)
    ∙ ap content_of (group_finds_the_newest n ds)

-- the numbers of a group's definitions
abbrev pub numbers_of : List (ℕ × Definition) → List ℕ
numbers_of [] = []
numbers_of (e ∷ es) = e.0 ∷ numbers_of es

-- the numbers of one more, where it is taken
numbers_of_lem : (t : Bool) (k : ℕ) (d : Definition) (es : List (ℕ × Definition)) → numbers_of (cond t ((k, d) ∷ es) es) ≡ cond t (k ∷ numbers_of es) (numbers_of es)
numbers_of_lem true k d es = refl
numbers_of_lem false k d es = refl

-- UPDATE and LOCK leave every group with the definitions that it had
pub altered-numbers : (g k : ℕ) (h : Change) (ds : List Definition) → numbers_of (in_group g (altered k h ds)) ≡ numbers_of (in_group g ds)
unfolding in_group altered
altered-numbers g k h [] = refl
altered-numbers g k h (d ∷ ds) = go (eqb k (length ds)) (length-altered k h ds) (altered-numbers g k h ds)
  where
    go : (t : Bool) → length (altered k h ds) ≡ length ds → numbers_of (in_group g (altered k h ds)) ≡ numbers_of (in_group g ds)
        → numbers_of (in_group g (cond t (record { name = d.name; content = changed h d.content } ∷ ds) (d ∷ altered k h ds)))
        ≡ numbers_of (cond (eqb (group d.name) g) ((length ds, d) ∷ in_group g ds) (in_group g ds))
    go true l e = simp numbers_of_lem
    go false l e = simp numbers_of_lem (rw (l, e))
