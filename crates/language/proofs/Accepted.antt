-- Laws of the checks of a table, and which tables are accepted.
use Prim.Native.Nat.{ℕ, zero, suc, ◌+◌, ◌-◌, ◌≤◌, ◌<◌}
use native.Mathlib.Omega.{arith}
use mathlib.Core.Path.{◌≡◌, refl, sym, ap, subst, ◌∙◌}
use mathlib.Core.Logic.{◌↔◌}
use mathlib.Core.Bool.{Bool, true, false, true≢false, cond, not, ◌&&◌, ◌||◌, or-false}
use mathlib.Core.List.{List, [], ◌∷◌, ◌++◌}
use Rattle.std.specs.Prelude.{Option, None, Some}
use lib.ListN.{length, get_or, take}
use Rattle.std.proofs.lemmas.List.{take_all}
use Rattle.std.proofs.lemmas.List.Sums.{count_by_more_yes, count_by_more_no}
use Rattle.std.specs.Prelude.{count_by}
use Rattle.std.specs.List.{list_any}
use Rattle.std.proofs.lemmas.List.Folds.{list_any_more}
use lib.Dec.{eqb, leb, ltb}
use borrow.Author.Tests.{ltb-true, ltb-false, eqb-true, eqb-false, not-false, le-leb, lt-leb, le-ltb, eq-eqb, ne_eqb}
use Rattle.language.specs.declared.signs.Sign.TheVariants.{Plain}
use Rattle.language.specs.Signs.{Table, sign_of_kind, sign_of, standard}
use Rattle.language.specs.Outcomes
use Rattle.language.specs.Matched.{All, empty, with}
use Rattle.language.specs.Refusals.{Refusal, refused_by, some_below, count_below, is_above, not_a_table, has_kind, not_one_byte, sign_not_one_byte, is_reserved, is_reserved_sign, reserved_sign, sizes_too_large, sign_refusals, lent_refusals, AcceptedTable}

-- Tests of the numbers below a bound -----------------------------------------------------------------------------------

-- a number below n + 1 is n, or below n
pub below_suc : (P : ℕ → Type 0) (n k : ℕ) → k < suc n → P n → (k < n → P k) → P k
below_suc P n k h here more = go (eqb k n) refl
  where
    go : (t : Bool) → eqb k n ≡ t → P k
    go true p = subst P (sym (eqb-true k n p)) here
    go false p = more (omega (arith, eqb-false k n p))

-- a number of which the test holds is found
pub some_found : (n k : ℕ) (test : ℕ → Bool) → k < n → test k ≡ true → some_below n test ≡ true
unfolding some_below
some_found zero k test h e = absurd (omega arith)
some_found (suc n) k test h e = go (test n) refl (λ below. some_found n k test below e)
  where
    go : (t : Bool) → test n ≡ t → (k < n → some_below n test ≡ true) → cond t true (some_below n test) ≡ true
    go true p more = refl
    go false p more = below_suc (λ j. test j ≡ true → some_below n test ≡ true) n k h (λ q. absurd (true≢false (sym q ∙ p))) (λ below q. more below) e

-- where the test holds of no number below n, none is found,
none_found : (n : ℕ) (test : ℕ → Bool) → ((k : ℕ) → k < n → test k ≡ false) → some_below n test ≡ false
unfolding some_below
none_found zero test h = refl
none_found (suc n) test h = rw (h n (omega arith)) (none_found n test (λ k below. h k (omega (arith, below))))

-- and the other way
found_none : (n k : ℕ) (test : ℕ → Bool) → some_below n test ≡ false → k < n → test k ≡ false
found_none n k test e h = go (test k) refl
  where
    go : (t : Bool) → test k ≡ t → t ≡ false
    go true p = sym (some_found n k test h p) ∙ e
    go false p = refl

-- the test holds of one number below n, and of no other
pub record Single (n : ℕ) (test : ℕ → Bool) : Type 0 where
  pub number : ℕ
  pub inside : number < n
  pub has : test number ≡ true
  pub only : (k : ℕ) → k < n → test k ≡ true → k ≡ number

-- where none is counted the test holds of none,
none_counted : (n k : ℕ) (test : ℕ → Bool) → count_below n test ≡ 0 → k < n → test k ≡ false
unfolding count_below
none_counted zero k test e h = absurd (omega arith)
none_counted (suc n) k test e h = go (test n) refl e (λ z below. none_counted n k test z below)
  where
    go : (t : Bool) → test n ≡ t → cond t (suc (count_below n test)) (count_below n test) ≡ 0 → (count_below n test ≡ 0 → k < n → test k ≡ false)
        → test k ≡ false
    go true p z more = absurd (omega (arith, z))
    go false p z more = below_suc (λ j. test j ≡ false) n k h p (more z)

-- and the other way
counts-none : (n : ℕ) (test : ℕ → Bool) → ((k : ℕ) → k < n → test k ≡ false) → count_below n test ≡ 0
unfolding count_below
counts-none zero test h = refl
counts-none (suc n) test h = rw (h n (omega arith)) (counts-none n test (λ k below. h k (omega (arith, below))))

-- where one is counted the test holds of one and no other,
counted_single : (n : ℕ) (test : ℕ → Bool) → count_below n test ≡ 1 → Single n test
unfolding count_below
counted_single zero test e = absurd (omega (arith, e))
counted_single (suc n) test e = go (test n) refl e (counted_single n test)
  where
    go : (t : Bool) → test n ≡ t → cond t (suc (count_below n test)) (count_below n test) ≡ 1 → (count_below n test ≡ 1 → Single n test)
        → Single (suc n) test
    go true p z more = record {
      number = n;
      inside = omega arith;
      has = p;
      only = λ k h. below_suc (λ j. test j ≡ true → j ≡ n) n k h (λ q. refl)
          (λ below q. absurd (true≢false (sym q ∙ none_counted n k test (omega (arith, z)) below)));
    }
    go false p z more =
        let s = more z in
        record {
          number = s.number;
          inside = omega (arith, s.inside);
          has = s.has;
          only = λ k h. below_suc (λ j. test j ≡ true → j ≡ s.number) n k h (λ q. absurd (true≢false (sym q ∙ p))) (s.only k);
        }

-- and the other way
single_counts : (n : ℕ) (test : ℕ → Bool) → Single n test → count_below n test ≡ 1
unfolding count_below
single_counts zero test s = absurd (omega (arith, s.inside))
single_counts (suc n) test s = go (test n) refl (single_counts n test)
  where
    other : (k : ℕ) → test n ≡ true → k < n → (t : Bool) → test k ≡ t → t ≡ false
    other k p below true q = absurd (omega (arith, s.only k (omega (arith, below)) q, s.only n (omega arith) p))
    other k p below false q = refl

    go : (t : Bool) → test n ≡ t → (Single n test → count_below n test ≡ 1) → cond t (suc (count_below n test)) (count_below n test) ≡ 1
    go true p more = ap suc (counts-none n test (λ k below. other k p below (test k) refl))
    go false p more = more (record {
      number = s.number;
      inside = below_suc (λ j. test j ≡ true → j < n) n s.number s.inside (λ q. absurd (true≢false (sym q ∙ p))) (λ below q. below) s.has;
      has = s.has;
      only = λ k below. s.only k (omega (arith, below));
    })

-- What the code computes ------------------------------------------------------------------------------------------------

-- whether an item passes a test, where the numbers below n have the same
module _ {X : Type 0} (passes : X → Bool) (xs : List X) (d : X) (test : ℕ → Bool) where
  some_first : (n : ℕ) → n ≤ length xs → ((k : ℕ) → k < n → passes (get_or xs k d) ≡ test k) → list_any passes (take n xs) ≡ some_below n test
  unfolding some_below
  some_first zero h same = refl
  some_first (suc n) h same = go (test n) (same n (omega arith)) (some_first n (omega arith) (λ k below. same k (omega (arith, below))))
    where
      go : (t : Bool) → passes (get_or xs n d) ≡ t → list_any passes (take n xs) ≡ some_below n test
          → list_any passes (take (suc n) xs) ≡ cond t true (some_below n test)
      go t last first =
          let here : n < length xs = omega arith in
          let next : suc n ≡ n + 1 = omega arith in
          rw (next, list_any_more passes xs n d here, last, first) (either (some_below n test) t)
        where
          either : (a b : Bool) → (a || b) ≡ cond b true a
          either true true = refl
          either true false = refl
          either false true = refl
          either false false = refl

  pub some_item : (n : ℕ) → length xs ≡ n → ((k : ℕ) → k < n → passes (get_or xs k d) ≡ test k) → list_any passes xs ≡ some_below n test
  some_item n h same = let all : take n xs ≡ xs = take_all n xs (omega (arith, h)) in ap (list_any passes) (sym all) ∙ some_first n (omega (arith, h)) same

-- how many entries of a table pass a test
module _ (passes : ℕ → Bool) (T : Table) where
  abbrev of_entry : ℕ → Bool
  of_entry b = passes (get_or T b 0)

  counted_first : (n : ℕ) → n ≤ length T → count_by passes (take n T) ≡ count_below n of_entry
  unfolding count_below
  counted_first zero h = refl
  counted_first (suc n) h = go (of_entry n) refl (counted_first n (omega arith))
    where
      go : (t : Bool) → of_entry n ≡ t → count_by passes (take n T) ≡ count_below n of_entry
          → count_by passes (take (suc n) T) ≡ cond t (suc (count_below n of_entry)) (count_below n of_entry)
      go true p first = let here : n < length T = omega arith in let next : suc n ≡ n + 1 = omega arith in ap (λ (k : ℕ). count_by passes (take k T)) next ∙ count_by_more_yes passes T n 0 here p ∙ omega (arith, first)
      go false p first = let here : n < length T = omega arith in let next : suc n ≡ n + 1 = omega arith in ap (λ (k : ℕ). count_by passes (take k T)) next ∙ count_by_more_no passes T n 0 here p ∙ first

  pub counted_entries : (n : ℕ) → length T ≡ n → count_by passes T ≡ count_below n of_entry
  counted_entries n h = let all : take n T ≡ T = take_all n T (omega (arith, h)) in ap (count_by passes) (sym all) ∙ counted_first n (omega (arith, h))

-- The reserved bytes ---------------------------------------------------------------------------------------------------

-- by the ranges that they stand in
module _ (b : ℕ) where
  pub reserved_from_97 : 97 ≤ b → is_reserved b ≡ leb b 122
  reserved_from_97 h =
      rw (le-leb 97 b h, le-leb 65 b (omega arith), lt-leb b 90 (omega arith), le-leb 48 b (omega arith), lt-leb b 57 (omega arith), ne_eqb b 43 (λ e. omega arith), ne_eqb b 45 (λ e. omega arith), ne_eqb b 42 (λ e. omega arith))
      (or-false (leb b 122))

  pub reserved_from_48 : 48 ≤ b → b < 65 → is_reserved b ≡ leb b 57
  reserved_from_48 h below =
      rw (lt-leb 97 b (omega arith), lt-leb 65 b below, le-leb 48 b h, ne_eqb b 43 (λ e. omega arith), ne_eqb b 45 (λ e. omega arith), ne_eqb b 42 (λ e. omega arith))
      (or-false (leb b 57))

  -- digits and lower-case letters are such bytes
  pub digit_reserved : 48 ≤ b → b ≤ 57 → is_reserved b ≡ true
  digit_reserved h below = reserved_from_48 h (omega arith) ∙ le-leb b 57 below

  pub letter_reserved : 97 ≤ b → b ≤ 122 → is_reserved b ≡ true
  letter_reserved h below = reserved_from_97 h ∙ le-leb b 122 below

  -- and no number past 255 is one
  reserved_byte : is_reserved b ≡ true → b < 256
  reserved_byte e = go (ltb b 256) refl
    where
      go : (t : Bool) → ltb b 256 ≡ t → b < 256
      go true p = ltb-true b 256 p
      go false p =
          let past = ltb-false b 256 p in
          absurd (true≢false (sym e ∙ reserved_from_97 (omega arith) ∙ lt-leb b 122 (omega arith)))

-- Accepted tables ------------------------------------------------------------------------------------------------------

-- a table, as document 02 has it
pub record IsTable (T : Table) : Type 0 where
  -- "256 bytes", "each byte's entry from 0 to 6"
  pub size : length T ≡ 256
  pub entries : (b : ℕ) → b < 256 → get_or T b 0 ≤ 6
  -- one byte for each of the six signs
  pub signs : (kind : ℕ) → 1 ≤ kind → kind ≤ 6 → Single 256 (has_kind T kind)
  -- no ASCII letter, digit, `+`, `-` or `*` is a sign
  pub reserved : (b : ℕ) → is_reserved b ≡ true → get_or T b 0 ≡ 0

-- where a call is not refused no check holds
pub refused_none : (k : ℕ) (t : Bool) (r : Option ℕ) → cond t (Some k) r ≡ None → (t ≡ false) × (r ≡ None)
refused_none k true r e = let z : ◌≡◌ {A = ℕ} 0 1 = cc in absurd (omega arith)
refused_none k false r e = (refl, e)

-- what holds of all numbers of the checks holds of the one that a call is refused with
pub refused_with : (P : ℕ → Type 0) {k : ℕ} {l : List Refusal} → All (λ r. P r.outcome) l → refused_by l ≡ Some k → P k
unfolding refused_by
refused_with P empty e = let z : ◌≡◌ {A = ℕ} 0 1 = cc in absurd (omega arith)
refused_with P {k} (with {x = r} {xs = more} p ps) e = go r.holds e (refused_with P ps)
  where
    go : (t : Bool) → cond t (Some r.outcome) (refused_by more) ≡ Some k → (refused_by more ≡ Some k → P k) → P k
    go true q rest = let h : r.outcome ≡ k = cc in subst P h p
    go false q rest = rest q

-- checks behind others are made where no earlier one holds
pub behind_none : (a b : List Refusal) → refused_by a ≡ None → refused_by (a ++ b) ≡ refused_by b
unfolding refused_by
behind_none [] b e = refl
behind_none (r ∷ a) b e =
    let (here, more) = refused_none r.outcome r.holds (refused_by a) e in
    rw here (behind_none a b more)

pub behind_some : (a b : List Refusal) (k : ℕ) → refused_by a ≡ Some k → refused_by (a ++ b) ≡ Some k
unfolding refused_by
behind_some [] b k e = let z : ◌≡◌ {A = ℕ} 0 1 = cc in absurd (omega arith)
behind_some (r ∷ a) b k e = go r.holds e (behind_some a b k)
  where
    go : (t : Bool) → cond t (Some r.outcome) (refused_by a) ≡ Some k → (refused_by a ≡ Some k → refused_by (a ++ b) ≡ Some k)
        → cond t (Some r.outcome) (refused_by (a ++ b)) ≡ Some k
    go true p more = p
    go false p more = more p

-- where none of all holds none of either holds
pub both_none : (a b : List Refusal) → refused_by (a ++ b) ≡ None → (refused_by a ≡ None) × (refused_by b ≡ None)
both_none a b e = go (refused_by a) refl
  where
    go : (r : Option ℕ) → refused_by a ≡ r → (r ≡ None) × (refused_by b ≡ None)
    go (Some k) h = let h' = behind_some a b k h in let z : ◌≡◌ {A = ℕ} 0 1 = cc in absurd (omega arith)
    go None h = (refl, sym (behind_none a b h) ∙ e)

-- what is no 30 has 256 entries
pub table_size : (T : Table) → not_a_table T ≡ false → length T ≡ 256
table_size T = go (eqb (length T) 256) refl
  where
    go : (t : Bool) → eqb (length T) 256 ≡ t → cond t (some_below 256 (is_above T)) true ≡ false → length T ≡ 256
    go true p e = eqb-true (length T) 256 p
    go false p e = absurd (true≢false e)

module _ (T : Table) where
  -- the checks one by one: entries up to 6,
  table_entries : not_a_table T ≡ false → (b : ℕ) → b < 256 → get_or T b 0 ≤ 6
  table_entries e b h =
      let size = table_size T e in
      let above : some_below 256 (is_above T) ≡ false = rw (eq-eqb (length T) 256 size) at e in
      ltb-false 6 (get_or T b 0) (found_none 256 b (is_above T) above h)

  -- one byte for each sign,
  one_byte : sign_not_one_byte T ≡ false → (kind : ℕ) → 1 ≤ kind → kind ≤ 6 → Single 256 (has_kind T kind)
  one_byte e kind l h =
      let is : kind - 1 + 1 ≡ kind = omega arith in
      let one = found_none 6 (kind - 1) (λ k. not_one_byte T (k + 1)) e (omega arith) in
      subst (λ (k : ℕ). Single 256 (has_kind T k)) is
      (counted_single 256 (has_kind T (kind - 1 + 1)) (eqb-true (count_below 256 (has_kind T (kind - 1 + 1))) 1 (not-false _ one)))

  -- reserved bytes plain
  plain_entry : reserved_sign T ≡ false → (b : ℕ) → is_reserved b ≡ true → get_or T b 0 ≡ 0
  plain_entry e b r = eqb-true (get_or T b 0) 0 (not-false _ (rw r at (found_none 256 b (is_reserved_sign T) e (reserved_byte b r))))

  accepted_is : AcceptedTable T → IsTable T
  unfolding refused_by
  accepted_is a =
      let (table, more) = refused_none Outcomes.not_a_table (not_a_table T) _ a in
      let (one, last) = refused_none Outcomes.sign_not_one_byte (sign_not_one_byte T) _ more in
      let (reserved, end) = refused_none Outcomes.reserved_sign (reserved_sign T) None last in
      record { size = table_size T table; entries = table_entries table; signs = one_byte one; reserved = plain_entry reserved }

  is_accepted : IsTable T → AcceptedTable T
  unfolding refused_by
  is_accepted t =
      let table : not_a_table T ≡ false = rw (eq-eqb (length T) 256 t.size) (none_found 256 (is_above T) (λ b h. le-ltb 6 (get_or T b 0) (t.entries b h))) in
      let one : sign_not_one_byte T ≡ false = none_found 6 (λ k. not_one_byte T (k + 1)) (λ k h. ap not (eq-eqb (count_below 256 (has_kind T (k + 1))) 1 (single_counts 256 (has_kind T (k + 1)) (t.signs (k + 1) (omega arith) (omega (arith, h)))))) in
      let reserved : reserved_sign T ≡ false = none_found 256 (is_reserved_sign T) (λ b h. kept b (is_reserved b) refl) in
      rw (table, one, reserved) refl
    where
      kept : (b : ℕ) (t' : Bool) → is_reserved b ≡ t' → (t' && not (has_kind T 0 b)) ≡ false
      kept b true r = ap not (eq-eqb (get_or T b 0) 0 (t.reserved b r))
      kept b false r = refl

  -- The tables that are accepted are these and no others.
  pub accepted_exactly : AcceptedTable T ↔ IsTable T
  accepted_exactly = (accepted_is, is_accepted)

  -- In an accepted table letters, digits, `+`, `-` and `*` are plain.
  pub accepted_plain : AcceptedTable T → (b : ℕ) → is_reserved b ≡ true → sign_of T b ≡ Plain
  accepted_plain a b r = ap sign_of_kind ((accepted_is a).reserved b r)

-- What a call that is not refused was lent: sizes within the limits, and such a table.
pub lent_accepted : (text cells output : ℕ) (T : Table) → refused_by (lent_refusals text cells output T) ≡ None
    → (sizes_too_large text cells output ≡ false) × AcceptedTable T
unfolding refused_by
lent_accepted text cells output T = refused_none Outcomes.too_large (sizes_too_large text cells output) (refused_by (sign_refusals T))

-- The standard table is accepted,
pub standard_accepted : AcceptedTable standard
unfolding refused_by some_below count_below
standard_accepted = refl

-- so that with it the sizes alone decide.
pub standard-lent : (text cells output : ℕ) → sizes_too_large text cells output ≡ false → refused_by (lent_refusals text cells output standard) ≡ None
unfolding refused_by
standard-lent text cells output fits = ap (λ (t : Bool). cond t (Some Outcomes.too_large) (refused_by (sign_refusals standard))) fits ∙ standard_accepted
