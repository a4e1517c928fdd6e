-- What follows of what a function leaves from the equation that says it, and how far a found definition lies.
use Prim.Native.Nat.{ℕ, zero, suc, ◌-◌, ◌≤◌, ◌<◌}
use native.Mathlib.Omega.{arith}
use mathlib.Core.Path.{◌≡◌, refl, sym, ap, ◌∙◌}
use mathlib.Core.Logic.{inl, inr}
use mathlib.Core.Bool.{Bool, true, false, cond, true≢false}
use mathlib.Core.List.{List, [], ◌∷◌}
use borrow.Author.Tests.{ltb-false, leb-false, ne_eqb}
use lib.ListN.{length, get_or}
use lib.Dec.{ltb, leb}
use borrow.Enum.Refused.{Among, opened}
use types.Run.{OneOf}
use denote.Enum.Declared.{tag_of}
use Rattle.std.specs.Prelude.{Option, None, Some, IfSome, Result, Ok, Err}
use Rattle.decimal.specs.declared.operations.Refusal.{Refusal}
use Rattle.language.specs.declared.built_ins.BuiltIn.{BuiltIn}
use Rattle.language.specs.declared.built_ins.BuiltIn.TheVariants.{Def, Val, Update, Arithmetic, Seq, Size, If, Lock}
use Rattle.language.specs.BuiltIns.{needs}
use Rattle.language.specs.Expansion.{Lent, lent}
use Rattle.machine.specs.declared.run.Run.{Run}
use Rattle.machine.specs.declared.run.Answer.{Answer}
use Rattle.machine.specs.declared.run.Answer.TheVariants.{GoesOn, Ended, Damaged, Refused}
use Rattle.machine.specs.declared.run.Stepped.{Stepped}
use Rattle.machine.specs.Walks.{name_group, group_link, is_named, newest_from, newest, is_locked, room, right_before, return_link, definitions, is_read, chosen, built_in_named}
use Rattle.machine.specs.Machine.{After, Indexed, unindexed, Resulting, goes, damaged, goes_on, placing, released, release_to, release, define_in, def, leaves, charged, wrote, is_outer, give, refuse_named, given, val_at, val, update_at, update, choose, lock_in, lock, choose_at, give_answer, give_count, perform}
use Rattle.machine.specs.contracts.run.Answer.{the_type}

-- an answer of another kind does not go on
pub ended : (a : Answer) → Among (1 ∷ 2 ∷ 3 ∷ []) (tag_of the_type a) → goes_on a ≡ false
ended a h = by_kind a (opened h)
  where
    by_kind : (a : Answer) → OneOf (1 ∷ 2 ∷ 3 ∷ []) (tag_of the_type a) → goes_on a ≡ false
    by_kind GoesOn (inl h) = absurd (omega arith)
    by_kind GoesOn (inr (inl h)) = absurd (omega arith)
    by_kind GoesOn (inr (inr h)) = absurd (omega arith)
    by_kind (Ended n) h = refl
    by_kind Damaged h = refl
    by_kind Refused h = refl

-- so it is not that one
pub not_on : (a : Answer) → Among (1 ∷ 2 ∷ 3 ∷ []) (tag_of the_type a) → a ≡ GoesOn → ⊥
not_on a h e = true≢false (ap goes_on (sym e) ∙ ended a h)

-- DEF does not go on from what ended
pub not_defined : (r : Run) (name value : ℕ) (h : List ℕ) (m : Lent) {a : After} {x : Indexed} {letters : ℕ} → letters ≡ get_or m.cells name 0
    → (letters ≡ 0 → ⊥) → a ≡ release r 0 m → x ≡ unindexed r h a → goes_on a.answer ≡ false → x ≡ def r name value h m
not_defined r name value h m n z e u g = u ∙ rw (← n, ne_eqb _ _ z, ← e, g)

-- and defines in the rest
pub defines : (r : Run) (name value : ℕ) (h : List ℕ) (m : Lent) {a : After} {x y : Indexed} {letters bytes : ℕ} → letters ≡ get_or m.cells name 0
    → (letters ≡ 0 → ⊥) → bytes ≡ get_or m.cells value 0 → a ≡ release r 0 m → x ≡ unindexed r h a → a.answer ≡ GoesOn
    → y ≡ define_in a.run name value letters bytes x.heads m → y ≡ def r name value h m
defines r name value h m n z v e u g d = d ∙ rw (u, ← n, v, ne_eqb _ _ z, ← e, g)

-- a standing in which a definition can be put
pub record Roomy (r : Run) : Type 0 where
  pub left_below : r.calls.left ≤ 4294967296
  pub right_below : r.right ≤ 65536
  pub charge_below : r.charge ≤ 4294967296

-- a call that ended leaves such a standing
pub roomy : (r : Run) (kept to links gone : ℕ) (m : Lent) {a : After} → Resulting (length m.cells) kept r
    → a ≡ release_to r kept to links gone m → a.answer ≡ GoesOn → Roomy a.run
roomy r kept to links gone m {a} s =
    go (ltb to r.right) (ltb (length m.cells) to) refl (ltb r.counts.live gone)
  where
    refused : a ≡ damaged r m → a.answer ≡ GoesOn → ⊥
    refused e h = let z : ◌≡◌ {A = ℕ} 0 1 = cc in omega arith

    go : (b₁ b₂ : Bool) → ltb (length m.cells) to ≡ b₂ → (b₃ : Bool)
        → a ≡ cond b₁ (damaged r m) (cond b₂ (damaged r m) (cond b₃ (damaged r m) (goes (released r kept to links gone) m)))
        → a.answer ≡ GoesOn → Roomy a.run
    go true b₂ t b₃ e h = absurd (refused e h)
    go false true t b₃ e h = absurd (refused e h)
    go false false t true e h = absurd (refused e h)
    go false false t false e h = let i : to ≤ length m.cells = ltb-false _ _ t in rw e (omega arith)

-- a walk finds a definition within the cells, if any
walk_below : (t : ℕ) (l : List ℕ) (p name count : ℕ) → IfSome (newest_from t l p name count) (λ d. d < length l)
unfolding newest_from
walk_below zero l p name count = tt
walk_below (suc t) l p name count = go (leb (length l) p) refl (is_named l p name count) (newest_from t l (group_link l p) name count) (walk_below t l (group_link l p) name count)
  where
    go : (b₁ : Bool) → leb (length l) p ≡ b₁ → (b₂ : Bool) (r : Option ℕ) → IfSome r (λ d. d < length l)
        → IfSome (cond b₁ None (cond b₂ (Some p) r)) (λ d. d < length l)
    go true e b₂ r k = tt
    go false e true r k = leb-false _ _ e
    go false e false r k = k

pub found_below : (l h : List ℕ) (name : ℕ) → IfSome (newest l h name) (λ d. d < length l)
found_below l h name = walk_below (length l) l (get_or h (name_group l name) 0) name (get_or l name 0)

-- a built-in needs few parameters
pub few : (b : BuiltIn) → needs b ≤ 2
few Def = omega arith
few Val = omega arith
few Update = omega arith
few (Arithmetic op) = omega arith
few Seq = omega arith
few Size = omega arith
few If = omega arith
few Lock = omega arith

-- what a function leaves, the definitions of which stand within the largest run of cells
record Within (a : After) : Type 0 where
  right : a.run.right ≤ 65536

either : (b : Bool) {x y : After} → Within x → Within y → Within (cond b x y)
either true h k = h
either false h k = k

module _ (r : Run) (m : Lent) (inside : r.right ≤ 65536) (size : length m.cells ≤ 65536) where
  -- a call that ended
  release-within : (r₁ : Run) (kept : ℕ) → r₁.right ≡ r.right → Within (release r₁ kept m)
  release-within r₁ kept e = go (ltb to r₁.right) (ltb (length m.cells) to) refl (ltb r₁.counts.live gone)
    where
      to : ℕ
      to = right_before m.cells r₁.calls.call

      gone : ℕ
      gone = definitions m.cells r₁.right to

      go : (b₁ b₂ : Bool) → ltb (length m.cells) to ≡ b₂ → (b₃ : Bool)
          → Within (cond b₁ (damaged r₁ m) (cond b₂ (damaged r₁ m) (cond b₃ (damaged r₁ m) (goes (released r₁ kept to (return_link m.cells r₁.calls.call) gone) m))))
      go true b₂ t b₃ = record { right = omega arith }
      go false true t b₃ = record { right = omega arith }
      go false false t true = record { right = omega arith }
      go false false t false = let i : to ≤ length m.cells = ltb-false _ _ t in record { right = omega arith }

  -- a result that was given
  give-within : (count : ℕ) (m₁ : Lent) → Within (placing (give r count m) m₁)
  give-within count m₁ = either (goes_on (give r count m).answer) (record { right = given.right }) given
    where
      given : Within (give r count m)
      given =
          either (is_outer r m.cells)
          (either (ltb (length m.output - r.counts.written) count) (record { right = inside }) (release-within (wrote count r) 0 refl))
          (either (ltb (length m.cells - r.charge) count) (record { right = inside }) (release-within (charged count r) count refl))

  -- a name that was refused
  refuse_within : (x : Option BuiltIn) → Within (refuse_named x r m)
  refuse_within None = record { right = inside }
  refuse_within (Some b) = record { right = inside }

  -- or that was found
  given_within : (name : ℕ) (done : ℕ → After) (x : Option ℕ) → ((d : ℕ) → Within (done d)) → Within (given r name done x m)
  given_within name done None h = refuse_within (built_in_named m.cells name)
  given_within name done (Some d) h = h d

  -- and the built-ins
  pub release_right : (release r 0 m).run.right ≤ 65536
  release_right = (release-within r 0 refl).right

  pub val_right : (name : ℕ) (h : List ℕ) → (val r name h m).run.right ≤ 65536
  val_right name h = (given_within name (λ d. val_at r d m) (newest m.cells h name) (λ d. give-within _ _)).right

  pub update_right : (name value : ℕ) (h : List ℕ) → (update r name value h m).run.right ≤ 65536
  update_right name value h =
      (given_within name (λ d. update_at r value d m) (newest m.cells h name) λ d.
      either (is_locked m.cells d) (record { right = inside })
      (either (is_read m.cells r.source.list r.source.body d) (record { right = inside })
      (either (ltb (room m.cells d) (get_or m.cells value 0)) (record { right = inside }) (record { right = release_right })))).right

  pub answer_right : (x : Result (List ℕ) Refusal) → (give_answer r x m).run.right ≤ 65536
  answer_right (Ok t) = (give-within _ _).right
  answer_right (Err refusal) = inside

  pub count_right : (count : ℕ) → (give_count r count m).run.right ≤ 65536
  count_right count = (give-within _ _).right

  pub choose_right : (name : ℕ) → (choose r name m).run.right ≤ 65536
  choose_right name = (go (chosen m.cells name)).right
    where
      go : (x : Option ℕ) → Within (choose_at r name x m)
      go None = give-within _ _
      go (Some second) = give-within _ _

  pub lock_right : (name : ℕ) (h : List ℕ) → (lock r name h m).run.right ≤ 65536
  lock_right name h = (given_within name (λ d. lock_in r d m) (newest m.cells h name) (λ d. record { right = release_right })).right

-- what a built-in but DEF leaves: what is lent is as long as it was, and the index that goes with it is what the built-in leaves
pub record Carried (r : Run) (b : BuiltIn) (name last : ℕ) (h : List ℕ) (m : Lent) (st : Stepped) (l o : List ℕ) : Type 0 where
  pub long : length l ≡ length m.cells
  pub wide : length o ≡ length m.output
  pub right : st.run.right ≤ 65536
  pub performs : unindexed r h (leaves st (lent l o)) ≡ perform r b name last h m

-- so it is where the arm of the built-in left that
pub carries : {r : Run} {b : BuiltIn} {name last : ℕ} {h : List ℕ} {m : Lent} {st st₁ : Stepped} {l l₁ o o₁ : List ℕ} {a : After} → l ≡ l₁ → o ≡ o₁ → st ≡ st₁
    → length l₁ ≡ length m.cells → length o₁ ≡ length m.output → leaves st₁ (lent l₁ o₁) ≡ a → a.run.right ≤ 65536
    → unindexed r h a ≡ perform r b name last h m → Carried r b name last h m st l o
carries {r} {b} {name} {last} {h} e₁ e₂ e₃ long wide is right performs = record {
  long = ap length e₁ ∙ long;
  wide = ap length e₂ ∙ wide;
  right = rw (e₃) (rw (← is) at right);
  performs = rw (e₁, e₂, e₃) (ap (unindexed r h) is ∙ performs);
}
