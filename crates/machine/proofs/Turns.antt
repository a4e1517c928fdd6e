-- One turn of each walk of n turns, of which i are made: what it answers while turns are left, and with none.
use Prim.Native.Nat.{ℕ, zero, suc, ◌+◌, ◌-◌, ◌%◌, ◌≤◌, ◌<◌}
use mathlib.Core.Bool.{true, false, cond}
use mathlib.Core.List.{List, [], ◌∷◌, ◌++◌}
use mathlib.Core.Logic.{◌⊎◌}
use mathlib.Core.Path.{◌≡◌, refl, ◌∙◌}
use native.Mathlib.Omega.{arith}
use Rattle.std.specs.Prelude.{None, Some, option_and_then}
use lib.ListN.{length, get_or}
use lib.Dec.{eqb, leb}
use borrow.Author.Tests.{le-leb, lt-leb}
use Rattle.memory.specs.Block.{block, low_bytes}
use Rattle.memory.proofs.Blocks.{block_more, length-low_bytes, get_or-low_bytes}
use Rattle.language.specs.Signs.{ascii}
use Rattle.machine.specs.Walks.{nowhere, mark, behind, argument, is_text, chosen_from, size, is_named, group_link, with_group_link, newest_from, definitions_from, high, low, is_read_from, list_link, return_link, removed_at, removed_from, link_moved, relinked_from, restored_at, restored_from}

less : (t : ℕ) → suc t - 1 ≡ t
less t = omega arith

past : {p to : ℕ} (t : ℕ) → (suc t ≡ 0) ⊎ (to ≤ p) → to ≤ p
past t over = omega arith

left : (n i : ℕ) → i < n → n - i ≡ suc (n - (i + 1))
left n i h = omega arith

none_left : (n i : ℕ) → n ≤ i → n - i ≡ 0
none_left n i h = omega arith

module _ (l : List ℕ) where
  pub argument_turn :
      (p k i : ℕ) → i < k
      → argument l p (k - i) ≡ cond (leb mark (get_or l p 0)) None (argument l (behind l p) (k - (i + 1)))
  unfolding argument
  argument_turn p k i h = rw (left k i h)

  pub argument_done : (p k i : ℕ) → k ≤ i → argument l p (k - i) ≡ cond (leb mark (get_or l p 0)) None (cond (eqb p nowhere) None (Some p))
  unfolding argument
  argument_done p k i h = rw (none_left k i h)

  pub chosen_turn :
      (p n i : ℕ) → i < n
      → chosen_from (n - i) l p
      ≡ cond (leb (length l) p) None
      (option_and_then (λ second. cond (is_text l (behind l p) (ascii "1")) (Some second) (chosen_from (n - (i + 1)) l second)) (argument l p 2))
  unfolding chosen_from
  chosen_turn p n i h = rw (left n i h)

  pub chosen_done : (p n i : ℕ) → n ≤ i → chosen_from (n - i) l p ≡ None
  unfolding chosen_from
  chosen_done p n i h = rw (none_left n i h)

  pub newest_turn :
      (p name count n i : ℕ) → i < n
      → newest_from (n - i) l p name count
      ≡ cond (leb (length l) p) None (cond (is_named l p name count) (Some p) (newest_from (n - (i + 1)) l (group_link l p) name count))
  unfolding newest_from
  newest_turn p name count n i h = rw (left n i h)

  pub newest_done : (p name count n i : ℕ) → n ≤ i → newest_from (n - i) l p name count ≡ None
  unfolding newest_from
  newest_done p name count n i h = rw (none_left n i h)

  pub is_read_turn :
      (list body definition n i : ℕ) → i < n
      → is_read_from (n - i) l list body definition
      ≡ cond (eqb list nowhere) false
      (cond (eqb body definition) true (is_read_from (n - (i + 1)) l (low (list_link l list)) (high (return_link l list)) definition))
  unfolding is_read_from
  is_read_turn list body definition n i h = rw (left n i h)

  pub is_read_done : (list body definition n i : ℕ) → n ≤ i → is_read_from (n - i) l list body definition ≡ false
  unfolding is_read_from
  is_read_done list body definition n i h = rw (none_left n i h)

  pub relinked_turn :
      (heads : List ℕ) (p to end by n i : ℕ) → i < n
      → relinked_from (n - i) l heads p to end by
      ≡ cond (leb to p) l (relinked_from (n - (i + 1)) (with_group_link l p (link_moved l heads p end by)) heads (p + size l p) to end by)
  unfolding relinked_from
  relinked_turn heads p to end by n i h = rw (left n i h)

  pub relinked_done : (heads : List ℕ) (p to end by n i : ℕ) → n ≤ i → relinked_from (n - i) l heads p to end by ≡ l
  unfolding relinked_from
  relinked_done heads p to end by n i h = rw (none_left n i h)

  -- the walk over the definitions, with t turns left: what each of its users has where it is over, and what where it goes on
  pub definitions_over : (t p to : ℕ) → (t ≡ 0) ⊎ (to ≤ p) → definitions_from t l p to ≡ 0
  unfolding definitions_from
  definitions_over zero p to over = refl
  definitions_over (suc t) p to over = rw (le-leb to p (past t over))

  pub definitions_goes_on : (t p to : ℕ) → 0 < t → p < to → definitions_from t l p to ≡ suc (definitions_from (t - 1) l (p + size l p) to)
  unfolding definitions_from
  definitions_goes_on zero p to turns inside = absurd (omega arith)
  definitions_goes_on (suc t) p to turns inside = rw (lt-leb to p inside, less t)

  pub removed_over : (heads : List ℕ) (t p to : ℕ) → (t ≡ 0) ⊎ (to ≤ p) → removed_from t l heads p to ≡ heads
  unfolding removed_from
  removed_over heads zero p to over = refl
  removed_over heads (suc t) p to over = rw (le-leb to p (past t over))

  pub removed_goes_on : (heads : List ℕ) (t p to : ℕ) → 0 < t → p < to → removed_from t l heads p to ≡ removed_from (t - 1) l (removed_at l heads p) (p + size l p) to
  unfolding removed_from
  removed_goes_on heads zero p to turns inside = absurd (omega arith)
  removed_goes_on heads (suc t) p to turns inside = rw (lt-leb to p inside, less t)

  pub restored_over : (heads : List ℕ) (t p to : ℕ) → (t ≡ 0) ⊎ (to ≤ p) → restored_from t l heads p to ≡ heads
  unfolding restored_from
  restored_over heads zero p to over = refl
  restored_over heads (suc t) p to over = rw (le-leb to p (past t over))

  pub restored_goes_on : (heads : List ℕ) (t p to : ℕ) → 0 < t → p < to → restored_from t l heads p to ≡ restored_from (t - 1) l (restored_at l heads p to) (p + size l p) to
  unfolding restored_from
  restored_goes_on heads zero p to turns inside = absurd (omega arith)
  restored_goes_on heads (suc t) p to turns inside = rw (lt-leb to p inside, less t)

  -- the low bytes of one cell more
  pub low_turn : (from taken : ℕ) → from + taken < length l → block from (taken + 1) (low_bytes l) ≡ block from taken (low_bytes l) ++ ((get_or l (from + taken) 0 % 256) ∷ [])
  low_turn from taken h = block_more from taken (low_bytes l) (rw length-low_bytes h) ∙ rw get_or-low_bytes
