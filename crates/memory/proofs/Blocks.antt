-- The laws of blocks, of the low bytes, of `same` and of `repeated`.
-- Of a single store, `lib.ListN` has `length-set`, and `lib.Seq` has `take-set-le`, `drop-set-lt` and `set_out`.
use Prim.Native.Nat.{ℕ, zero, suc, ◌+◌, ◌-◌, ◌%◌, ◌≤◌, ◌<◌}
use mathlib.Core.Path.{◌≡◌, refl, sym, ap, ◌∙◌}
use mathlib.Core.Bool.{Bool, true, false, cond, ◌&&◌, false≢true}
use mathlib.Core.List.{List, [], ◌∷◌, ◌++◌, append_assoc, append-nil}
use native.Mathlib.Omega.{arith}
use native.Mathlib.Nat.{mod-eq_of_lt}
use native.Mathlib.Numerals.{add-one}
use borrow.Author.Tests.{le-leb, lt-leb, leb-true, eqb-true, eq-eqb}
use lib.ListN.{length, take, drop, get_or, set, replicate, length-set, length-append, length-drop, take-append-drop, drop_of_length-le}
use lib.Seq.{drop-cons, take-suc, take-suc-set, take-set-lt, set-append_left, set_at, get_or-set_same, drop-set-lt, get_or-take, get_or-drop, take_at, drop_at, drop-drop, length-take-le, take_all}
use lib.Dec.{eqb, leb}
use Rattle.std.specs.Bool.{Decides}
use Rattle.std.proofs.lemmas.Bool.Decides.{same_from_decides}
use Rattle.std.proofs.lemmas.List.{length-map, take-map, drop-map}
use lib.Pointwise.{pointwise}
use borrow.Rule.Slice.PartMut.{put_mid}
use Rattle.memory.specs.Block.{within, block, placed, copied, moved, low_bytes, same, same_blocks, same_bytes, repeated, filled}

-- ---- two tests

-- both tests of a passed pair pass
and_true : (a b : Bool) → a && b ≡ true → (a ≡ true) × (b ≡ true)
and_true true b e = (refl, e)
and_true false b e = absurd (false≢true e)

-- ---- a store

-- what a store leaves from its position on
pub drop-set_here : (l : List ℕ) (i v : ℕ) → i < length l → drop i (set l i v) ≡ v ∷ drop (i + 1) l
drop-set_here l i v h =
    let h' : i < length (set l i v) = simp length-set (omega arith) in
    drop-cons (set l i v) i 0 h' ∙ rw (add-one, get_or-set_same l i v 0 h, drop-set-lt (suc i) l i v (omega arith))

-- what a store leaves up to and with its position
pub take-set_here : (l : List ℕ) (i v : ℕ) → i < length l → take (i + 1) (set l i v) ≡ take i l ++ v ∷ []
take-set_here l i v h = rw (add-one, take-suc-set l i v h)

-- ---- a block

-- a block that lies within its list is as long as its count
pub block-length : (from count : ℕ) (l : List ℕ) → from + count ≤ length l → length (block from count l) ≡ count
block-length from count l h = length-take-le count (drop from l) (simp length-drop (omega arith))

-- an element of a block is the list's
pub block_at : (from count : ℕ) (l : List ℕ) (k : ℕ) → k < count → get_or (block from count l) k 0 ≡ get_or l (from + k) 0
block_at from count l k h = get_or-take count (drop from l) k 0 h ∙ get_or-drop from l k 0

-- one element more
pub block_more : (from count : ℕ) (l : List ℕ) → from + count < length l → block from (count + 1) l ≡ block from count l ++ get_or l (from + count) 0 ∷ []
block_more from count l h =
    let d : count < length (drop from l) = simp length-drop (omega arith) in
    rw (add-one, take-suc (drop from l) count 0, get_or-drop from l count 0)

-- ---- a piece placed into a list

-- what stands before the end of a placed piece
front_length : (to : ℕ) (p l : List ℕ) → to ≤ length l → length (take to l ++ p) ≡ to + length p
front_length to p l h = length-append (take to l) p ∙ rw (length-take-le to l h)

-- a piece that lies within the list leaves its length
pub placed-length : (to : ℕ) (p l : List ℕ) → to + length p ≤ length l → length (placed to p l) ≡ length l
placed-length to p l h =
    let t : length (take to l) ≡ to = length-take-le to l (omega arith) in
    simp (length-append, length-drop) (omega arith)

-- what stands before a placed piece is the list's
pub take-placed : (to : ℕ) (p l : List ℕ) → to ≤ length l → take to (placed to p l) ≡ take to l
take-placed to p l h = take_at (take to l) (p ++ drop (to + length p) l) to (length-take-le to l h)

-- from its position on stands the piece, and then the list's rest
pub drop-placed : (to : ℕ) (p l : List ℕ) → to ≤ length l → drop to (placed to p l) ≡ p ++ drop (to + length p) l
drop-placed to p l h = drop_at (take to l) (p ++ drop (to + length p) l) to (length-take-le to l h)

-- what stands past a placed piece is the list's
pub drop_past_placed : (to : ℕ) (p l : List ℕ) → to ≤ length l → drop (to + length p) (placed to p l) ≡ drop (to + length p) l
drop_past_placed to p l h = rw (← append_assoc) (drop_at (take to l ++ p) (drop (to + length p) l) (to + length p) (front_length to p l h))

-- the placed piece reads back
pub block-placed : (to : ℕ) (p l : List ℕ) → to ≤ length l → block to (length p) (placed to p l) ≡ p
block-placed to p l h = rw (drop-placed to p l h) (take_at p (drop (to + length p) l) (length p) refl)

-- an element before a placed piece is the list's
pub placed_below : (to : ℕ) (p l : List ℕ) (i : ℕ) → to ≤ length l → i < to → get_or (placed to p l) i 0 ≡ get_or l i 0
placed_below to p l i h b = sym (get_or-take to (placed to p l) i 0 b) ∙ rw (take-placed to p l h) (get_or-take to l i 0 b)

-- an element past a placed piece is the list's
pub placed_past : (to : ℕ) (p l : List ℕ) (i : ℕ) → to ≤ length l → to + length p ≤ i → get_or (placed to p l) i 0 ≡ get_or l i 0
placed_past to p l i h b =
    let q : to + length p + (i - (to + length p)) ≡ i = omega arith in
    let e : get_or (placed to p l) (to + length p + (i - (to + length p))) 0 ≡ get_or l (to + length p + (i - (to + length p))) 0 =
    sym (get_or-drop (to + length p) (placed to p l) (i - (to + length p)) 0)
    ∙ ap (λ (r : List ℕ). get_or r (i - (to + length p)) 0) (drop_past_placed to p l h)
    ∙ get_or-drop (to + length p) l (i - (to + length p)) 0 in
    rw q at e

-- nothing placed changes nothing
pub placed-none : (to : ℕ) (l : List ℕ) → placed to [] l ≡ l
placed-none to l =
    let z : to + 0 ≡ to = omega arith in
    rw (z, take-append-drop)

-- a piece as long as the list takes its place
pub placed_whole : (p l : List ℕ) → length p ≡ length l → placed 0 p l ≡ p
placed_whole p l e = rw (drop_of_length-le l {i = 0 + length p} (omega arith), append-nil)

-- a store right after a placed piece makes it longer
pub placed-after : (to : ℕ) (p l : List ℕ) (v : ℕ) → to + length p < length l → set (placed to p l) (to + length p) v ≡ placed to (p ++ v ∷ []) l
placed-after to p l v h =
    let f : length (take to l ++ p) ≡ to + length p = front_length to p l (omega arith) in
    let n : to + length (p ++ v ∷ []) ≡ suc (to + length p) = simp length-append (omega arith) in
    rw (n, drop-cons l (to + length p) 0, ← append_assoc (take to l) p (get_or l (to + length p) 0 ∷ drop (suc (to + length p)) l), set_at (take to l ++ p) (get_or l (to + length p) 0) (drop (suc (to + length p)) l) v (to + length p) f)
    (simp append_assoc)

-- so does a piece
pub placed-append : (to : ℕ) (p q l : List ℕ) → to + length p + length q ≤ length l → placed (to + length p) q (placed to p l) ≡ placed to (p ++ q) l
placed-append to p q l h =
    let f : length (take to l ++ p) ≡ to + length p = front_length to p l (omega arith) in
    let n : to + length (p ++ q) ≡ to + length p + length q = simp length-append (omega arith) in
    let front : take (to + length p) (placed to p l) ≡ take to l ++ p =
    ap (take (to + length p)) (sym (append_assoc (take to l) p (drop (to + length p) l))) ∙ take_at (take to l ++ p) (drop (to + length p) l) (to + length p) f in
    let rest : drop (to + length p + length q) (placed to p l) ≡ drop (to + length p + length q) l =
    sym (drop-drop (length q) (to + length p) (placed to p l)) ∙ ap (drop (length q)) (drop_past_placed to p l (omega arith)) ∙ drop-drop (length q) (to + length p) l in
    rw (front, rest, n) (append_assoc (take to l) p (q ++ drop (to + length p + length q) l) ∙ ap (λ (t : List ℕ). take to l ++ t) (sym (append_assoc p q (drop (to + length p + length q) l))))

-- a store right before a placed piece makes it longer
pub placed_before : (i : ℕ) (p l : List ℕ) (v : ℕ) → i < length l → set (placed (i + 1) p l) i v ≡ placed i (v ∷ p) l
placed_before i p l v h =
    let t : i < length (take (suc i) l) = rw (length-take-le (suc i) l (omega arith)) (omega arith) in
    let n : i + suc (length p) ≡ suc i + length p = omega arith in
    rw (add-one, n, set-append_left (take (suc i) l) (p ++ drop (suc i + length p) l) i v t, ← take-set-lt (suc i) l i v (omega arith), take-suc-set l i v h, append_assoc)

-- ---- a block copied or moved

-- where both blocks lie within their lists, the block is placed
pub copied_in : (from to count : ℕ) (s t : List ℕ) → from + count ≤ length s → to + count ≤ length t → copied from to count s t ≡ placed to (block from count s) t
copied_in from to count s t hs ht = rw (le-leb (from + count) (length s) hs, le-leb (to + count) (length t) ht)

-- a block past the end of its source has no effect
pub copied_past_source : (from to count : ℕ) (s t : List ℕ) → length s < from + count → copied from to count s t ≡ t
copied_past_source from to count s t h = rw (lt-leb (from + count) (length s) h)

-- for the second test of two
and_false : (b : Bool) → b && false ≡ false
and_false true = refl
and_false false = refl

-- a block past the end of its target has no effect
pub copied_past_target : (from to count : ℕ) (s t : List ℕ) → length t < to + count → copied from to count s t ≡ t
copied_past_target from to count s t h = rw (lt-leb (to + count) (length t) h, and_false)

-- for `copied-length`, by whether the tests pass
cond-length : (b : Bool) (p t : List ℕ) → (b ≡ true → length p ≡ length t) → length (cond b p t) ≡ length t
cond-length true p t h = h refl
cond-length false p t h = refl

-- a copy leaves the target's length, wherever the blocks lie
pub copied-length : (from to count : ℕ) (s t : List ℕ) → length (copied from to count s t) ≡ length t
copied-length from to count s t = cond-length (within from count s && within to count t) (placed to (block from count s) t) t inside
  where
    inside : within from count s && within to count t ≡ true → length (placed to (block from count s) t) ≡ length t
    inside e =
        let w = and_true (within from count s) (within to count t) e in
        let n = block-length from count s (leb-true (from + count) (length s) w.0) in
        placed-length to (block from count s) t (omega (arith, leb-true (to + count) (length t) w.1))

-- a list copied over one of the same length takes its place
pub copied_whole : (s t : List ℕ) → length s ≡ length t → copied 0 0 (length t) s t ≡ s
copied_whole s t e =
    copied_in 0 0 (length t) s t (omega arith) (omega arith) ∙ rw (take_all (length t) s (omega arith)) (placed_whole s t e)

-- where both places lie within the list, the block is placed
pub moved_in : (from to count : ℕ) (l : List ℕ) → from + count ≤ length l → to + count ≤ length l → moved from to count l ≡ placed to (block from count l) l
moved_in from to count l = copied_in from to count l l

-- a block past the end of the list is not moved
pub moved_past_source : (from to count : ℕ) (l : List ℕ) → length l < from + count → moved from to count l ≡ l
moved_past_source from to count l = copied_past_source from to count l l

-- a block is not moved past the end of the list
pub moved_past_target : (from to count : ℕ) (l : List ℕ) → length l < to + count → moved from to count l ≡ l
moved_past_target from to count l = copied_past_target from to count l l

-- a move leaves the length
pub moved_length : (from to count : ℕ) (l : List ℕ) → length (moved from to count l) ≡ length l
moved_length from to count l = copied-length from to count l l

-- ---- the low bytes

-- one byte for each element
pub length-low_bytes : (l : List ℕ) → length (low_bytes l) ≡ length l
unfolding low_bytes
length-low_bytes l = length-map l (λ x. x % 256)

-- an element's low eight bits
pub get_or-low_bytes : (l : List ℕ) (k : ℕ) → get_or (low_bytes l) k 0 ≡ get_or l k 0 % 256
unfolding low_bytes
get_or-low_bytes [] k = refl
get_or-low_bytes (x ∷ l) zero = refl
get_or-low_bytes (x ∷ l) (suc k) = get_or-low_bytes l k

-- the low bytes of a front
pub take-low_bytes : (n : ℕ) (l : List ℕ) → take n (low_bytes l) ≡ low_bytes (take n l)
unfolding low_bytes
take-low_bytes n l = take-map (λ x. x % 256) n l

-- the low bytes of a rest
pub drop-low_bytes : (n : ℕ) (l : List ℕ) → drop n (low_bytes l) ≡ low_bytes (drop n l)
unfolding low_bytes
drop-low_bytes n l = drop-map (λ x. x % 256) n l

-- bytes are their own low bytes
pub low_bytes_of_bytes : (l : List ℕ) → ((k : ℕ) → get_or l k 0 < 256) → low_bytes l ≡ l
unfolding low_bytes
low_bytes_of_bytes [] h = refl
low_bytes_of_bytes (x ∷ l) h = rw (mod-eq_of_lt (h 0), low_bytes_of_bytes l (λ k. h (suc k)))

-- ---- equality of lists, as a test

-- for `eq_same`
same_self : (l : List ℕ) → same l l ≡ true
unfolding same
same_self [] = refl
same_self (x ∷ l) = rw (eq-eqb x x refl, same_self l)

-- equal lists pass the test
pub eq_same : (a b : List ℕ) → a ≡ b → same a b ≡ true
eq_same a b e = rw (← e) (same_self a)

-- lists that pass the test are equal
pub same_true : (a b : List ℕ) → same a b ≡ true → a ≡ b
unfolding same
same_true [] [] e = refl
same_true [] (y ∷ b) e = absurd (false≢true e)
same_true (x ∷ a) [] e = absurd (false≢true e)
same_true (x ∷ a) (y ∷ b) e =
    let w = and_true (eqb x y) (same a b) e in
    rw (eqb-true x y w.0, same_true a b w.1)

-- a test that cannot pass fails
false_of : (b : Bool) → (b ≡ true → ⊥) → b ≡ false
false_of true h = absurd (h refl)
false_of false h = refl

-- lists that are not equal fail the test
pub ne_same : (a b : List ℕ) → (a ≡ b → ⊥) → same a b ≡ false
ne_same a b h = false_of (same a b) (λ e. h (same_true a b e))

-- it is the library's `==` of slices
pub pointwise_same : (a b : List ℕ) → pointwise eqb a b ≡ same a b
unfolding same
pointwise_same [] [] = refl
pointwise_same [] (y ∷ b) = refl
pointwise_same (x ∷ a) [] = refl
pointwise_same (x ∷ a) (y ∷ b) = rw (pointwise_same a b)

-- any test that passes just at equal lists is this one
pub decided_same : (a b : List ℕ) (r : Bool) → Decides r (a ≡ b) → r ≡ same a b
decided_same a b r d = same_from_decides r (same a b) d (same_true a b, eq_same a b)

-- lists that differ at one position fail the test
pub differ_same : (a b : List ℕ) (k : ℕ) → (get_or a k 0 ≡ get_or b k 0 → ⊥) → same a b ≡ false
differ_same a b k h = ne_same a b (λ e. h (ap (λ (l : List ℕ). get_or l k 0) e))

-- where both blocks lie within the list, the blocks are compared
pub same_blocks_in : (first second count : ℕ) (l : List ℕ) → first + count ≤ length l → second + count ≤ length l → same_blocks first second count l ≡ same (block first count l) (block second count l)
same_blocks_in first second count l hf hs = rw (le-leb (first + count) (length l) hf, le-leb (second + count) (length l) hs)

-- where the block lies within the list, it is compared with the bytes
pub same_bytes_in : (from count : ℕ) (bytes l : List ℕ) → from + count ≤ length l → same_bytes from count bytes l ≡ same (block from count l) bytes
same_bytes_in from count bytes l h = rw (le-leb (from + count) (length l) h)

-- a passed test of two blocks: both lie within the list, and they are equal
pub same_blocks-true : (first second count : ℕ) (l : List ℕ) → same_blocks first second count l ≡ true
    → (first + count ≤ length l) × (second + count ≤ length l) × (block first count l ≡ block second count l)
same_blocks-true first second count l e =
    let w = and_true (within first count l && within second count l) (same (block first count l) (block second count l)) e in
    let v = and_true (within first count l) (within second count l) w.0 in
    (leb-true (first + count) (length l) v.0, leb-true (second + count) (length l) v.1, same_true (block first count l) (block second count l) w.1)

-- a passed test of a block and bytes: the block lies within the list, and is the bytes
pub same_bytes-true : (from count : ℕ) (bytes l : List ℕ) → same_bytes from count bytes l ≡ true → (from + count ≤ length l) × (block from count l ≡ bytes)
same_bytes-true from count bytes l e =
    let w = and_true (within from count l) (same (block from count l) bytes) e in
    (leb-true (from + count) (length l) w.0, same_true (block from count l) bytes w.1)

-- bytes that are more or fewer than the count fail the test
pub same_bytes_count : (from count : ℕ) (bytes l : List ℕ) → (count ≡ length bytes → ⊥) → same_bytes from count bytes l ≡ false
same_bytes_count from count bytes l h = false_of (same_bytes from count bytes l) other
  where
    other : same_bytes from count bytes l ≡ true → ⊥
    other e =
        let w = same_bytes-true from count bytes l e in
        h (sym (block-length from count l w.0) ∙ ap length w.1)

-- where the bytes are as many as the count, all of them are compared
pub same_bytes_whole : (from count : ℕ) (bytes l : List ℕ) → from + count ≤ length l → count ≡ length bytes → same_bytes from count bytes l ≡ same (block from count l) (block 0 count bytes)
same_bytes_whole from count bytes l h e = same_bytes_in from count bytes l h ∙ ap (same (block from count l)) (sym (take_all count bytes (omega arith)))

-- ---- repeated

-- as many as asked for
pub length-repeated : (n x : ℕ) → length (repeated n x) ≡ n
unfolding repeated
length-repeated zero x = refl
length-repeated (suc n) x = ap suc (length-repeated n x)

-- the library's list of so many times the same
pub replicate_repeated : (n x : ℕ) → replicate n x ≡ repeated n x
unfolding repeated
replicate_repeated zero x = refl
replicate_repeated (suc n) x = ap (λ (l : List ℕ). x ∷ l) (replicate_repeated n x)

-- each of them the number
pub get_or-repeated : (n x k : ℕ) → k < n → get_or (repeated n x) k 0 ≡ x
unfolding repeated
get_or-repeated zero x k h = absurd (omega arith)
get_or-repeated (suc n) x zero h = refl
get_or-repeated (suc n) x (suc k) h = get_or-repeated n x k (omega arith)

-- in place of elements that are there
pub filled_in : (to count x : ℕ) (l : List ℕ) → to + count ≤ length l → filled to count x l ≡ placed to (repeated count x) l
filled_in to count x l h =
    let z = length-repeated count x in
    copied_in 0 to count (repeated count x) l (omega arith) h ∙ ap (λ (p : List ℕ). placed to p l) (take_all count (repeated count x) (omega arith))

-- the list after a write of them to a part of a slice
pub filled_part : (to count x : ℕ) (l : List ℕ) → to + count ≤ length l → filled to count x l ≡ put_mid to count l (repeated count x)
filled_part to count x l h =
    let z = length-repeated count x in
    filled_in to count x l h ∙ rw (z, drop-drop) refl

-- and nothing in place of none
pub filled_none : (to x : ℕ) (l : List ℕ) → filled to 0 x l ≡ l
unfolding repeated
filled_none to x l = go (leb (to + 0) (length l))
  where
    go : (t : Bool) → cond (leb (0 + 0) 0 && t) (placed to [] l) l ≡ l
    go true = placed-none to l
    go false = refl
