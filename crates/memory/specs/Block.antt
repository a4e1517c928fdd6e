-- Blocks of a list: `count` elements from a position on. A block that does not lie within its list has no effect.
use Rattle.std.specs.Prelude.{ℕ, zero, suc, ◌+◌, ◌%◌, Bool, true, false, cond, ◌&&◌, List, [], ◌∷◌, ◌++◌, length, take, drop, map, eqb, leb}

-- whether the block lies within the list
abbrev pub within : ℕ → ℕ → List ℕ → Bool
within from count l = leb (from + count) (length l)

abbrev pub block : ℕ → ℕ → List ℕ → List ℕ
block from count l = take count (drop from l)

-- the list with the elements of `piece` in place of those from `to` on
abbrev pub placed : ℕ → List ℕ → List ℕ → List ℕ
placed to piece l = take to l ++ (piece ++ drop (to + length piece) l)

-- the block of `source` from `from`, placed into `target` from `to` on, where both lie within their lists
abbrev pub copied : ℕ → ℕ → ℕ → List ℕ → List ℕ → List ℕ
copied from to count source target = cond (within from count source && within to count target) (placed to (block from count source) target) target

-- a block moved within one list
abbrev pub moved : ℕ → ℕ → ℕ → List ℕ → List ℕ
moved from to count l = copied from to count l l

-- the low eight bits of each element
unfoldable pub low_bytes : List ℕ → List ℕ
low_bytes l = map (λ x. x % 256) l

unfoldable pub same : List ℕ → List ℕ → Bool
same [] [] = true
same [] (y ∷ b) = false
same (x ∷ a) [] = false
same (x ∷ a) (y ∷ b) = eqb x y && same a b

-- whether two blocks of a list lie within it and are the same
abbrev pub same_blocks : ℕ → ℕ → ℕ → List ℕ → Bool
same_blocks first second count l = (within first count l && within second count l) && same (block first count l) (block second count l)

-- whether a block lies within the list and is the same as `bytes`
abbrev pub same_bytes : ℕ → ℕ → List ℕ → List ℕ → Bool
same_bytes from count bytes l = within from count l && same (block from count l) bytes

-- so many times the same number
unfoldable pub repeated : ℕ → ℕ → List ℕ
repeated zero x = []
repeated (suc n) x = x ∷ repeated n x

-- the list with that in place of its elements from `to` on
abbrev pub filled : ℕ → ℕ → ℕ → List ℕ → List ℕ
filled to count x l = copied 0 to count (repeated count x) l
