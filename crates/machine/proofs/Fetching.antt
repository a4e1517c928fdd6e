-- A byte of a body, and `~` with its digit or letter.
use Prim.Native.Nat.{ℕ, zero, suc, ◌+◌, ◌-◌, ◌%◌, ◌≤◌, ◌<◌}
use native.Mathlib.Omega.{arith}
use mathlib.Core.Path.{◌≡◌, refl, sym, ap, ◌∙◌}
use mathlib.Core.Bool.{Bool, true, false, cond, ◌&&◌}
use mathlib.Core.List.{List, [], ◌∷◌, ◌++◌}
use Rattle.std.specs.Prelude.{Option, None, Some, IfSome}
use lib.ListN.{length, take, drop, get_or, length-drop}
use lib.Seq.{get_or-drop}
use lib.Dec.{leb, ltb}
use borrow.Author.Tests.{le-leb, lt-leb, leb-true, ltb-true, ltb-false}
use Rattle.language.specs.Signs.{Bytes, Table, parameter_digit, parameter_number, language}
use Rattle.language.specs.Definitions.{Definition}
use Rattle.language.specs.BuiltIns.{parameter}
use Rattle.language.specs.Charge.{arguments_price, definitions_price}
use Rattle.language.specs.Matched.{All, empty, with}
use Rattle.language.specs.Scanning.{State, Body}
use Rattle.language.specs.Scanning as S
use Rattle.language.specs.Expansion.{limits_of, lent}
use Rattle.language.proofs.Octets.{at_octets}
use Rattle.language.specs.Octets.{Octets}
use Rattle.memory.specs.Block.{block, low_bytes}
use Rattle.memory.proofs.Blocks.{block_at, take-low_bytes, drop-low_bytes, low_bytes_of_bytes}
use Rattle.machine.specs.declared.run.Run.{Run}
use Rattle.machine.specs.Walks.{nowhere, mark, head_size, name_length, arguments_from, value_length}
use Rattle.machine.specs.Machine as M
use Rattle.machine.proofs.Moves.{Reader, reader_of}
use Rattle.machine.proofs.Represents.{Simulates}
use Rattle.machine.proofs.Finds.{HoldsItems, at_cells, Listed, list_cells, argument_at, taken_below, argument_past}
use Rattle.machine.proofs.Putting.{refusal, copy_block}
use Rattle.machine.proofs.Counting.{advanced}
use Rattle.machine.specs.Items.{encode, encode_arguments}
use Rattle.machine.specs.Frames.{Places, items, places}
use Rattle.machine.specs.Held.{Represents}
use Rattle.language.specs.declared.outcomes.Outcome.TheVariants.{FetchesNothing, NotSupplied}

-- a block of bytes is the same in the low bits of the cells
pub block-low : (from : ℕ) (bs l : List ℕ) → block from (length bs) l ≡ bs → Octets bs → block from (length bs) (low_bytes l) ≡ bs
block-low from bs l e h =
    ap (take (length bs)) (drop-low_bytes from l) ∙ take-low_bytes (length bs) (drop from l) ∙ ap low_bytes e ∙ low_bytes_of_bytes bs (at_octets h)

-- an argument of octets is octets
pub each : (k : ℕ) (list : List Bytes) → All Octets list → Octets (parameter k list)
each k [] h = empty
each zero (a ∷ list) (with x h) = x
each (suc k) (a ∷ list) (with x h) = each k list h

module _ {n : ℕ} {older : List Definition} {heads whole start : List ℕ} {r : Run} {l o : List ℕ} {s : State} (h : Represents n older heads whole start r (lent l o) s) where
  pub holds_of : HoldsItems n l r.right (items n (length older) h.frames)
  holds_of = record { size = h.lies.stands.size; cells_lent = h.cells_lent; ends = h.lies.stands.right; cells = h.lies.stands.cells }

  -- the byte that the code reads of the body is the next of its bytes
  module _ (B : Body) (Bs : List Body) (e : s.bodies ≡ B ∷ Bs) where
    reader_is : Reader n (length older) h.frames B
    reader_is = reader_of n (length older) h.frames B Bs h.valid (sym h.bodies_are ∙ e)

    body_eq : r.source.body ≡ (places n (length older) h.frames).body
    body_eq = ap (λ (p : Places). p.body) h.places_are

    offset_eq : r.source.offset ≡ (places n (length older) h.frames).offset
    offset_eq = ap (λ (p : Places). p.offset) h.places_are

    pub body_over : B.rest ≡ [] → M.body_byte r l ≡ None
    body_over q =
        let x = reader_is in
        let c = at_cells holds_of x.at in
        let z : length (drop (places n (length older) h.frames).offset x.value) ≡ 0 = ap length (sym x.rest ∙ q) in
        let valued : value_length l r.source.body ≡ length x.value = ap (λ (k : ℕ). value_length l k) body_eq ∙ c.3.cells.valued in
        rw (le-leb (value_length l r.source.body) r.source.offset
        (omega (arith, offset_eq, valued, length-drop (places n (length older) h.frames).offset x.value)))

    pub body_next : (x : ℕ) (rest : Bytes) → B.rest ≡ x ∷ rest → x < 256 → M.body_byte r l ≡ Some x
    body_next x rest q small =
        let v = reader_is in
        let c = at_cells holds_of v.at in
        let k = (places n (length older) h.frames).offset in
        let tail : drop k v.value ≡ x ∷ rest = sym v.rest ∙ q in
        let z : length (drop k v.value) ≡ suc (length rest) = ap length tail in
        let inside : k < length v.value = omega (arith, length-drop k v.value) in
        let valued : value_length l r.source.body ≡ length v.value = ap (λ (j : ℕ). value_length l j) body_eq ∙ c.3.cells.valued in
        let named : name_length l r.source.body ≡ length c.0 = ap (λ (j : ℕ). name_length l j) body_eq ∙ c.3.cells.named in
        let zero' : k + 0 ≡ k = omega arith in
        let byteIs : get_or l (r.source.body + head_size + name_length l r.source.body + r.source.offset) 0 ≡ x =
        ap (λ (j : ℕ). get_or l (r.source.body + head_size + j + r.source.offset) 0) named
        ∙ ap (λ (j : ℕ). get_or l (j + head_size + length c.0 + r.source.offset) 0) body_eq
        ∙ ap (λ (j : ℕ). get_or l ((places n (length older) h.frames).body + head_size + length c.0 + j) 0) offset_eq
        ∙ sym (block_at ((places n (length older) h.frames).body + head_size + length c.0) (length v.value) l k inside)
        ∙ ap (λ (j : List ℕ). get_or j k 0) c.3.cells.value_is
        ∙ ap (λ (j : ℕ). get_or v.value j 0) (sym zero')
        ∙ sym (get_or-drop k v.value 0 0)
        ∙ ap (λ (j : List ℕ). get_or j 0 0) tail in
        let whole' : x % 256 ≡ x = omega arith in
        rw (lt-leb (value_length l r.source.body) r.source.offset (omega (arith, offset_eq, valued)), byteIs) (ap Some whole')

-- a byte stands for a parameter from 0 to 35, or for none
pub numbered : (x : ℕ) → IfSome (parameter_number x) (λ k. k < 36)
numbered x = letter (leb 97 x) (leb x 122) refl
  where
    digit : (a b : Bool) → leb x 57 ≡ b → IfSome (cond (a && b) (Some (x - 48)) None) (λ k. k < 36)
    digit true true e = let z = leb-true x 57 e in omega arith
    digit true false e = tt
    digit false b e = tt

    letter : (a b : Bool) → leb x 122 ≡ b → IfSome (cond (a && b) (Some (x - 97 + 10)) (parameter_digit x)) (λ k. k < 36)
    letter true true e = let z = leb-true x 122 e in omega arith
    letter true false e = digit (leb 48 x) (leb x 57) refl
    letter false b e = digit (leb 48 x) (leb x 57) refl

module _ {n : ℕ} {older : List Definition} {heads whole start : List ℕ} {r : Run} {l o : List ℕ} {s : State}
    (free : definitions_price older ≡ 0) (h : Represents n older heads whole start r (lent l o) s) (B : Body) (Bs : List Body) (e : s.bodies ≡ B ∷ Bs) where
  listed : Listed n (length older) l r.right (places n (length older) h.frames).list B Bs
  listed = list_cells h.frames h.valid (holds_of h) (sym h.bodies_are ∙ e)

  list_eq : r.source.list ≡ (places n (length older) h.frames).list
  list_eq = ap (λ (p : Places). p.list) h.places_are

  -- parameter k of the body being read
  fetch_number_sim : (x : ℕ) (rest : Bytes) → B.rest ≡ x ∷ rest → All Octets B.list → (k : ℕ)
      → Simulates n older heads whole start (M.fetch_number r (Some k) (lent l o))
      (S.fetch_supplied (limits_of n (length start)) (ltb k (length B.list)) (parameter k B.list) (S.with_bodies (S.with_rest rest B ∷ Bs) s))
  fetch_number_sim x rest q oct k = go (ltb k (length B.list)) refl
    where
      more : List ℕ
      more = encode (listed.since ++ items n (length older) listed.under)

      c : drop (r.source.list + arguments_from) l ≡ encode_arguments B.list ++ (mark ∷ more)
      c = ap (λ (j : ℕ). drop (j + 3) l) list_eq ∙ listed.cells.arguments

      priced : arguments_price B.list ≤ 65536
      priced = omega (arith, listed.within, h.cells_lent)

      elsewhere : k < length B.list → r.source.list + arguments_from + arguments_price (take k B.list) ≡ nowhere → ⊥
      elsewhere short z = omega (arith, taken_below k B.list short, listed.within, h.cells_lent, list_eq)

      go : (t : Bool) → ltb k (length B.list) ≡ t
          → Simulates n older heads whole start (M.fetch_number r (Some k) (lent l o))
          (S.fetch_supplied (limits_of n (length start)) t (parameter k B.list) (S.with_bodies (S.with_rest rest B ∷ Bs) s))
      go true z =
          let short = ltb-true k (length B.list) z in
          let at = argument_at l (r.source.list + arguments_from) B.list more k c priced (elsewhere short) short in
          let p = at.at in
          let a = at.is in
          let bs = parameter k B.list in
          let h' = advanced h B Bs x rest e q in
          rw (at.found, a.counted)
          (copy_block free h' (p + 1) bs (omega (arith, a.within, listed.within, list_eq)) a.bytes (block-low (p + 1) bs l a.bytes (each k B.list oct)))
      go false z =
          rw (argument_past l (r.source.list + arguments_from) B.list more k c priced (ltb-false k (length B.list) z)) (refusal free h NotSupplied)

  -- `~` in a body
  pub fetch_body_sim : (T : Table) → Octets B.rest → All Octets B.list
      → Simulates n older heads whole start (M.fetch_in_body r (lent l o)) (S.fetch_in_body (limits_of n (length start)) (language T) B.rest B Bs s)
  fetch_body_sim T octets oct = go B.rest refl octets
    where
      by_number : (x : ℕ) (rest : Bytes) → B.rest ≡ x ∷ rest → (k : Option ℕ)
          → Simulates n older heads whole start (M.fetch_number r k (lent l o)) (S.fetch_number (limits_of n (length start)) k B.list (S.with_bodies (S.with_rest rest B ∷ Bs) s))
      by_number x rest q None = refusal free h FetchesNothing
      by_number x rest q (Some k) = fetch_number_sim x rest q oct k

      go : (bs : Bytes) → B.rest ≡ bs → Octets bs → Simulates n older heads whole start (M.fetch_in_body r (lent l o)) (S.fetch_in_body (limits_of n (length start)) (language T) bs B Bs s)
      go [] q oc = rw (body_over h B Bs e q) (refusal free h FetchesNothing)
      go (x ∷ rest) q (with small oc) =
          rw (body_next h B Bs e x rest q small) (by_number x rest q (parameter_number x))
