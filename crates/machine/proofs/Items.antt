-- Laws about items and calls in the encoding that the code reads.
use Prim.Native.Nat.{ℕ, ◌+◌, ◌≤◌, zero-le}
use native.Mathlib.Omega.{arith}
use mathlib.Core.Path.{◌≡◌, refl, sym, ap, ◌∙◌}
use mathlib.Core.List.{List, [], ◌∷◌, ◌++◌, append_assoc, append-nil}
use lib.ListN.{length, length-append}
use Rattle.language.specs.Signs.{Bytes}
use Rattle.language.specs.Charge.{arguments_price, collected_price, list_price}
use Rattle.machine.specs.Walks.{mark, head_size}
use Rattle.machine.specs.Items.{Head, Item, defined, listed, encode_arguments, encode_item, encode, width, definitions_of, count, encode_call}

-- the argument in hand ended too
pub encode_arguments_last : (a : List Bytes) (h : Bytes) → encode_arguments (a ++ (h ∷ [])) ≡ encode_arguments a ++ (length h ∷ h)
unfolding encode_arguments
encode_arguments_last [] h = ap (λ (x : List ℕ). length h ∷ x) (append-nil h)
encode_arguments_last (x ∷ a) h =
    ap (λ (y : List ℕ). length x ∷ (x ++ y)) (encode_arguments_last a h)
    ∙ ap (λ (y : List ℕ). length x ∷ y) (sym (append_assoc x (encode_arguments a) (length h ∷ h)))

-- Sizes --------------------------------------------------------------------------------------------------------------

pub arguments_size : (a : List Bytes) → length (encode_arguments a) ≡ arguments_price a
unfolding encode_arguments arguments_price
arguments_size [] = refl
arguments_size (x ∷ a) = omega (arith, length-append x (encode_arguments a), arguments_size a)

pub call_size : (to from links waits : ℕ) (ended : List Bytes) (hand : Bytes) → length (encode_call to from links waits ended hand) ≡ collected_price ended hand
call_size to from links waits ended hand = omega (arith, length-append (encode_arguments ended) (waits ∷ hand), arguments_size ended)

pub list_size : (to links reader : ℕ) (a : List Bytes) → length (encode_item (listed to links reader a)) ≡ list_price a
list_size to links reader a = omega (arith, length-append (encode_arguments a) (mark ∷ []), arguments_size a)

pub definition_size : (f : Head) (name value spare : Bytes)
    → length (encode_item (defined f name value spare)) ≡ head_size + length name + (length value + length spare)
definition_size f name value spare = omega (arith, length-append name (value ++ spare), length-append value spare)

pub encode-append : (a b : List Item) → encode (a ++ b) ≡ encode a ++ encode b
unfolding encode
encode-append [] b = refl
encode-append (i ∷ a) b = rw (encode-append a b, append_assoc (encode_item i) (encode a) (encode b))

pub width-append : (a b : List Item) → width (a ++ b) ≡ width a + width b
width-append a b = ap length (encode-append a b) ∙ length-append (encode a) (encode b)

pub width-cons : (i : Item) (items : List Item) → width (i ∷ items) ≡ length (encode_item i) + width items
unfolding encode
width-cons i items = length-append (encode_item i) (encode items)

pub definitions-append : (a b : List Item) → definitions_of (a ++ b) ≡ definitions_of a ++ definitions_of b
unfolding definitions_of
definitions-append [] b = refl
definitions-append (defined f n v s ∷ a) b = rw (definitions-append a b)
definitions-append (listed t l r x ∷ a) b = definitions-append a b

pub count-append : (a b : List Item) → count (a ++ b) ≡ count a + count b
count-append a b = ap length (definitions-append a b) ∙ length-append (definitions_of a) (definitions_of b)

-- no more definitions stand than the cells hold
pub count-width : (its : List Item) → count its ≤ width its
unfolding encode definitions_of
count-width [] = zero-le
count-width (defined f name value spare ∷ its) =
    omega (arith, count-width its, width-cons (defined f name value spare) its, definition_size f name value spare)
count-width (listed to links reader list ∷ its) =
    omega (arith, count-width its, width-cons (listed to links reader list) its, list_size to links reader list)
