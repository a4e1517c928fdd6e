-- What stands in the cells: items on the right, calls on the left, in the encoding that the code reads.
use Rattle.std.specs.Prelude.{ℕ, ◌+◌, List, [], ◌∷◌, ◌++◌, length, ltb}
use Rattle.language.specs.Signs.{Bytes}
use Rattle.language.specs.Definitions.{Macro, Definition, macro}
use Rattle.machine.specs.Walks.{mark}

-- what stands before the name of a definition beside its lengths: its lock, and the link to the next older one of its group
pub record Head : Type 0 where
  pub lock : ℕ
  pub link : ℕ

-- a definition: its lock and link, its name, its value, and what is left of its room; or the list of a body being read: where the
-- right stack stood at its `$`, its links and its reader to return to, and its name and parameters
pub data Item : Type 0 where
  defined : Head → Bytes → Bytes → Bytes → Item
  listed : ℕ → ℕ → ℕ → List Bytes → Item

unfoldable pub encode_arguments : List Bytes → List ℕ
encode_arguments [] = []
encode_arguments (a ∷ more) = length a ∷ (a ++ encode_arguments more)

abbrev pub encode_item : Item → List ℕ
encode_item (defined f name value spare) =
    f.lock ∷ length name ∷ (length value + length spare) ∷ length value ∷ f.link ∷ (name ++ (value ++ spare))
encode_item (listed to links reader arguments) = to ∷ links ∷ reader ∷ (encode_arguments arguments ++ (mark ∷ []))

unfoldable pub encode : List Item → List ℕ
encode [] = []
encode (i ∷ items) = encode_item i ++ encode items

abbrev pub width : List Item → ℕ
width items = length (encode items)

-- what the language has of a definition in cells: it is locked where its lock is not 0
abbrev pub macro_of : Head → Bytes → Bytes → Macro
macro_of f value spare = record { value = value; room = length value + length spare; locked = ltb 0 f.lock }

abbrev pub definition_of : Head → Bytes → Bytes → Bytes → Definition
definition_of f name value spare = record { name = name; content = macro (macro_of f value spare) }

-- the definitions among the items
unfoldable pub definitions_of : List Item → List Definition
definitions_of [] = []
definitions_of (defined f name value spare ∷ items) = definition_of f name value spare ∷ definitions_of items
definitions_of (listed to links reader arguments ∷ items) = definitions_of items

abbrev pub count : List Item → ℕ
count items = length (definitions_of items)

-- a call being collected: where the right stack stood, the list that was read, what stands around it, its ended arguments, and
-- the argument in hand behind a cell that waits for its length
abbrev pub encode_call : ℕ → ℕ → ℕ → ℕ → List Bytes → Bytes → List ℕ
encode_call to from links waits ended hand = to ∷ from ∷ links ∷ (encode_arguments ended ++ (waits ∷ hand))

-- only definitions
unfoldable pub Definitions : List Item → Type 0
Definitions [] = Unit {0}
Definitions (defined f name value spare ∷ items) = Definitions items
Definitions (listed to links reader arguments ∷ items) = ⊥
