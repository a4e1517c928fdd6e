-- Document 01, Charge: the prices.
use Rattle.std.specs.Prelude.{ℕ, ◌+◌, List, [], ◌∷◌, length}
use Rattle.language.specs.Signs.{Bytes}
use Rattle.language.specs.Definitions.{Content, macro, built_in, Definition}

-- "An open call is charged 4"
abbrev pub open_price : ℕ
open_price = 4

-- "each comma that ends an argument 1", "an applying `;` 1"
abbrev pub end_price : ℕ
end_price = 1

-- "each collected byte 1": arguments with the comma or the `;` that ended each
unfoldable pub arguments_price : List Bytes → ℕ
arguments_price [] = 0
arguments_price (a ∷ more) = length a + end_price + arguments_price more

-- a call being collected: its ended arguments, the name first, and the argument in hand
abbrev pub collected_price : List Bytes → Bytes → ℕ
collected_price ended hand = open_price + (arguments_price ended + length hand)

-- the list of name and parameters of an applied call
abbrev pub list_price : List Bytes → ℕ
list_price list = open_price + arguments_price list

-- "A live definition is charged name length + defined value length + 4." "Built-ins cost nothing." Document 02, Thirteen:
-- "A definition is charged 5 in place of 4", in that sum.
abbrev pub content_price : ℕ → Content → ℕ
content_price n (macro x) = n + x.room + 5
content_price n (built_in b) = 0

abbrev pub definition_price : Definition → ℕ
definition_price d = content_price (length d.name) d.content

unfoldable pub definitions_price : List Definition → ℕ
definitions_price [] = 0
definitions_price (d ∷ ds) = definition_price d + definitions_price ds
