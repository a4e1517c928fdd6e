-- Document 02, Thirteen: "keep an index of 64 groups beside the definitions, by the sum of the name's bytes modulo 64". The
-- definitions read all that stands; what a group holds is said here, and the machine keeps the index.
use Rattle.std.specs.Prelude.{ℕ, ◌+◌, ◌%◌, cond, List, [], ◌∷◌, eqb}
use Rattle.std.specs.Prelude.{Option, None, Some}
use Rattle.language.specs.Signs.{Bytes}
use Rattle.language.specs.Definitions.{Content, Definition, Found, found, missing}

-- "an index of 64 groups"
abbrev pub groups : ℕ
groups = 64

-- "the sum of the name's bytes"
unfoldable pub sum : Bytes → ℕ
sum [] = 0
sum (b ∷ bs) = b + sum bs

-- "by the sum of the name's bytes modulo 64"
abbrev pub group : Bytes → ℕ
group name = sum name % groups

-- the definitions of a group, in their order: "each holding exactly its standing definitions, newest first"
unfoldable pub of_group : ℕ → List Definition → List Definition
of_group g [] = []
of_group g (d ∷ ds) = let r = of_group g ds in cond (eqb (group d.name) g) (d ∷ r) r

-- what was found, without its number: "A lookup reads one group and finds the definition that reading all would find, or none
-- if that finds none."
abbrev pub content_of : Found → Option Content
content_of missing = None
content_of (found k c) = Some c
