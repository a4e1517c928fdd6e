-- Document 02, Thirteen: "an index of 64 groups beside the definitions .. each holding exactly its standing definitions, newest
-- first". Beside the cells stand the heads, one for each group: where its newest definition stands, or the mark. The link of a
-- definition says where the next older one of its group stands, so a link is a matter of what stands behind it alone.
use Rattle.std.specs.Prelude.{ℕ, zero, suc, ◌<◌, ◌≡◌, cond, List, [], ◌∷◌, length, get_or, eqb}
use Rattle.language.specs.Groups.{groups, group}
use Rattle.machine.specs.Walks.{mark}
use Rattle.machine.specs.Items.{Item, defined, listed}
use Rattle.machine.specs.Frames.{address}

-- where the newest definition of a group stands among items, or the mark
unfoldable pub newest_in : ℕ → ℕ → List Item → ℕ
newest_in n g [] = mark
newest_in n g (defined f name value spare ∷ items) =
    let r = newest_in n g items in
    cond (eqb (group name) g) (address n (defined f name value spare ∷ items)) r
newest_in n g (listed to links reader arguments ∷ items) = newest_in n g items

-- each definition is linked to the newest of its group among those older than it
unfoldable pub Linked : ℕ → List Item → Type 0
Linked n [] = Unit {0}
Linked n (defined f name value spare ∷ items) = (f.link ≡ newest_in n (group name) items) × Linked n items
Linked n (listed to links reader arguments ∷ items) = Linked n items

-- the index of items
pub record Index (n : ℕ) (items : List Item) (heads : List ℕ) : Type 0 where
  pub size : length heads ≡ groups
  pub linked : Linked n items
  pub headed : (g : ℕ) → g < groups → get_or heads g 0 ≡ newest_in n g items

-- the heads of no definitions
unfoldable pub no_heads : ℕ → List ℕ
no_heads zero = []
no_heads (suc k) = mark ∷ no_heads k
