-- Document 02, Thirteen: what the index holds, and what a lookup finds by it, as both are read off the heads and the cells.
use Rattle.std.specs.Prelude.{ℕ, zero, suc, ◌+◌, ◌≤◌, ◌<◌, ◌≡◌, List, ◌++◌, length, get_or}
use Rattle.std.specs.Prelude.{Option, None, Some}
use Rattle.memory.specs.Block.{block}
use Rattle.language.specs.Signs.{Bytes}
use Rattle.language.specs.Definitions.{Content, Definition}
use Rattle.language.specs.Definitions as D
use Rattle.language.specs.Groups.{groups, of_group, content_of}
use Rattle.language.specs.BuiltIns.{built_ins}
use Rattle.language.specs.Scanning.{Step, next, stop}
use Rattle.machine.specs.declared.run.Answer.TheVariants.{GoesOn}
use Rattle.machine.specs.Walks.{size, newest}
use Rattle.machine.specs.Machine.{Indexed}
use Rattle.machine.specs.Held.{outcome_in, definition_at, group_held}

-- what stands at a position that a lookup came to, or what it came to where it found none
abbrev pub content_at : List ℕ → Option ℕ → Option Content → Option Content
content_at l None other = other
content_at l (Some p) other = Some (definition_at l p).content

-- The definitions ds stand, the oldest of them, `older`, in no cell.
pub record Grouped (older : List Definition) (heads l : List ℕ) (ds : List Definition) : Type 0 where
  -- "each holding exactly its standing definitions, newest first": those that are read along a group, then those of `older` in it
  pub held : (g : ℕ) → g < groups → group_held l heads g ++ of_group g older ≡ of_group g ds
  -- "A lookup reads one group and finds the definition that reading all would find, or none if that finds none": of the name at a
  -- length cell
  pub finds : (name : ℕ) (t : Bytes) → get_or l name 0 ≡ length t → block (name + 1) (length t) l ≡ t → name + 1 + length t ≤ length l
      → content_at l (newest l heads name) (content_of (D.newest t older)) ≡ content_of (D.newest t ds)

-- Where the scanning goes on, so does the run, and the index holds what stands in the state that was come to. Where the scanning has
-- ended, the run has, with the same outcome.
abbrev pub Indexes : Indexed → Step → Type 0
Indexes x (next s) = (x.after.answer ≡ GoesOn) × Grouped built_ins x.heads x.after.lent.cells s.standing.definitions
Indexes x (stop e) = outcome_in x.after.answer ≡ Some e.outcome

-- where a walk over definitions is after so many turns
unfoldable pub position_after : ℕ → List ℕ → ℕ → ℕ
position_after zero l p = p
position_after (suc k) l p = position_after k l (p + size l p)
