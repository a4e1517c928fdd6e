-- Document 01: definitions, newest first, the built-ins the oldest of them. Document 02, Nine: a definition may be locked.
use Rattle.std.specs.Prelude.{ℕ, ◌+◌, ◌-◌, Bool, true, false, cond, ◌&&◌, ◌||◌, List, [], ◌∷◌, ◌++◌, length, take, drop, eqb}
use Rattle.language.specs.Signs.{Bytes}
use Rattle.language.specs.declared.built_ins.BuiltIn.{BuiltIn}

-- "UPDATE changes the newest definition's value; its permitted length remains that of its DEF." Document 02, Nine:
-- "Substitution's definition lists carry the mark, and definitions standing are compared by it too."
pub record Macro : Type 0 where
  pub value : Bytes
  pub room : ℕ
  pub locked : Bool

pub data Content : Type 0 where
  macro : Macro → Content
  built_in : BuiltIn → Content

pub record Definition : Type 0 where
  pub name : Bytes
  pub content : Content

-- what DEF makes: "a fresh unlocked definition"
abbrev pub defined : Bytes → Bytes → Definition
defined n v = record { name = n; content = macro (record { value = v; room = length v; locked = false }) }

unfoldable pub same : Bytes → Bytes → Bool
same [] [] = true
same [] (y ∷ ys) = false
same (x ∷ xs) [] = false
same (x ∷ xs) (y ∷ ys) = eqb x y && same xs ys

-- the newest definition with a name: its number, counted from the oldest, and its content
pub data Found : Type 0 where
  found : ℕ → Content → Found
  missing : Found

unfoldable pub newest : Bytes → List Definition → Found
newest n [] = missing
newest n (d ∷ ds) = let r = newest n ds in cond (same n d.name) (found (length ds) d.content) r

-- what alters a definition where it stands: UPDATE gives it a value, LOCK marks it
pub data Change : Type 0 where
  updates : Bytes → Change
  locks : Change

-- "its permitted length remains that of its DEF"; "the mark goes wherever this definition goes. Locking it again changes nothing"
abbrev pub changed_macro : Change → Macro → Macro
changed_macro (updates v) x = record { value = v; room = x.room; locked = x.locked }
changed_macro locks x = record { value = x.value; room = x.room; locked = true }

abbrev pub changed : Change → Content → Content
changed change (macro x) = macro (changed_macro change x)
changed change (built_in b) = built_in b

-- "UPDATE alters the value where the definition stands", and LOCK "marks" it there: the definition with this number
unfoldable pub altered : ℕ → Change → List Definition → List Definition
altered k change [] = []
altered k change (d ∷ ds) =
    let r = altered k change ds in
    cond (eqb k (length ds)) (record { name = d.name; content = changed change d.content } ∷ ds) (d ∷ r)

-- the oldest n definitions: those that stood when there were n
abbrev pub oldest : ℕ → List Definition → List Definition
oldest n ds = drop (length ds - n) ds

-- those made since there were n
abbrev pub newer : ℕ → List Definition → List Definition
newer n ds = take (length ds - n) ds

-- those made after there were n and before there were m, and all but those
abbrev pub between : ℕ → ℕ → List Definition → List Definition
between n m ds = newer n (oldest m ds)

abbrev pub without : ℕ → ℕ → List Definition → List Definition
without n m ds = newer m ds ++ oldest n ds

-- "live definitions (built-ins not counted)"
abbrev pub counts : Content → ℕ
counts (macro x) = 1
counts (built_in b) = 0

unfoldable pub live : List Definition → ℕ
live [] = 0
live (d ∷ ds) = counts d.content + live ds

unfoldable pub among : ℕ → List ℕ → Bool
among k [] = false
among k (j ∷ js) = eqb k j || among k js
