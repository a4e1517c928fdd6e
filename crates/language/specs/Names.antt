-- Document 02, Five: "An empty name that is looked up is always 15."
use Rattle.std.specs.Prelude.{ℕ, ◌<◌, ◌+◌, ◌≡◌, true, cond, List, [], ◌∷◌, length}
use Rattle.language.specs.Signs.{Bytes, Table, applies, meaning}
use Rattle.language.specs.Outcomes
use Rattle.language.specs.declared.built_ins.BuiltIn.{BuiltIn}
use Rattle.language.specs.declared.built_ins.BuiltIn.TheVariants.{Val, Update, Lock}
use Rattle.language.specs.Definitions.{built_in, Definition, found, newest}
use Rattle.language.specs.BuiltIns.{needs, parameter}
use Rattle.language.specs.Charge.{end_price}
use Rattle.language.specs.Ends.{End}
use Rattle.language.specs.Scanning.{Call, Body, State, Step, stop, charge, Limits, allows, list_of, own_call}
use Rattle.language.specs.Matched.{All}

-- no definition of a list has an empty name
abbrev pub HaveNames : List Definition → Type 0
HaveNames ds = All (λ d. 0 < length d.name) ds

-- the built-ins that look up a name given to them
pub data LooksUp : BuiltIn → Type 0 where
  by_val : LooksUp Val
  by_update : LooksUp Update
  by_lock : LooksUp Lock

-- a call with this list of name and parameters looks up an empty name where the definitions ds stand: its own, or the one that
-- it gives to VAL, UPDATE or LOCK
pub data LooksUpEmpty (ds : List Definition) (list : List Bytes) : Type 0 where
  called : parameter 0 list ≡ [] → LooksUpEmpty ds list
  given : {k : ℕ} {b : BuiltIn} → LooksUp b → newest (parameter 0 list) ds ≡ found k (built_in b) → needs b < length list → parameter 1 list ≡ [] → LooksUpEmpty ds list

-- the next byte is an unquoted `;`: "Bytes come from the innermost body being read, else from the text."
pub data ShowsSemicolon (T : Table) (s : State) : Type 0 where
  in_text : {b : ℕ} {t : Bytes} → s.bodies ≡ [] → s.text ≡ b ∷ t → meaning T s.quotes b ≡ applies → ShowsSemicolon T s
  in_body : {B : Body} {Bs : List Body} {b : ℕ} {r : Bytes}
      → s.bodies ≡ B ∷ Bs → B.rest ≡ b ∷ r → meaning T s.quotes b ≡ applies → ShowsSemicolon T s

-- the next scan applies the innermost call, which looks up an empty name
pub record AppliesEmpty (T : Table) (s : State) : Type 0 where
  pub call : Call
  pub around : List Call
  pub innermost : s.calls ≡ call ∷ around
  pub own : own_call s ≡ true
  pub shown : ShowsSemicolon T s
  pub looks_up : LooksUpEmpty s.standing.definitions (list_of call)

-- what that scan ends with. "Checks at `;`: .. 4 for its own cell, 15"
abbrev pub lookup_outcome : Limits → State → ℕ
lookup_outcome L s = cond (allows L.cells (charge s + end_price)) Outcomes.not_defined Outcomes.no_cells_left

abbrev pub EndsWith : ℕ → Step → Type 0
EndsWith n x = (e : End) × (x ≡ stop e) × (e.outcome ≡ n)
