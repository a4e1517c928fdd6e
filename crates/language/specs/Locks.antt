-- Document 02, Nine: "the mark goes wherever this definition goes". Where a definition goes: its number after each scan, as long as
-- it stands.
use Rattle.std.specs.Prelude.{ℕ, suc, ◌+◌, ◌-◌, ◌≡◌, Bool, false, cond, List, [], ◌∷◌, length, ltb}
use Rattle.std.specs.Prelude.{Option, None, Some}
use Rattle.language.specs.Signs.{Bytes, Language}
use Rattle.language.specs.Definitions.{Content, macro, built_in, Definition, defined, Change, changed}
use Rattle.language.specs.Scanning.{Call, Body, State, next, Limits, scan}

-- d has this number among the definitions, counted from the oldest
pub data Numbered (d : Definition) (k : ℕ) : List Definition → Type 0 where
  here : {ds : List Definition} → k ≡ length ds → Numbered d k (d ∷ ds)
  there : {e : Definition} {ds : List Definition} → Numbered d k ds → Numbered d k (e ∷ ds)

abbrev pub is_locked : Content → Bool
is_locked (macro x) = x.locked
is_locked (built_in b) = false

-- What goes in a scan, and what stays ----------------------------------------------------------------------------------

-- the calls under way: being collected, or their bodies being read
abbrev pub under_way : State → ℕ
under_way s = length s.calls + length s.bodies

-- "the list of name and parameters goes, with every definition made while it was collected": from one number up to another, n
-- being their count. Of a built-in's call,
abbrev pub list_of_call : List Call → ℕ → ℕ × ℕ
list_of_call [] n = (n, n)
list_of_call (c ∷ cs) n = (c.stood, n)

-- and of the call whose body ends
abbrev pub list_of_body : List Body → ℕ → ℕ × ℕ
list_of_body [] n = (n, n)
list_of_body (b ∷ bs) n = (b.opened, b.applied)

-- the definitions that go in a scan from s to s₁: where no call ends, none
abbrev pub going : State → State → ℕ × ℕ
going s s₁ =
    let n = length s.standing.definitions in
    cond (ltb (length s₁.bodies) (length s.bodies)) (list_of_body s.bodies n)
    (cond (ltb (under_way s₁) (under_way s)) (list_of_call s.calls n) (n, n))

-- the number that definition number k has when they are gone; none where it is one of them
abbrev pub number_after : ℕ × ℕ → ℕ → Option ℕ
number_after g k = cond (ltb k g.0) (Some k) (cond (ltb k g.1) None (Some (k - (g.1 - g.0))))

-- As long as it stands -------------------------------------------------------------------------------------------------

-- definition number k of s stands from scan to scan, and is number j of s₂
pub data StandsTo (L : Limits) (G : Language) (s₂ : State) (j : ℕ) : State → ℕ → Type 0 where
  arrived : {k : ℕ} → k ≡ j → StandsTo L G s₂ j s₂ k
  goes : {s s₁ : State} {k i : ℕ} → scan L G s ≡ next s₁ → number_after (going s s₁) k ≡ Some i → StandsTo L G s₂ j s₁ i → StandsTo L G s₂ j s k

-- a definition behind a scan: it is as it was, or UPDATE or LOCK has altered it
pub data Becomes (d : Definition) : Definition → Type 0 where
  unaltered : Becomes d d
  changes : (change : Change) → Becomes d (record { name = d.name; content = changed change d.content })

-- number j of the definitions behind a scan, so many, where ds stood before it and those from g.0 up to g.1 went: it stood
-- before; or it is the newest, which DEF made
pub data ComesFrom (g : ℕ × ℕ) (ds : List Definition) (count j : ℕ) : Definition → Type 0 where
  stood : {k : ℕ} {d e : Definition} → Numbered d k ds → number_after g k ≡ Some j → Becomes d e → ComesFrom g ds count j e
  made : {n v : Bytes} → suc j ≡ count → ComesFrom g ds count j (defined n v)
