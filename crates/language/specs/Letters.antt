-- Document 02, One: "Scripts in whose expansion no body shows an unquoted `~` before such a letter expand as before".
use Rattle.std.specs.Prelude.{ℕ, ◌<◌, ◌≡◌, true, List, ◌∷◌}
use Rattle.language.specs.Signs.{Bytes, Table, Language, fetches, meaning, is_letter}
use Rattle.language.specs.Definitions.{Definition}
use Rattle.language.specs.Scanning.{Body, State, next, Limits, scans, start}

-- the body being read shows an unquoted `~` before a letter. It is the body as it is read, not the text: `<~><a>` puts the two
-- together.
pub record ShowsLetter (T : Table) (s : State) : Type 0 where
  pub body : Body
  pub bodies : List Body
  pub tilde : ℕ
  pub letter : ℕ
  pub rest : Bytes
  pub innermost : s.bodies ≡ body ∷ bodies
  pub shown : body.rest ≡ tilde ∷ letter ∷ rest
  pub unquoted : meaning T s.quotes tilde ≡ fetches
  pub lower_case : is_letter letter ≡ true

-- none does before any of the first n scans of a run
abbrev pub NoLetterShown : Limits → Language → ℕ → Bytes → List Definition → Type 0
NoLetterShown L G n t ds = (k : ℕ) (s : State) → k < n → scans L G k (next (start t ds)) ≡ next s → ShowsLetter G.table s → ⊥
