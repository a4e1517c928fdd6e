-- Document 01, Quotes: "Every collected string so has matched quotes: a body never shows an unquoted `>` and never ends
-- inside quotes."
use Rattle.std.specs.Prelude.{ℕ, zero, suc, pred, ◌≡◌, List, [], ◌∷◌}
use Rattle.std.specs.Prelude.{Option, None, Some}
use Rattle.std.specs.Prelude.{option_and_then}
use Rattle.language.specs.declared.signs.Sign.{Sign}
use Rattle.language.specs.declared.signs.Sign.TheVariants.{Plain, Dollar, Comma, Semicolon, Tilde, Quote, Unquote}
use Rattle.language.specs.Signs.{Bytes, Table, sign_of}
use Rattle.language.specs.Definitions.{Content, macro, built_in, Definition}
use Rattle.language.specs.Scanning.{Call, Body, State}

-- the depth of quotes after a sign that is read at depth q: none after an unquote where nothing is open
abbrev pub depth_by : Sign → ℕ → Option ℕ
depth_by Plain q = Some q
depth_by Dollar q = Some q
depth_by Comma q = Some q
depth_by Semicolon q = Some q
depth_by Tilde q = Some q
depth_by Quote q = Some (suc q)
depth_by Unquote zero = None
depth_by Unquote (suc q) = Some q

-- the depth of quotes after bytes that are read from depth q on
unfoldable pub depth_after : Table → ℕ → Bytes → Option ℕ
depth_after T q [] = Some q
depth_after T q (b ∷ bs) = option_and_then (λ k. depth_after T k bs) (depth_by (sign_of T b) q)

-- every quote is closed by an unquote, and every unquote closes one
abbrev pub Matched : Table → Bytes → Type 0
Matched T bs = depth_after T 0 bs ≡ Some 0

-- every element has a property
pub data All {A : Type 0} (P : A → Type 0) : List A → Type 0 where
  empty : All P []
  with : {x : A} {xs : List A} → P x → All P xs → All P (x ∷ xs)

-- of calls or bodies, the innermost first: that one as at depth q, the others as outside of quotes
abbrev pub Innermost : {A : Type 0} → (ℕ → A → Type 0) → ℕ → List A → Type 0
Innermost P q [] = Unit {0}
Innermost P q (x ∷ xs) = P q x × All (P 0) xs

-- a call being collected at depth q: of the quotes that are open the outermost is not in its hand
pub record CallMatches (T : Table) (q : ℕ) (c : Call) : Type 0 where
  pub ended : All (Matched T) c.ended
  pub hand : depth_after T 0 c.hand ≡ Some (pred q)

-- a body being read at depth q: its rest closes exactly what is open
pub record BodyMatches (T : Table) (q : ℕ) (B : Body) : Type 0 where
  pub list : All (Matched T) B.list
  pub rest : depth_after T q B.rest ≡ Some 0

-- a macro's value has matched quotes; a built-in has none
abbrev pub ContentMatches : Table → Content → Type 0
ContentMatches T (macro x) = Matched T x.value
ContentMatches T (built_in b) = Unit {0}

-- the value of a definition
abbrev pub ValueMatches : Table → Definition → Type 0
ValueMatches T d = ContentMatches T d.content

-- the depth that the output ends at: with no call open it is the output that the bytes go to
abbrev pub depth_written : ℕ → List Call → ℕ
depth_written q [] = pred q
depth_written q (c ∷ cs) = 0

-- Quotes are matched in everything that a run has collected, defined, written and has of its bodies to read, but for those
-- now open. Nothing is said of the text still to be read.
pub record QuotesMatch (T : Table) (s : State) : Type 0 where
  pub calls : Innermost (CallMatches T) s.quotes s.calls
  pub output : depth_after T 0 s.standing.output ≡ Some (depth_written s.quotes s.calls)
  pub bodies : Innermost (BodyMatches T) s.quotes s.bodies
  pub values : All (ValueMatches T) s.standing.definitions
