-- What the bytes of a text are: a statement of each of them.
use Prim.Native.Nat.{ℕ, zero, suc, ◌≤◌, ◌<◌}
use mathlib.Core.Path.{◌≡◌}
use mathlib.Core.Logic.{◌⊎◌, ◌≢◌}
use mathlib.Core.List.{List, [], ◌∷◌, ◌++◌}
use native.Mathlib.Omega.{arith}
use lib.ListN.{length, get_or}

-- it holds of each byte
abbrev pub Each : (ℕ → Type 0) → List ℕ → Type 0
Each P [] = Unit {0}
Each P (b ∷ t) = P b × Each P t

-- a byte from `0` to `9`
abbrev pub Digit : ℕ → Type 0
Digit b = (48 ≤ b) × (b ≤ 57)

-- a byte of a decimal: `-` or a digit
abbrev pub OfDecimal : ℕ → Type 0
OfDecimal b = (b ≡ 45) ⊎ Digit b

-- no sign of the macrogenerator: none of `$` `,` `;` `~` `<` `>`
abbrev pub Unmarked : ℕ → Type 0
Unmarked b = (b ≢ 36) × (b ≢ 44) × (b ≢ 59) × (b ≢ 126) × (b ≢ 60) × (b ≢ 62)

-- of a text behind another
pub each_append : (P : ℕ → Type 0) (s t : List ℕ) → Each P s → Each P t → Each P (s ++ t)
each_append P [] t h k = k
each_append P (b ∷ s) t h k = (h.0, each_append P s t h.1 k)

-- what a statement implies
pub each_weaken : (P Q : ℕ → Type 0) (t : List ℕ) → ((b : ℕ) → P b → Q b) → Each P t → Each Q t
each_weaken P Q [] f h = tt
each_weaken P Q (b ∷ t) f h = (f b h.0, each_weaken P Q t f h.1)

-- of the byte at a place
pub each_at : (P : ℕ → Type 0) (t : List ℕ) (i : ℕ) → Each P t → i < length t → P (get_or t i 0)
each_at P [] i h k = absurd (omega arith)
each_at P (b ∷ t) zero h k = h.0
each_at P (b ∷ t) (suc i) h k = each_at P t i h.1 (omega arith)
