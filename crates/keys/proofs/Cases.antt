-- Keys and their scripts, computed: what a wrong definition would answer otherwise.
use Prim.Native.Nat.{ℕ}
use Prim.Native.String.{String}
use mathlib.Core.Path.{◌≡◌, refl}
use mathlib.Core.Bool.{Bool, true, false, cond, ◌&&◌}
use mathlib.Core.List.{List, [], ◌∷◌}
use lib.ListN.{take}
use lib.Dec.{eqb}
use Rattle.language.specs.Signs.{Bytes, ascii, Table, standard}
use Rattle.language.specs.Refusals.{refused_by, some_below, count_below}
use Rattle.language.specs.Definitions.{same}
use Rattle.language.specs.Matched.{depth_after}
use Rattle.language.proofs.Table.{with}
use Rattle.keys.specs.Scripts.{Answered, asked, number_of, last_below, too_long, answered}

-- `[` and `]` for `<` and `>`
abbrev brackets : Table
brackets = with ((60, 0) ∷ (62, 0) ∷ (91, 5) ∷ (93, 6) ∷ [])

-- a name, the signs, the wanted bytes, the output lent, and what is answered: outcome, length and the output then
abbrev Case : Type 0
Case = String × Table × String × String × ℕ × ℕ × String

abbrev cases : List Case
cases =
    ("a key name", standard, "START", "wxyzwxyz", 0, 7, "<START>z") ∷
    ("no keys", standard, "", "wxyz", 0, 2, "<>yz") ∷
    ("an output as long as the script", standard, "OK", "wxyz", 0, 4, "<OK>") ∷
    ("5, one byte short", standard, "OK", "wxy", 5, 0, "wxy") ∷
    ("5, no output", standard, "", "", 5, 0, "") ∷
    ("quotes in quotes", standard, "a<<b>c>d", "wxyzwxyzwxyz", 0, 10, "<a<<b>c>d>yz") ∷
    ("quotes side by side", standard, "<><>", "wxyzwxyz", 0, 6, "<<><>>yz") ∷
    ("other signs are bytes", standard, "$k,1;~2", "wxyzwxyzwxyz", 0, 9, "<$k,1;~2>xyz") ∷
    ("34, a quote left open", standard, "a<b", "wxyzwxyz", 34, 0, "wxyzwxyz") ∷
    ("34, an unquote that closes nothing", standard, "a>b", "wxyzwxyz", 34, 0, "wxyzwxyz") ∷
    ("34, an unquote before its quote", standard, "><", "wxyzwxyz", 34, 0, "wxyzwxyz") ∷
    ("34, more quotes than unquotes", standard, "<<a>", "wxyzwxyz", 34, 0, "wxyzwxyz") ∷
    ("34 before 5", standard, "<", "w", 34, 0, "w") ∷
    ("quotes of other signs", brackets, "a[b]c", "wxyzwxyz", 0, 7, "[a[b]c]z") ∷
    ("the standard quotes are bytes then", brackets, ">a<", "wxyzwxyz", 0, 5, "[>a<]xyz") ∷
    ("34 by other quotes", brackets, "]", "wxyz", 34, 0, "wxyz") ∷
    ("the quotes exchanged", with ((60, 6) ∷ (62, 5) ∷ []), ">a<", "wxyzwxyz", 0, 5, ">>a<<xyz") ∷
    ("the last byte and the first", with ((60, 0) ∷ (62, 0) ∷ (255, 5) ∷ (0, 6) ∷ []), "<", "w", 5, 0, "w") ∷
    ("30 before 34", take 255 standard, "<", "w", 30, 0, "w") ∷
    ("30 by an entry", with ((60, 7) ∷ []), "OK", "wxyz", 30, 0, "wxyz") ∷
    ("31 before 34", with ((62, 0) ∷ []), "<", "w", 31, 0, "w") ∷
    ("32 before 5", with ((60, 0) ∷ (65, 5) ∷ []), "OK", "w", 32, 0, "w") ∷
    []

abbrev is_answer : Answered → ℕ → ℕ → Bytes → Bool
is_answer x outcome length output = eqb x.outcome outcome && (eqb x.length length && same x.output output)

abbrev holds : Case → Bool
holds c = is_answer (answered (asked c.1 (ascii c.2) (ascii c.3))) c.4 c.5 (ascii c.6)

-- the names of those that are answered otherwise
abbrev failing : List Case → List String
failing [] = []
failing (c ∷ cs) = let r = failing cs in cond (holds c) r (c.0 ∷ r)

pub answers : failing cases ≡ []
unfolding answered refused_by some_below count_below last_below depth_after same
answers = refl

-- sizes at the limits and over them
pub sizes_at_the_limits : too_long 65534 65536 ≡ false
sizes_at_the_limits = refl

pub sizes_over_a_limit : (too_long 65535 0 ≡ true) × (too_long 0 65537 ≡ true)
sizes_over_a_limit = (refl, refl)

-- the recorder's number
pub numbers : (number_of (record { outcome = 0; length = 7; output = [] }) ≡ 7) × (number_of (record { outcome = 34; length = 0; output = [] }) ≡ 146028888064)
numbers = (refl, refl)
