-- The standard table: one computed test shows that exactly the six sign bytes are non-zero. Then tables that are accepted, and
-- tables that are refused, with the outcome.
use Prim.Native.Nat.{ℕ, zero, suc}
use Prim.Native.String.{String}
use mathlib.Core.Path.{◌≡◌, refl}
use mathlib.Core.Bool.{Bool, true, false, cond}
use mathlib.Core.List.{List, [], ◌∷◌, ◌++◌}
use Rattle.std.specs.Prelude.{Option, None, Some}
use lib.ListN.{length, set, take}
use lib.Dec.{eqb}
use Rattle.language.specs.Signs.{Bytes, ascii, Table, standard}
use Rattle.language.specs.Refusals.{refused_by, some_below, count_below, is_reserved, sign_refusals}

-- the bytes from b on whose entry is not zero, each with its kind
abbrev signs_from : ℕ → Table → List (ℕ × ℕ)
signs_from b [] = []
signs_from b (k ∷ ks) = let r = signs_from (suc b) ks in cond (eqb k 0) r ((b, k) ∷ r)

pub standard-length : length standard ≡ 256
standard-length = refl

pub standard_signs : signs_from 0 standard ≡ (36, 1) ∷ (44, 2) ∷ (59, 3) ∷ (60, 5) ∷ (62, 6) ∷ (126, 4) ∷ []
standard_signs = refl

-- they are `$` `,` `;` `<` `>` `~`
pub standard_bytes : ascii "$,;<>~" ≡ 36 ∷ 44 ∷ 59 ∷ 60 ∷ 62 ∷ 126 ∷ []
standard_bytes = refl

-- The bytes that may be no signs -----------------------------------------------------------------------------------------

-- those of n bytes from b on
abbrev reserved_from : ℕ → ℕ → Bytes
reserved_from b zero = []
reserved_from b (suc n) = let r = reserved_from (suc b) n in cond (is_reserved b) (b ∷ r) r

pub reserved_bytes : reserved_from 0 256 ≡ ascii "*+-0123456789ABCDEFGHIJKLMNOPQRSTUVWXYZabcdefghijklmnopqrstuvwxyz"
reserved_bytes = refl

-- Tables accepted and refused ----------------------------------------------------------------------------------------------

-- the standard table with some bytes given other kinds, the first last
abbrev pub with : List (ℕ × ℕ) → Table
with [] = standard
with (x ∷ more) = set (with more) x.0 x.1

-- a name, the table, and the outcome that it is refused with
abbrev Judged : Type 0
Judged = String × Table × Option ℕ

abbrev tables : List Judged
tables =
    ("standard", standard, None) ∷
    ("`#` for `$`", with ((36, 0) ∷ (35, 1) ∷ []), None) ∷
    ("`$` and `;` exchanged", with ((36, 3) ∷ (59, 1) ∷ []), None) ∷
    ("the first byte and the last", with ((36, 0) ∷ (0, 1) ∷ (62, 0) ∷ (255, 6) ∷ []), None) ∷
    ("beside letters and digits", with ((36, 0) ∷ (44, 0) ∷ (59, 0) ∷ (126, 0) ∷ (60, 0) ∷ (62, 0) ∷ (47, 1) ∷ (58, 2) ∷ (64, 3) ∷ (91, 4) ∷ (96, 5) ∷ (123, 6) ∷ []), None) ∷
    ("beside `*`, `+` and `-`", with ((36, 0) ∷ (59, 0) ∷ (41, 1) ∷ (46, 3) ∷ []), None) ∷
    -- 30
    ("no entries", [], Some 30) ∷
    ("255 entries", take 255 standard, Some 30) ∷
    ("257 entries", standard ++ (0 ∷ []), Some 30) ∷
    ("7 for the first byte", with ((0, 7) ∷ []), Some 30) ∷
    ("7 for the last byte", with ((255, 7) ∷ []), Some 30) ∷
    ("255 for `A`", with ((65, 255) ∷ []), Some 30) ∷
    ("7 for `>`: 30 before 31", with ((62, 7) ∷ []), Some 30) ∷
    -- 31
    ("no `$`", with ((36, 0) ∷ []), Some 31) ∷
    ("no `,`", with ((44, 0) ∷ []), Some 31) ∷
    ("no `;`", with ((59, 0) ∷ []), Some 31) ∷
    ("no `~`", with ((126, 0) ∷ []), Some 31) ∷
    ("no `<`", with ((60, 0) ∷ []), Some 31) ∷
    ("no `>`", with ((62, 0) ∷ []), Some 31) ∷
    ("1 for the first byte too", with ((0, 1) ∷ []), Some 31) ∷
    ("2 for another byte too", with ((35, 2) ∷ []), Some 31) ∷
    ("3 for another byte too", with ((35, 3) ∷ []), Some 31) ∷
    ("4 for another byte too", with ((35, 4) ∷ []), Some 31) ∷
    ("5 for another byte too", with ((35, 5) ∷ []), Some 31) ∷
    ("6 for the last byte too", with ((255, 6) ∷ []), Some 31) ∷
    ("`>` for `<`", with ((60, 6) ∷ (62, 0) ∷ []), Some 31) ∷
    ("1 for `A` too: 31 before 32", with ((65, 1) ∷ []), Some 31) ∷
    -- 32
    ("`A` for `$`", with ((36, 0) ∷ (65, 1) ∷ []), Some 32) ∷
    ("`Z` for `,`", with ((44, 0) ∷ (90, 2) ∷ []), Some 32) ∷
    ("`a` for `;`", with ((59, 0) ∷ (97, 3) ∷ []), Some 32) ∷
    ("`z` for `~`", with ((126, 0) ∷ (122, 4) ∷ []), Some 32) ∷
    ("`0` for `<`", with ((60, 0) ∷ (48, 5) ∷ []), Some 32) ∷
    ("`9` for `>`", with ((62, 0) ∷ (57, 6) ∷ []), Some 32) ∷
    ("`+` for `$`", with ((36, 0) ∷ (43, 1) ∷ []), Some 32) ∷
    ("`-` for `>`", with ((62, 0) ∷ (45, 6) ∷ []), Some 32) ∷
    ("`*` for `;`", with ((59, 0) ∷ (42, 3) ∷ []), Some 32) ∷
    []

abbrev same_outcome : Option ℕ → Option ℕ → Bool
same_outcome None None = true
same_outcome None (Some k) = false
same_outcome (Some j) None = false
same_outcome (Some j) (Some k) = eqb j k

-- the names of those that come to something else
abbrev misjudged : List Judged → List String
misjudged [] = []
misjudged (x ∷ xs) = let r = misjudged xs in cond (same_outcome (refused_by (sign_refusals x.1)) x.2) r (x.0 ∷ r)

pub tables_judged : misjudged tables ≡ []
unfolding refused_by some_below count_below
tables_judged = refl
