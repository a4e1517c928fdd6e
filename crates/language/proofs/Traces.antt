-- Document 02, Eight, by cases: what is left of both runs of numbers, with the report and the output of the run. Then the
-- refusals.
use Prim.Native.Nat.{ℕ}
use Prim.Native.String.{String}
use mathlib.Core.Path.{◌≡◌, refl}
use mathlib.Core.Bool.{Bool, cond, ◌&&◌}
use mathlib.Core.List.{List, [], ◌∷◌}
use lib.ListN.{length, replicate, take}
use Rattle.language.specs.Signs.{Bytes, ascii, Table, standard, meaning}
use Rattle.language.specs.Refusals.{refused_by, some_below, count_below}
use Rattle.language.specs.Definitions.{same, newest, altered, live, among}
use Rattle.language.specs.BuiltIns.{chosen, deed}
use Rattle.language.specs.Charge.{arguments_price, definitions_price}
use Rattle.language.specs.Ends.{Reported}
use Rattle.language.specs.Scanning.{run, scan, scans, calls_charge, bodies_charge, reading}
use Rattle.language.specs.Expansion.{lent, given, cleared}
use Rattle.language.specs.Origins.{writes, origins_from, numbers, GivenNumbers, given_with, ReturnedNumbers, expanded_origins}
use Rattle.decimal.specs.Operand.{operand, digits_from}
use Rattle.decimal.specs.Shortest.{digits_of}
use Rattle.language.proofs.Cases.{report, equal, same_report}
use Rattle.language.proofs.Table.{with}

-- a name, the cells lent, the output lent, the allowance, the script; the output, the origins and the rules as they are left, and
-- the report. Before, the output holds dots, the origins 80 and the rules 90.
abbrev Trace : Type 0
Trace = String × ℕ × ℕ × ℕ × String × String × List ℕ × List ℕ × Reported

abbrev traces : List Trace
traces =
    -- the stored cases
    ("each rule", 60, 8, 99, "a,$DEF,v,V;$DEF,k,<b,~1$VAL,v;$SIZE,xx;>;$k,c;$IF,1,<d>;", "a,b,cV2d", 1 ∷ 2 ∷ 46 ∷ 46 ∷ 46 ∷ 46 ∷ 46 ∷ 56 ∷ [], 1 ∷ 1 ∷ 2 ∷ 2 ∷ 3 ∷ 4 ∷ 5 ∷ 5 ∷ [], report 0 56 8 77 53 2) ∷
    ("a quoted stretch", 0, 6, 99, "x<y,z>~1", "xy,z~1", 1 ∷ 3 ∷ 4 ∷ 5 ∷ 7 ∷ 8 ∷ [], 1 ∷ 1 ∷ 1 ∷ 1 ∷ 1 ∷ 1 ∷ [], report 0 8 6 9 0 0) ∷
    ("parameters of two bytes", 30, 10, 99, "$DEF,k,<(~1)>;$k,ab;$k,$k,cd;;", "(ab)((cd))", 20 ∷ 20 ∷ 20 ∷ 20 ∷ 30 ∷ 30 ∷ 30 ∷ 30 ∷ 30 ∷ 30 ∷ [], 2 ∷ 3 ∷ 3 ∷ 2 ∷ 2 ∷ 3 ∷ 3 ∷ 3 ∷ 3 ∷ 2 ∷ [], report 0 30 10 43 29 1) ∷
    ("up to a fault", 30, 3, 99, "ab$DEF,k,<c$j;>;$k;", "abc", 1 ∷ 2 ∷ 19 ∷ [], 1 ∷ 1 ∷ 2 ∷ [], report 15 19 3 23 22 1) ∷
    ("nothing written", 20, 0, 99, "$DEF,k,v;", "", [], [], report 0 9 0 10 12 1) ∷
    -- what each rule takes in
    ("signs that are copied, and inner quotes", 0, 8, 99, "a;~<b<c>>", "a;~b<c>.", 1 ∷ 2 ∷ 3 ∷ 5 ∷ 6 ∷ 7 ∷ 8 ∷ 80 ∷ [], 1 ∷ 1 ∷ 1 ∷ 1 ∷ 1 ∷ 1 ∷ 1 ∷ 90 ∷ [], report 0 9 7 10 0 0) ∷
    ("quotes and commas in a body", 30, 6, 99, "$DEF,k,<a,<<b,~1>>>;$k;", "a,<b,~", 23 ∷ 23 ∷ 23 ∷ 23 ∷ 23 ∷ 23 ∷ [], 2 ∷ 2 ∷ 2 ∷ 2 ∷ 2 ∷ 2 ∷ [], report 5 23 6 31 22 1) ∷
    ("the name, fetched", 20, 2, 99, "$DEF,k,<~0>;$k;", "k.", 15 ∷ 80 ∷ [], 3 ∷ 90 ∷ [], report 0 15 1 18 14 1) ∷
    ("VAL's value, collected and fetched", 40, 1, 99, "$DEF,v,V;$DEF,k,<~1>;$k,$VAL,v;;", "V", 32 ∷ [], 3 ∷ [], report 0 32 1 35 32 2) ∷
    ("VAL in an argument, IF given", 40, 1, 99, "$DEF,v,V;$IF,1,$VAL,v;;", "V", 23 ∷ [], 5 ∷ [], report 0 23 1 24 27 1) ∷
    ("VAL hidden by a definition", 30, 2, 99, "$DEF,VAL,<x~1>;$VAL,k;", "xk", 22 ∷ 22 ∷ [], 2 ∷ 3 ∷ [], report 0 22 2 26 21 1) ∷
    ("the other built-ins", 30, 5, 99, "$+,1,2;$SEQ,a,a;$SIZE,b;$Rem,9,5;$-,3,3;", "31140", 7 ∷ 16 ∷ 24 ∷ 33 ∷ 40 ∷ [], 5 ∷ 5 ∷ 5 ∷ 5 ∷ 5 ∷ [], report 0 40 5 41 12 0) ∷
    ("a body in a body", 40, 4, 99, "$DEF,b,z;$DEF,a,<x$b;y>;.$a;", ".xzy", 25 ∷ 28 ∷ 28 ∷ 28 ∷ [], 1 ∷ 2 ∷ 2 ∷ 2 ∷ [], report 0 28 4 37 30 2) ∷
    -- places that are not written
    ("places past the written count", 0, 4, 99, "ab", "ab..", 1 ∷ 2 ∷ 80 ∷ 80 ∷ [], 1 ∷ 1 ∷ 90 ∷ 90 ∷ [], report 0 2 2 3 0 0) ∷
    ("both longer", 0, 2, 99, "ab", "ab", 1 ∷ 2 ∷ 80 ∷ 80 ∷ 80 ∷ [], 1 ∷ 1 ∷ 90 ∷ 90 ∷ 90 ∷ 90 ∷ 90 ∷ 90 ∷ 90 ∷ [], report 0 2 2 3 0 0) ∷
    ("3, the scans made", 0, 3, 2, "abc", "ab.", 1 ∷ 2 ∷ 80 ∷ [], 1 ∷ 1 ∷ 90 ∷ [], report 3 2 2 2 0 0) ∷
    ("4, the scan that is refused", 3, 3, 99, "ab$k;", "ab.", 1 ∷ 2 ∷ 80 ∷ [], 1 ∷ 1 ∷ 90 ∷ [], report 4 3 2 3 0 0) ∷
    ("5, a parameter whole or not at all", 20, 2, 99, "a$DEF,k,<~1>;$k,bc;", "a.", 1 ∷ 80 ∷ [], 1 ∷ 90 ∷ [], report 5 19 1 20 17 1) ∷
    []

abbrev lends : Table → ℕ → Bytes → ℕ → ℕ → ℕ → Bytes → GivenNumbers
lends signs cells output origins rules allowance t =
    given_with (given signs t (lent (replicate cells 7) output) allowance) (numbers (replicate origins 80) (replicate rules 90))

abbrev leaves : ReturnedNumbers → List ℕ → Bytes → List ℕ → List ℕ → Reported → Bool
leaves x cells output origins rules report =
    (same_report x.returned.report report && (equal x.returned.lent.cells cells && equal x.returned.lent.output output))
    && (equal x.numbers.origins origins && equal x.numbers.rules rules)

abbrev by_trace : Trace → Bool
by_trace c =
    leaves (expanded_origins (lends standard c.1 (replicate c.2 46) (length c.6) (length c.7) c.3 (ascii c.4))) (replicate c.1 0) (ascii c.5) c.6 c.7 c.8

-- the names of those that do not hold
abbrev failing : {A : Type 0} → (A → String) → (A → Bool) → List A → List String
failing name holds [] = []
failing name holds (c ∷ cs) = let r = failing name holds cs in cond (holds c) r (name c ∷ r)

pub traces-left : failing (λ c. c.0) by_trace traces ≡ []
unfolding expanded_origins refused_by some_below count_below cleared run scan scans writes origins_from same newest altered live among chosen deed arguments_price definitions_price calls_charge bodies_charge reading meaning operand digits_from digits_of
traces-left = refl

-- Refusals -------------------------------------------------------------------------------------------------------------

-- a name, the signs, the output, the origins and the rules lent, and the outcome. Nothing is touched.
abbrev Refused : Type 0
Refused = String × Table × ℕ × ℕ × ℕ × ℕ

abbrev refused : List Refused
refused =
    ("35, origins one short", standard, 8, 7, 8, 35) ∷
    ("35, rules one short", standard, 8, 8, 7, 35) ∷
    ("35, both short", standard, 8, 3, 0, 35) ∷
    ("35, though as many numbers as bytes are written", standard, 3, 2, 2, 35) ∷
    ("30 before 35", take 255 standard, 8, 0, 8, 30) ∷
    ("31 before 35", with ((62, 0) ∷ []), 8, 8, 0, 31) ∷
    ("32 before 35", with ((36, 0) ∷ (107, 1) ∷ []), 8, 0, 0, 32) ∷
    []

abbrev by_refused : Refused → Bool
by_refused c =
    let output : Bytes = replicate c.2 46 in
    leaves (expanded_origins (lends c.1 4 output c.3 c.4 99 (ascii "ab"))) (replicate 4 7) output (replicate c.3 80) (replicate c.4 90) (report c.5 0 0 0 0 0)

pub traces-refused : failing (λ c. c.0) by_refused refused ≡ []
unfolding expanded_origins refused_by some_below count_below
traces-refused = refl
