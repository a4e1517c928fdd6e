-- Document 01: "It always writes one line to standard error: the six report values in the order above, decimal, single
-- spaces, line feed."
use Rattle.std.specs.Prelude.{ℕ, List, [], ◌∷◌, ◌++◌}
use Rattle.decimal.specs.Shortest.{digits}

-- a number and the byte behind it
abbrev pub item : ℕ → ℕ → List ℕ
item n end = digits n ++ (end ∷ [])

abbrev pub report_line : ℕ → ℕ → ℕ → ℕ → ℕ → ℕ → List ℕ
report_line outcome read written scans most live =
    ((((item outcome 32 ++ item read 32) ++ item written 32) ++ item scans 32) ++ item most 32) ++ item live 10
