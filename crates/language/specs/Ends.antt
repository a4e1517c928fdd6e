-- Document 01, What a run reports.
use Rattle.std.specs.Prelude.{ℕ, List, length}
use Rattle.language.specs.Signs.{Bytes}
use Rattle.language.specs.Definitions.{Definition, live}

-- How a run ended, or substitution: the definitions are those standing before a refused scan.
pub record End : Type 0 where
  pub outcome : ℕ
  pub output : Bytes
  pub read : ℕ
  pub scans : ℕ
  pub most : ℕ
  pub definitions : List Definition

-- "A run reports outcome, bytes read, bytes written, scans, most cells charged, and live definitions (built-ins not counted)."
pub record Reported : Type 0 where
  pub outcome : ℕ
  pub read : ℕ
  pub written : ℕ
  pub scans : ℕ
  pub most : ℕ
  pub live : ℕ

abbrev pub reported : End → Reported
reported e = record {
  outcome = e.outcome;
  read = e.read;
  written = length e.output;
  scans = e.scans;
  most = e.most;
  live = live e.definitions;
}
