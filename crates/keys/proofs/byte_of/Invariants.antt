-- From `byte` on none has the kind.
use mathlib.Core.Path.{◌≡◌}
use Rattle.language.specs.Refusals.{has_kind}
use Rattle.keys.specs.Scripts.{last_below, byte_of}
use Rattle.keys.proofs.byte_of.Given as goal

abbrev pub invariant-loop-byte : goal.invariant-loop-byte
invariant-loop-byte l = byte_of l.table l.kind ≡ last_below l.byte (has_kind l.table l.kind)
