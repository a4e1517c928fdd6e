-- What a reader has found is what its bytes are, whatever its stage.
use native.Mathlib.Omega.{arith}
use Rattle.std.proofs.lemmas.Grind.{common_steps}
use Rattle.decimal.proofs.Reading.{took_found}
use Rattle.decimal.proofs.reader.Reader.finish.Goals as goal

pub returns-in-Digits : goal.returns-in-Digits
returns-in-Digits c = took_found _ (grind (arith, common_steps))

pub returns-in-Start : goal.returns-in-Start
returns-in-Start c = took_found _ (grind (arith, common_steps))
