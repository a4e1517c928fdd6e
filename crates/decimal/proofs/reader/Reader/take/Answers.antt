-- The reader after a byte has taken it too, whatever its stage.
use native.Mathlib.Omega.{arith}
use Rattle.std.proofs.lemmas.Grind.{common_steps}
use Rattle.decimal.proofs.Reading.{took_more}
use Rattle.decimal.proofs.reader.Reader.take.Goals as goal

pub returns-in-Start : goal.returns-in-Start
returns-in-Start c = took_more _ _ (grind (arith, common_steps))

pub returns-in-Signed : goal.returns-in-Signed
returns-in-Signed c = took_more _ _ (grind (arith, common_steps))

pub returns-in-Refused : goal.returns-in-Refused
returns-in-Refused c = took_more _ _ (grind (arith, common_steps))
