-- The body of the definition that was found is read.
use mathlib.Core.Path.{ap}
use Rattle.machine.specs.Machine.{keeping}
use Rattle.machine.proofs.run.Run.apply_marked.Goals as goal

pub returns : goal.returns
returns c = rw (← c.in-Some.ensures.found) (ap (keeping c.args.heads.now) (c.read_body.ensures _))
