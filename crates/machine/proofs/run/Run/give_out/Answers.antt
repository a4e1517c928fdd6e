-- What the output has no room for is refused.
use borrow.Author.Tests.{le-ltb}
use Rattle.machine.proofs.run.Run.give_out.Goals as goal

pub returns : goal.returns
returns c = λ o e. rw (e, le-ltb _ _ c.if-output-self.false, c.release.ensures o, c.wrote.ensures)
