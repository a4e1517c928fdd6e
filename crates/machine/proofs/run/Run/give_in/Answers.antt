-- What the cells have no room for is refused.
use borrow.Author.Tests.{le-ltb}
use Rattle.machine.proofs.run.Run.give_in.Goals as goal

pub returns : goal.returns
returns c = λ o. rw (le-ltb _ _ c.if-cells-self.false, c.release.ensures o, c.charged.ensures)
