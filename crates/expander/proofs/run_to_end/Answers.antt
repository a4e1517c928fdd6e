-- What the machine came to from its fresh standing is the end of the run, and what it noted are its origins.
use native.Mathlib.Omega.{arith}
use Rattle.language.proofs.Octets.{octets_of}
use Rattle.machine.specs.Index.{no_heads}
use Rattle.expander.proofs.Running.{ran}
use Rattle.expander.proofs.Noting.{noted_all}
use Rattle.expander.proofs.run_to_end.Goals as goal

pub returns : goal.returns
unfolding no_heads
returns c =
    let moved = rw c.new-run.ensures at c.go_on.ensures in
    let octets = octets_of c.args.text.now (λ i. (c.type_inv.text i).fits) in (
      ran _ _ _ _ _ _ _ moved.0 c.requires.1 octets (omega (arith, c.ranges.allowance.fits)),
      noted_all _ _ _ _ _ _ moved.1 c.requires.1 c.requires.0 octets (omega (arith, c.ranges.allowance.fits)),
    )
