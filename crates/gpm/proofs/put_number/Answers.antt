-- The line holds what stood before, the number's digits and the byte.
use Rattle.std.proofs.Common.{arith, append_assoc}
use Rattle.std.proofs.lemmas.Grind.{common_steps}
use Rattle.std.proofs.lemmas.List.{take_more_set}
use Rattle.std.proofs.lemmas.Slice.{take-put_mid}
use Rattle.gpm.proofs.Numbers.{fewest_shortest}
use Rattle.gpm.proofs.put_number.Goals as goal

pub returns-clause-line_after : goal.returns-clause-line_after
returns-clause-line_after c = grind (arith, common_steps, take_more_set, take-put_mid, append_assoc, fewest_shortest)
