-- What is in range moves on by its portion and notes what it writes, and what is out of range is refused.
use mathlib.Core.Path.{sym, ◌∙◌}
use mathlib.Core.Bool.{true≢false}
use Rattle.machine.proofs.Advancing.{in_range_lem}
use Rattle.machine.proofs.go_on.Goals as goal

pub advance_noting-requires : goal.advance_noting-requires
advance_noting-requires c =
    (in_range_lem _ _ _ (sym c.is_in_range.ensures ∙ c.if-is_in_range.true), c.portion-due.ensures.1)

pub returns-then-is_in_range : goal.returns-then-is_in_range
returns-then-is_in_range c =
    let yes = sym c.is_in_range.ensures ∙ c.if-is_in_range.true in
    let p = c.portion-due.ensures.0 in
    let a = c.advance_noting.ensures in (
      record { refused = λ e. absurd (true≢false (sym yes ∙ e)); advanced = λ e. rw p at a.0 },
      record { refused = λ e. absurd (true≢false (sym yes ∙ e)); kept = a.2; noted = λ e. rw p at a.1 },
    )
