-- Quotes that do not match first; where they match the lengths decide.
use Rattle.std.proofs.Common.{rules, ◌≡◌, true, false, sym}
use Rattle.keys.specs.Scripts.{asked, matched}
use Rattle.keys.proofs.Answers.{refused_unmatched, refused_short, refused_not}
use Rattle.keys.proofs.check_script.Goals as goal

pub returns-then-not-quotes_match : goal.returns-then-not-quotes_match
returns-then-not-quotes_match c =
    let a = c.args in
    let unmatched : matched a.table.now a.wanted.now ≡ false = search rules in
    sym (refused_unmatched (asked a.table.now a.wanted.now a.output.now) unmatched)

pub returns-then-output-wanted : goal.returns-then-output-wanted
returns-then-output-wanted c =
    let a = c.args in
    let match : matched a.table.now a.wanted.now ≡ true = search rules in
    sym (refused_short (asked a.table.now a.wanted.now a.output.now) match c.if-output-wanted.true)

pub returns : goal.returns
returns c =
    let a = c.args in
    let match : matched a.table.now a.wanted.now ≡ true = search rules in
    sym (refused_not (asked a.table.now a.wanted.now a.output.now) match c.if-output-wanted.false)
