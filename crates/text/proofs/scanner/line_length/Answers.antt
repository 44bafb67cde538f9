-- The line is as long as its line feed is far, or goes to the end of the text.
use Rattle.std.proofs.Common.{arith, rules, sym, length, ◌≤◌}
use Rattle.text.proofs.Feeds.{line_to, line_whole}
use Rattle.text.proofs.scanner.line_length.Goals as goal

pub returns-in-Some : goal.returns-in-Some
returns-in-Some c =
    let inside : c.in-Some.i ≤ length c.args.text.now = search rules in
    (sym (line_to c.args.text.now c.in-Some.i (search rules) (search rules) (search rules)), inside)

pub returns-in-None : goal.returns-in-None
returns-in-None c = (sym (line_whole c.args.text.now (search rules)), omega arith)
