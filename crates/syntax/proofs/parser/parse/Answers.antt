-- The first character tells what the line can be.
use Rattle.std.proofs.Common.{sym, ap, ◌∙◌}
use Rattle.text.specs.Text.{is_small}
use Rattle.syntax.proofs.Heads.{by_label, by_branch, by_instruction}
use Rattle.syntax.proofs.parser.parse.Goals as goal

pub returns-then-is_small : goal.returns-then-is_small
returns-then-is_small c =
    by_label c.args.text.now c.args.at
    (sym (ap is_small c.byte_at-first.ensures) ∙ sym c.is_small.ensures ∙ c.if-is_small.true) _ c.label.ensures

pub returns-then-first-eq66 : goal.returns-then-first-eq66
returns-then-first-eq66 c =
    by_branch c.args.text.now c.args.at (sym c.byte_at-first.ensures ∙ c.if-first-eq66.true) _ c.branch-text.ensures

pub returns : goal.returns
returns c =
    by_instruction c.args.text.now c.args.at
    (sym (ap is_small c.byte_at-first.ensures) ∙ sym c.is_small.ensures ∙ c.if-is_small.false) _
    c.instruction.ensures
