-- A comma, a #, a number, a bracket and the end of the line.
use Rattle.std.proofs.Common.{sym, ◌∙◌}
use Rattle.syntax.proofs.Arguments.{no_comma, no_hash, no_offset, no_bracket, offset_ends}
use Rattle.syntax.proofs.operands.offset_line.Goals as goal

pub returns-then-not-two_at : goal.returns-then-not-two_at
returns-then-not-two_at c =
    no_comma c.args.text.now c.args.at c.args.row c.args.a c.args.b (sym c.two_at.ensures ∙ c.if-not-two_at.true)

pub returns-then-byte_at-ne35 : goal.returns-then-byte_at-ne35
returns-then-byte_at-ne35 c =
    no_hash c.args.text.now c.args.at c.args.row c.args.a c.args.b (sym c.two_at.ensures ∙ c.if-not-two_at.false)
    (λ q. c.if-byte_at-ne35.true (c.byte_at.ensures ∙ q))

pub returns-in_err-n : goal.returns-in_err-n
returns-in_err-n c =
    rw c.from_residual.ensures
    (no_offset c.args.text.now c.args.at c.args.row c.args.a c.args.b (sym c.two_at.ensures ∙ c.if-not-two_at.false)
    (sym c.byte_at.ensures ∙ c.if-byte_at-ne35.false) c.in_err-n.ensures)

pub returns-then-byte_at-ne93 : goal.returns-then-byte_at-ne93
returns-then-byte_at-ne93 c =
    no_bracket c.args.text.now c.args.at c.args.row c.args.a c.args.b (sym c.two_at.ensures ∙ c.if-not-two_at.false)
    (sym c.byte_at.ensures ∙ c.if-byte_at-ne35.false) _ _ c.in_ok-n.ensures
    (λ q. c.if-byte_at-ne93.true (c.byte_at-2.ensures ∙ q))

pub returns : goal.returns
returns c =
    offset_ends c.args.text.now c.args.at c.args.row c.args.a c.args.b (sym c.two_at.ensures ∙ c.if-not-two_at.false)
    (sym c.byte_at.ensures ∙ c.if-byte_at-ne35.false) _ _ c.in_ok-n.ensures
    (sym c.byte_at-2.ensures ∙ c.if-byte_at-ne93.false) _ c.end_line.ensures
