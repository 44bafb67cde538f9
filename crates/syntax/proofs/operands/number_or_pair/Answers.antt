-- A # begins a number, and nothing else a register.
use Rattle.std.proofs.Common.{sym, ◌∙◌, arith}
use Rattle.syntax.proofs.Arguments.{no_number, number_high, number_low}
use Rattle.syntax.proofs.operands.number_or_pair.Goals as goal

pub returns-then-byte_at-ne35 : goal.returns-then-byte_at-ne35
returns-then-byte_at-ne35 c =
    no_number c.args.text.now c.args.at c.args.row c.args.a
    (λ q. c.if-byte_at-ne35.true (c.byte_at.ensures ∙ q)) _ c.any_pair.ensures

pub returns-then-a-ge8 : goal.returns-then-a-ge8
returns-then-a-ge8 c =
    number_high c.args.text.now c.args.at c.args.row c.args.a
    (sym c.byte_at.ensures ∙ c.if-byte_at-ne35.false) c.if-a-ge8.true

pub returns : goal.returns
returns c =
    number_low c.args.text.now c.args.at c.args.row c.args.a
    (sym c.byte_at.ensures ∙ c.if-byte_at-ne35.false) (omega arith) _ c.number_line.ensures
