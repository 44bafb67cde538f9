-- A bracket, and a low register in it.
use Rattle.std.proofs.Common.{sym, ◌∙◌, arith}
use Rattle.syntax.proofs.Arguments.{memory_other, base_missing, base_high, base_low}
use Rattle.syntax.proofs.operands.memory.Goals as goal

pub returns-then-byte_at-ne91 : goal.returns-then-byte_at-ne91
returns-then-byte_at-ne91 c =
    memory_other c.args.text.now c.args.at c.args.row c.args.a (λ q. c.if-byte_at-ne91.true (c.byte_at.ensures ∙ q))

pub returns-in_err-b : goal.returns-in_err-b
returns-in_err-b c =
    rw c.from_residual.ensures
    (base_missing c.args.text.now c.args.at c.args.row c.args.a (sym c.byte_at.ensures ∙ c.if-byte_at-ne91.false)
    c.in_err-b.ensures)

pub returns-then-b-ge8 : goal.returns-then-b-ge8
returns-then-b-ge8 c =
    base_high c.args.text.now c.args.at c.args.row c.args.a (sym c.byte_at.ensures ∙ c.if-byte_at-ne91.false) _ _
    c.in_ok-b.ensures c.if-b-ge8.true

pub returns : goal.returns
returns c =
    base_low c.args.text.now c.args.at c.args.row c.args.a (sym c.byte_at.ensures ∙ c.if-byte_at-ne91.false) _ _
    c.in_ok-b.ensures (omega arith) (omega arith) _ c.offset_line.ensures
