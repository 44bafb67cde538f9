-- A P begins the PC, and nothing else a register.
use Rattle.std.proofs.Common.{sym, ◌∙◌, arith}
use Rattle.syntax.proofs.Arguments.{no_pc, pc_high, pc_other, pc_alone, pc_number}
use Rattle.syntax.proofs.operands.pair_or_pc.Goals as goal

pub returns-then-byte_at-ne80 : goal.returns-then-byte_at-ne80
returns-then-byte_at-ne80 c =
    no_pc c.args.text.now c.args.at c.args.a
    (λ q. c.if-byte_at-ne80.true (c.byte_at.ensures ∙ q)) _ c.any_pair.ensures

pub returns-then-a-ge8 : goal.returns-then-a-ge8
returns-then-a-ge8 c =
    pc_high c.args.text.now c.args.at c.args.a (sym c.byte_at.ensures ∙ c.if-byte_at-ne80.false)
    c.if-a-ge8.true

pub returns-then-not-two_at : goal.returns-then-not-two_at
returns-then-not-two_at c =
    pc_other c.args.text.now c.args.at c.args.a (sym c.byte_at.ensures ∙ c.if-byte_at-ne80.false)
    (sym c.two_at.ensures ∙ c.if-not-two_at.true)

pub returns-then-not-two_at-2 : goal.returns-then-not-two_at-2
returns-then-not-two_at-2 c =
    pc_alone c.args.text.now c.args.at c.args.a (sym c.byte_at.ensures ∙ c.if-byte_at-ne80.false)
    (sym c.two_at.ensures ∙ c.if-not-two_at.false) (sym c.two_at-2.ensures ∙ c.if-not-two_at-2.true)

pub returns : goal.returns
returns c =
    pc_number c.args.text.now c.args.at c.args.a (sym c.byte_at.ensures ∙ c.if-byte_at-ne80.false)
    (sym c.two_at.ensures ∙ c.if-not-two_at.false) (sym c.two_at-2.ensures ∙ c.if-not-two_at-2.false) (omega arith) _
    c.number_line.ensures
