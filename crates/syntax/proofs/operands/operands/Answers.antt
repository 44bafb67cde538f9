-- A register and a comma, and behind them what the rows of the name have.
use Rattle.std.proofs.Common.{sym, ◌∙◌}
use Rattle.syntax.proofs.Arguments.{first_missing, comma_missing, by_number, by_low_pair, by_pc, by_memory}
use Rattle.syntax.proofs.operands.operands.Goals as goal

pub returns-in_err-a : goal.returns-in_err-a
returns-in_err-a c = rw c.from_residual.ensures (first_missing _ _ _ c.in_err-a.ensures)

pub returns-then-not-two_at : goal.returns-then-not-two_at
returns-then-not-two_at c =
    comma_missing _ _ _ _ _ c.in_ok-a.ensures (sym c.two_at.ensures ∙ c.if-not-two_at.true)

pub returns-then-row-lt3 : goal.returns-then-row-lt3
returns-then-row-lt3 c =
    by_number _ _ _ _ _ c.in_ok-a.ensures (sym c.two_at.ensures ∙ c.if-not-two_at.false)
    c.requires.1 c.if-row-lt3.true _ c.number_or_pair.ensures

pub returns-then-row-lt8 : goal.returns-then-row-lt8
returns-then-row-lt8 c =
    by_low_pair _ _ _ _ _ c.in_ok-a.ensures (sym c.two_at.ensures ∙ c.if-not-two_at.false)
    c.if-row-lt3.false c.if-row-lt8.true _ c.low_pair.ensures

pub returns-then-row-eq9 : goal.returns-then-row-eq9
returns-then-row-eq9 c =
    by_pc _ _ _ _ _ c.in_ok-a.ensures (sym c.two_at.ensures ∙ c.if-not-two_at.false)
    c.if-row-eq9.true _ c.pair_or_pc.ensures

pub returns : goal.returns
returns c =
    by_memory _ _ _ _ _ c.in_ok-a.ensures (sym c.two_at.ensures ∙ c.if-not-two_at.false)
    c.if-row-lt8.false c.if-row-eq9.false _ c.memory.ensures
