-- A condition, a space, a name and the end of the line.
use Rattle.std.proofs.Common.{sym, ◌∙◌}
use Rattle.syntax.proofs.Heads.{no_space, no_target, branch_ends}
use Rattle.syntax.proofs.parser.branch.Goals as goal

pub returns-then-byte_at-ne32 : goal.returns-then-byte_at-ne32
returns-then-byte_at-ne32 c =
    no_space _ _ _ _ c.in_ok-condition.ensures
    (λ q. c.if-byte_at-ne32.true (c.byte_at.ensures ∙ q))

pub returns-in_err-name : goal.returns-in_err-name
returns-in_err-name c =
    rw c.from_residual-in_err-name.ensures (no_target _ _ _ _ c.in_ok-condition.ensures
    (sym c.byte_at.ensures ∙ c.if-byte_at-ne32.false) c.in_err-name.ensures)

pub returns : goal.returns
returns c =
    branch_ends _ _ _ _ c.in_ok-condition.ensures
    (sym c.byte_at.ensures ∙ c.if-byte_at-ne32.false) _ _ c.in_ok-name.ensures _
    c.end_line.ensures
