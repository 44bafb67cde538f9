-- The number of the two letters is the condition's.
use Rattle.std.proofs.Common.{arith}
use Rattle.syntax.proofs.Conditions.{condition_read, condition_missing}
use Rattle.syntax.proofs.slots.condition_at.Goals as goal

pub returns-in_err-value : goal.returns-in_err-value
returns-in_err-value c =
    rw c.from_residual.ensures
    (condition_missing _ _ _ _ c.requires c.byte_at.ensures c.byte_at-2.ensures (omega arith)
    (omega arith) c.in_err-value.ensures)

pub returns : goal.returns
returns c =
    condition_read _ _ _ _ c.requires c.byte_at.ensures c.byte_at-2.ensures (omega arith)
    (omega arith) _ c.in_ok-value.ensures
