-- A number, and the end of the line behind it.
use Rattle.syntax.proofs.Arguments.{number_ends}
use Rattle.syntax.proofs.operands.number_line.Goals as goal

pub returns : goal.returns
returns c = number_ends _ _ _ _ _ _ c.in_ok-n.ensures _ c.end_line.ensures
