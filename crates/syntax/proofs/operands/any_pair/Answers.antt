-- A register, and the end of the line behind it.
use Rattle.syntax.proofs.Arguments.{any_ends}
use Rattle.syntax.proofs.operands.any_pair.Goals as goal

pub returns : goal.returns
returns c =
    any_ends _ _ _ _ c.in_ok-b.ensures _ _ _ c.both_low-low.ensures _ c.pair_row.ensures _ c.end_line.ensures
