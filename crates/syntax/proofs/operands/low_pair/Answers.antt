-- Both registers are low, and the line ends behind them.
use Rattle.std.proofs.Common.{arith}
use Rattle.syntax.proofs.Arguments.{pair_ends}
use Rattle.syntax.proofs.operands.low_pair.Goals as goal

pub returns : goal.returns
returns c =
    pair_ends _ _ _ _ c.in_ok-b.ensures c.args.row c.args.a (omega arith) (omega arith) _ c.end_line.ensures
