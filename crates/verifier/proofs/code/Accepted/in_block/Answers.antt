-- Each block has some of the code.
use Rattle.std.proofs.Common.{arith}
use Rattle.verifier.proofs.Position.{no_more}
use Rattle.verifier.proofs.code.Accepted.in_block.Goals as goal

pub overflow_sub-count : goal.overflow_sub-count
overflow_sub-count c = omega (arith, no_more _ _ c.args.self.accepted c.args.k c.requires)

pub returns : goal.returns
returns c = omega (arith, no_more _ _ c.args.self.accepted c.args.k c.requires)
