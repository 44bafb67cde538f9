-- A branch further down does not reach.
use Rattle.std.proofs.Common.{arith}
use Rattle.assembler.proofs.Rows.{branch_far}
use Rattle.assembler.proofs.fields.branching.Goals as goal

pub returns : goal.returns
returns c = branch_far c.args.i c.args.j c.args.«cond» c.if-i-j.false (omega arith)
