-- The test is the definition's.
use Rattle.cpu.proofs.Formats.{halts}
use Rattle.cpu.proofs.executor.execute_halt.Goals as goal

pub returns-then-h-lt256 : goal.returns-then-h-lt256
returns-then-h-lt256 c = halts c.args.h c.args.k c.if-h-lt256.true
