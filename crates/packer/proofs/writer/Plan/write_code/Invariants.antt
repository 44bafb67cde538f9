-- Halfword by halfword the block's code is written and added to the sum.
use Rattle.std.proofs.Common.{◌+◌}
use Rattle.packer.specs.Writing.{Written}
use Rattle.packer.proofs.writer.Plan.write_code.Given as goal

-- before turn i that many of the block's used halfwords are written
abbrev pub invariant-loop-i : goal.invariant-loop-i
invariant-loop-i l = Written l.self.code.now l.self.w l.self.l l.k (6 + l.i) l.block l.sum
