-- Halfword by halfword the header is written and summed.
use Rattle.packer.specs.Writing.{Written}
use Rattle.packer.proofs.writer.Plan.write_header.Given as goal

abbrev pub invariant-loop-j : goal.invariant-loop-j
invariant-loop-j l = Written l.self.code.now l.self.w l.self.l l.k l.j l.block l.sum
