-- Halfword by halfword zeros are written; they add nothing to the sum.
use Rattle.std.proofs.Common.{ℕ, ◌≤◌}
use Rattle.packer.specs.Writing.{Written, code_end}
use Rattle.packer.proofs.writer.Plan.write_zeros.Given as goal

-- before the turn at halfword j all up to there is written
abbrev pub invariant-loop-j : goal.invariant-loop-j
invariant-loop-j l = record {
  past_code : code_end l.self.code.now l.k ≤ l.j;
  within : l.j ≤ 255;
  written : (sum : ℕ) → Written l.self.code.now l.self.w l.self.l l.k (code_end l.self.code.now l.k) l.fn.block sum
      → Written l.self.code.now l.self.w l.self.l l.k l.j l.block sum;
}
