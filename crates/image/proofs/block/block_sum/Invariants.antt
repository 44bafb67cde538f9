-- Before the turn for halfword j - 1 the calls for halfwords 255 down to j are made.
use Rattle.std.proofs.Common.{◌≡◌}
use Rattle.image.specs.Block.{sum_from_back}
use Rattle.image.proofs.block.block_sum.Given as goal

abbrev pub invariant-loop-j : goal.invariant-loop-j
invariant-loop-j l = l.sum ≡ sum_from_back l.block l.j
