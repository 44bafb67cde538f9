-- After n turns what was put together is 0 where the first n unused halfwords are.
use Rattle.std.proofs.Common.{◌≡◌, eqb}
use Rattle.image.specs.Check.{unused_zero}
use Rattle.image.proofs.block.is_unused_zero.Given as goal

abbrev pub invariant-loop-n : goal.invariant-loop-n
invariant-loop-n l = eqb l.all 0 ≡ unused_zero l.block l.used l.n
