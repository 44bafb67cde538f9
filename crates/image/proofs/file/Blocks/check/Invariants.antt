-- The blocks before block k have passed.
use Rattle.std.proofs.Common.{◌≡◌}
use Rattle.std.specs.Prelude.{Ok}
use Rattle.image.specs.Check.{first_no, checks_below}
use Rattle.image.proofs.file.Blocks.check.Given as goal

abbrev pub invariant-loop-k : goal.invariant-loop-k
invariant-loop-k l = first_no (checks_below l.self.file.now l.k) ≡ Ok tt
