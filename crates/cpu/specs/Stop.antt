-- The stops, by their numbers in the papers.
use Rattle.std.specs.Prelude.{ℕ}
use Rattle.cpu.specs.declared.outcome.Stop.{Stop}
use Rattle.cpu.specs.declared.outcome.Stop.TheVariants.{OddPc, Undefined, Misaligned}

abbrev pub stop_number : Stop → ℕ
stop_number OddPc = 18
stop_number Undefined = 19
stop_number Misaligned = 20
