-- Before each turn what is left of the run is what was to be done at the start, and the log has what the last turn
-- touched (`Turn`).
use Rattle.runner.proofs.Loop.{Turn}
use Rattle.runner.proofs.lent.run_within.Given as goal

abbrev pub invariant-loop-count : goal.invariant-loop-count
invariant-loop-count l = Turn l.budget l.fn.regs l.fn.memory l.initial.k l.regs l.memory l.log l.k l.count
