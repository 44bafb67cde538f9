-- How a run ends, of how its last step did, and back. Only the contracts of functions that are no entry points speak of
-- it.
use Rattle.std.specs.Prelude.{◌≡◌, ℕ}
use Rattle.cpu.specs.declared.machine.Machine.{Machine}
use Rattle.cpu.specs.declared.outcome.Outcome.{Outcome}
use Rattle.cpu.specs.declared.outcome.Outcome.TheVariants.{Completed, Halted, Stopped, Refused}
use Rattle.runner.specs.declared.runs.RunOutcome.{RunOutcome}
use Rattle.runner.specs.declared.runs.RunOutcome.TheVariants as ended

-- how a run ends after its last step: one that completed spent the budget
abbrev pub as_run : Outcome → RunOutcome
as_run Completed = ended.Spent
as_run Halted = ended.Halted
as_run (Stopped why) = ended.Stopped why
as_run (Refused r) = ended.Refused r

-- how a run of one step ended, as a step's end
abbrev pub as_step : RunOutcome → Outcome
as_step ended.Spent = Completed
as_step ended.Halted = Halted
as_step (ended.Stopped why) = Stopped why
as_step (ended.Refused r) = Refused r

-- a run's answer, a machine m, an ending o and a count n: m is the whole machine that was held, o tells how the last
-- step ended, and n are the steps done
pub record Ended (m : Machine) (o : RunOutcome) (n : ℕ) (whole : Machine) (last : Outcome) (done : ℕ) : Type 0 where
  pub machine : m ≡ whole
  pub outcome : o ≡ as_run last
  pub count : n ≡ done
