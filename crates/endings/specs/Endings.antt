-- How a step or a run ended and what it touched (Change 2), as a number beside the state that it left.
use Rattle.std.specs.Prelude.{List, ℕ, ◌+◌, ◌*◌}
use Rattle.refusals.specs.Check.{check_number}
use Rattle.cpu.specs.Stop.{stop_number}
use Rattle.cpu.specs.Step.{State, StepResult}
use Rattle.runner.specs.Run.{RunResult}
use Rattle.cpu.specs.declared.machine.Machine.{Machine}
use Rattle.cpu.specs.declared.outcome.Outcome.{Outcome}
use Rattle.cpu.specs.declared.outcome.Outcome.TheVariants.{Completed, Halted, Stopped, Refused}
use Rattle.runner.specs.declared.runs.RunOutcome.{RunOutcome}
use Rattle.runner.specs.declared.runs.RunOutcome.TheVariants as run
use Rattle.traffic.specs.declared.data.Traffic.{Traffic}
use Rattle.traffic.specs.Data.{address_touched, kind_touched}

-- 0 where the step completed, 255 at HALT, else the stop's or the refusal's own number
abbrev pub outcome_number : Outcome → ℕ
outcome_number Completed = 0
outcome_number Halted = 255
outcome_number (Stopped why) = stop_number why
outcome_number (Refused r) = check_number r.check

-- the same of a run, 0 where its budget is spent
abbrev pub run_number : RunOutcome → ℕ
run_number run.Spent = 0
run_number run.Halted = 255
run_number (run.Stopped why) = stop_number why
run_number (run.Refused r) = check_number r.check

-- what was touched: its kind from bit 8 on, its address from bit 16 on. No data are 0 throughout
abbrev pub traffic_number : Traffic → ℕ
traffic_number t = kind_touched t * 0x100 + address_touched t * 0x10000

-- a state and a number
pub record Numbered : Type 0 where
  pub state : State
  pub number : ℕ

abbrev pub numbered : Machine → List ℕ → ℕ → Numbered
numbered m memory number = record { state = record { machine = m; memory = memory }; number = number }

-- the ending stands in the low 8 bits, below what was touched
abbrev pub numbered_step : StepResult → Traffic → Numbered
numbered_step r t = record { state = r.state; number = outcome_number r.outcome + traffic_number t }

-- and the steps completed in the upper 32
abbrev pub numbered_run : RunResult → Traffic → Numbered
numbered_run r t =
    record { state = r.state; number = run_number r.outcome + traffic_number t + r.count * 0x100000000 }
