-- A run: steps until a budget is spent, or until one doesn't complete.
use Rattle.std.specs.Prelude.{cond, List, ℕ, zero, suc, ◌+◌, eqb, length}
use Rattle.units.specs.Address.{memory_bytes}
use Rattle.refusals.specs.declared.check.Check.TheVariants as check
use Rattle.refusals.specs.Refusal.{refusal}
use Rattle.cpu.specs.declared.machine.Machine.{Machine}
use Rattle.cpu.specs.declared.outcome.Outcome.{Outcome}
use Rattle.cpu.specs.declared.outcome.Outcome.TheVariants.{Completed, Halted, Stopped, Refused}
use Rattle.runner.specs.declared.runs.RunOutcome.{RunOutcome}
use Rattle.runner.specs.declared.runs.RunOutcome.TheVariants as ended
use Rattle.cpu.specs.Step.{State, step_of}

abbrev pub state : Machine → List ℕ → State
state m memory = record { machine = m; memory = memory }

-- how the step at a state ends
abbrev pub outcome_at : State → Outcome
outcome_at s = (step_of s.machine s.memory).outcome

-- one step further. A state whose step doesn't complete stays as it is, but that HALT leaves its note
abbrev pub next_state : State → State
next_state s = (step_of s.machine s.memory).state

-- the states of a run: the start, and one step on from each
unfoldable pub state_after : ℕ → State → State
state_after zero s = s
state_after (suc k) s = next_state (state_after k s)

-- where a run leads, how it ended, and the steps completed
pub record RunResult : Type 0 where
  pub state : State
  pub outcome : RunOutcome
  pub count : ℕ

abbrev pub run_result : Machine → List ℕ → RunOutcome → ℕ → RunResult
run_result m memory outcome count = record { state = state m memory; outcome = outcome; count = count }

-- after a step: on where it completed, else the run ends as the step did, with the steps completed before
abbrev pub go_on : Outcome → State → ℕ → RunResult → RunResult
go_on Completed s count rest = rest
go_on Halted s count rest = record { state = s; outcome = ended.Halted; count = count }
go_on (Stopped why) s count rest = record { state = s; outcome = ended.Stopped why; count = count }
go_on (Refused r) s count rest = record { state = s; outcome = ended.Refused r; count = count }

-- with so much of the budget left and so many steps completed. A budget that is spent ends the run whatever comes next
unfoldable pub run_from : ℕ → ℕ → State → RunResult
run_from zero count s = record { state = s; outcome = ended.Spent; count = count }
run_from (suc left) count s =
    go_on (outcome_at s) (next_state s) count (run_from left (count + 1) (next_state s))

-- check 1 comes first, whatever the budget
unfoldable pub run_of : ℕ → Machine → List ℕ → RunResult
run_of budget m memory =
    cond (eqb (length memory) memory_bytes)
    (run_from budget 0 (state m memory))
    (run_result m memory (ended.Refused (refusal check.MemorySize)) 0)
