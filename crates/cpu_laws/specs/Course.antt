-- What is claimed of a step and of a run as a whole ("One step"): a step that neither completes nor meets HALT
-- changes nothing, and a run is its steps, one after the other.
use Rattle.std.specs.Prelude.{List, ◌⊎◌, ◌≡◌, ℕ, ◌<◌, ◌≤◌, length}
use Rattle.units.specs.Address.{memory_bytes}
use Rattle.cpu.specs.declared.machine.Machine.{Machine}
use Rattle.cpu.specs.declared.outcome.Outcome.{Outcome}
use Rattle.cpu.specs.declared.outcome.Outcome.TheVariants.{Completed, Halted, Stopped, Refused}
use Rattle.runner.specs.declared.runs.RunOutcome.{RunOutcome}
use Rattle.runner.specs.declared.runs.RunOutcome.TheVariants as run
use Rattle.cpu.specs.Step.{State}
use Rattle.runner.specs.Run.{RunResult, state, outcome_at, next_state, state_after, run_of}
use Rattle.cpu_laws.specs.Notes.{halted_state}

-- a step completes, or it meets HALT and sets the note, or it leaves registers, flags, note and memory as they were
abbrev pub StepWhole : Type 0
StepWhole =
    (s : State)
    → (outcome_at s ≡ Completed) ⊎ (((outcome_at s ≡ Halted) × (next_state s ≡ halted_state s)) ⊎ (next_state s ≡ s))

-- a step that ends so, and doesn't complete, ends the run so
abbrev pub EndsAs : Outcome → RunOutcome → Type 0
EndsAs Completed r = ⊥
EndsAs Halted r = r ≡ run.Halted
EndsAs (Stopped why) r = r ≡ run.Stopped why
EndsAs (Refused q) r = r ≡ run.Refused q

-- where a run leaves its last state if it ends so: HALT sets the note
abbrev pub final_state : RunOutcome → State → State
final_state run.Spent s = s
final_state run.Halted s = halted_state s
final_state (run.Stopped why) s = s
final_state (run.Refused q) s = s

-- the course of a run from s: so many steps, each of which completes, lead to its last state. It ends where the
-- budget is spent, or before that as the next step would
pub record Course (budget : ℕ) (s : State) (r : RunResult) (steps : ℕ) : Type 0 where
  pub within : steps ≤ budget
  pub last : r.state ≡ final_state r.outcome (state_after steps s)
  pub completed : (k : ℕ) → k < steps → outcome_at (state_after k s) ≡ Completed
  pub end : ((r.outcome ≡ run.Spent) × (steps ≡ budget))
      ⊎ ((steps < budget) × EndsAs (outcome_at (state_after steps s)) r.outcome)

-- the steps of a run are as many as it counts
abbrev pub RunCourse : Type 0
RunCourse =
    (budget : ℕ) (m : Machine) (memory : List ℕ) → length memory ≡ memory_bytes
    → Course budget (state m memory) (run_of budget m memory) (run_of budget m memory).count
