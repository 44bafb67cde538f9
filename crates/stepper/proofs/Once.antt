-- A run of one step is the step.
use Prim.Native.Nat.{ℕ}
use mathlib.Core.Bool.{Bool, true, false}
use mathlib.Core.List.{List}
use mathlib.Core.Path.{◌≡◌, refl, ap, ◌∙◌}
use lib.Dec.{eqb}
use lib.ListN.{length}
use Rattle.units.specs.Address.{memory_bytes}
use Rattle.refusals.specs.declared.check.Check.TheVariants as check
use Rattle.refusals.specs.Refusal.{refusal}
use Rattle.cpu.specs.declared.machine.Machine.{Machine}
use Rattle.cpu.specs.declared.outcome.Outcome.{Outcome}
use Rattle.cpu.specs.declared.outcome.Outcome.TheVariants.{Completed, Halted, Stopped, Refused}
use Rattle.runner.specs.declared.runs.RunOutcome.{RunOutcome}
use Rattle.runner.specs.declared.runs.RunOutcome.TheVariants.{Spent}
use Rattle.traffic.specs.declared.data.Traffic.{Traffic}
use Rattle.cpu.specs.Step.{State, StepResult, step_result, fetched, step_of}
use Rattle.cpu.specs.Traffic.{decoded_traffic, when_completed, step_traffic}
use Rattle.runner.specs.Ends.{as_step}
use Rattle.runner.specs.Run.{RunResult, run_result, state, state_after, go_on, run_from, run_of}
use Rattle.runner.specs.Traffic.{last_traffic, run_traffic}

-- a run of one step, as a step
abbrev as_step_result : RunResult → StepResult
as_step_result r = step_result r.state.machine r.state.memory (as_step r.outcome)

-- the run goes on for no more steps
abbrev spent : State → RunResult
spent s = record { state = s; outcome = Spent; count = 1 }

after_one : (o : Outcome) (s : State) → as_step_result (go_on o s 0 (spent s)) ≡ record { state = s; outcome = o }
after_one Completed s = refl
after_one Halted s = refl
after_one (Stopped why) s = refl
after_one (Refused r) s = refl

wrong : (m : Machine) (memory : List ℕ) → eqb (length memory) memory_bytes ≡ false
    → step_result m memory (Refused (refusal check.MemorySize)) ≡ step_of m memory
unfolding step_of
wrong m memory e = simp e

one_is_step : (m : Machine) (memory : List ℕ) → as_step_result (run_of 1 m memory) ≡ step_of m memory
unfolding run_of run_from
one_is_step m memory = go (eqb (length memory) memory_bytes) refl
  where
    go : (t : Bool) → eqb (length memory) memory_bytes ≡ t → as_step_result (run_of 1 m memory) ≡ step_of m memory
    go true e = simp e (after_one (step_of m memory).outcome (step_of m memory).state)
    go false e = simp e (wrong m memory e)

pub stepped : (m m' : Machine) (memory memory' : List ℕ) (outcome : RunOutcome) (count : ℕ)
    → run_result m' memory' outcome count ≡ run_of 1 m memory → step_result m' memory' (as_step outcome)
    ≡ step_of m memory
stepped m m' memory memory' outcome count ran = ap as_step_result ran ∙ one_is_step m memory

-- and tells what the step tells: no data where it didn't complete
one_told : (m : Machine) (memory : List ℕ) → run_traffic 1 m memory ≡ step_traffic m memory
unfolding run_traffic run_of run_from state_after step_traffic
one_told m memory = go (eqb (length memory) memory_bytes) refl
  where
    t : Traffic
    t = decoded_traffic (fetched m memory) m

    r : StepResult
    r = step_of m memory

    told : (o : Outcome) → o ≡ r.outcome
        → last_traffic (go_on o r.state 0 (spent r.state)).count (state m memory) ≡ when_completed r.outcome t
    told Completed e = refl
    told Halted e = ap (λ (o : Outcome). when_completed o t) e
    told (Stopped why) e = ap (λ (o : Outcome). when_completed o t) e
    told (Refused q) e = ap (λ (o : Outcome). when_completed o t) e

    go : (b : Bool) → eqb (length memory) memory_bytes ≡ b
        → last_traffic (run_of 1 m memory).count (state m memory) ≡ when_completed r.outcome t
    go true e = simp e (told r.outcome refl)
    go false e = simp e (ap (λ (q : StepResult). when_completed q.outcome t) (wrong m memory e))

pub step_told : (m : Machine) (memory : List ℕ) (t : Traffic) → t ≡ run_traffic 1 m memory → t ≡ step_traffic m memory
step_told m memory t ran = ran ∙ one_told m memory
