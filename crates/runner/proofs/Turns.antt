-- A run's turns: what is left of it at each is what was to be done at the start.
use Prim.Native.Nat.{ℕ, suc, ◌+◌, ◌-◌, ◌<◌, ◌≤◌}
use native.Mathlib.Omega.{arith}
use mathlib.Core.List.{List}
use mathlib.Core.Path.{◌≡◌, refl, sym, ap, ◌∙◌, subst⁻¹}
use lib.ListN.{get_or, length, set}
use lib.Seq.{set-get_or}
use borrow.Author.Tests.{eq-eqb, ne_eqb}
use Rattle.units.specs.Address.{memory_bytes}
use Rattle.refusals.specs.declared.check.Check.TheVariants as check
use Rattle.refusals.specs.Refusal.{refusal}
use Rattle.refusals.specs.declared.refusal.Refusal.{Refusal}
use Rattle.alu.specs.declared.control.Control.{Control}
use Rattle.cpu.specs.declared.held.Executed.{Executed}
use Rattle.cpu.specs.declared.machine.Machine.{Machine}
use Rattle.runner.specs.declared.runs.RunOutcome.{RunOutcome}
use Rattle.runner.specs.declared.runs.RunOutcome.TheVariants.{Refused as RunRefused}
use Rattle.cpu.specs.declared.outcome.Outcome.{Outcome}
use Rattle.cpu.specs.declared.outcome.Outcome.TheVariants.{Completed, Halted, Stopped, Refused}
use Rattle.cpu.specs.Step.{State, StepResult, step_result, step_of}
use Rattle.runner.specs.Run.{RunResult, run_result, state, go_on, run_from, run_of}
use Rattle.alu.specs.declared.status.Status.{Status}
use Rattle.cpu.specs.Machine.{with_note}
use Rattle.alu.specs.Control.{flags_in, flags_of}
use Rattle.cpu.specs.Held.{bare, held, unnoted}
use Rattle.runner.specs.Ends.{as_run, Ended}
use Rattle.runner.specs.Lent.{lent, unnoted_run}
use Rattle.cpu.proofs.Endings.{halted_not_completed}
use Rattle.cpu.proofs.Notes.{bare_step}

pub run_refused : (budget : ℕ) (regs : List ℕ) (s : Status) (memory : List ℕ) (r : Refusal)
    → (length memory ≡ memory_bytes → ⊥) → r ≡ refusal check.MemorySize
    → run_result (lent regs s) memory (RunRefused r) 0 ≡ unnoted_run (run_of budget (lent regs s) memory)
unfolding run_of
run_refused budget regs s memory r wrong is = simp (ne_eqb (length memory) memory_bytes wrong, is)

-- what is held at the start is the machine
pub starts : (regs : List ℕ) (s : Status) (k : Control) → k.pc ≡ get_or regs 15 0 → flags_in k ≡ flags_of s
    → held regs k ≡ lent regs s
starts regs s k pc flags =
    ap (λ (x : ℕ). bare (set regs 15 x) (flags_in k)) pc
    ∙ ap (λ (l : List ℕ). bare l (flags_in k)) (set-get_or regs 15 0)
    ∙ ap (bare regs) flags

pub run_starts : (budget : ℕ) (s : State) → run_from (budget - 0) 0 s ≡ run_from budget 0 s
run_starts budget s = let z : budget - 0 ≡ budget = omega arith in rw z

-- what a step on a machine that is held says of itself
abbrev pub Steps : List ℕ → List ℕ → Control → List ℕ → Executed → List ℕ → Type 0
Steps regs memory k regs' e memory' =
    step_result (held regs' e.control) memory' e.outcome ≡ unnoted (step_of (held regs k) memory)

-- one that completes leaves note 0 as it is
pub whole_step : (regs memory regs' memory' : List ℕ) (k : Control) (e : Executed)
    → Steps regs memory k regs' e memory' → e.outcome ≡ Completed
    → step_of (held regs k) memory ≡ step_result (held regs' e.control) memory' e.outcome
whole_step regs memory regs' memory' k e leads completed =
    let ends : (step_of (held regs k) memory).outcome ≡ Completed =
    ap (λ (r : StepResult). r.outcome) (sym leads) ∙ completed in
    bare_step (held regs k) memory (λ halts. halted_not_completed (sym halts ∙ ends)) ∙ sym leads

turn : (left count : ℕ) (s : State) (r : StepResult) → step_of s.machine s.memory ≡ r
    → run_from (suc left) count s ≡ go_on r.outcome r.state count (run_from left (count + 1) r.state)
unfolding run_from
turn left count s r step =
    ap (λ (q : StepResult). go_on q.outcome q.state count (run_from left (count + 1) q.state)) step

-- what the last arm of the match on an outcome tells: it is not the first variant, `Completed`
abbrev pub Last : Outcome → Type 0
Last o = o ≡ Completed → ⊥

-- the run ends as such a step did
abbrev ran : StepResult → ℕ → RunResult
ran r count = run_result r.state.machine r.state.memory (as_run r.outcome) count

last_step : (r : StepResult) (count : ℕ) (rest : RunResult) → Last r.outcome
    → unnoted_run (go_on r.outcome r.state count rest) ≡ ran (unnoted r) count
last_step r count rest last = go r.outcome last
  where
    go : (o : Outcome) → Last o → unnoted_run (go_on o r.state count rest)
        ≡ ran (step_result (with_note 0 r.state.machine) r.state.memory o) count
    go Completed last = absurd (last refl)
    go Halted last = refl
    go (Stopped why) last = refl
    go (Refused q) last = refl

module _ (budget : ℕ) (m₀ : Machine) (memory₀ : List ℕ) (right₀ : length memory₀ ≡ memory_bytes) where
  answers : {m : Machine} {o : RunOutcome} {n : ℕ} {whole : Machine} {last : Outcome} {count : ℕ} (memory : List ℕ)
      → Ended m o n whole last count
      → run_result whole memory (as_run last) count ≡ unnoted_run (run_from budget 0 (state m₀ memory₀))
      → run_result m memory o n ≡ unnoted_run (run_of budget m₀ memory₀)
  unfolding run_of
  answers memory ends done =
      simp (eq-eqb (length memory₀) memory_bytes right₀, ends.machine, ends.outcome, ends.count) done

  module _ (regs₀ regs memory : List ℕ) (k₀ k : Control) (count : ℕ) (start : held regs₀ k₀ ≡ m₀)
      (left : run_from (budget - count) count (state (held regs k) memory)
      ≡ run_from budget 0 (state (held regs₀ k₀) memory₀)) where
    from_start : run_from (budget - count) count (state (held regs k) memory) ≡ run_from budget 0 (state m₀ memory₀)
    from_start = left ∙ rw start

    pub run_spent : {m : Machine} {o : RunOutcome} {n : ℕ} → budget ≤ count
        → Ended m o n (held regs k) Completed count → run_result m memory o n ≡ unnoted_run (run_of budget m₀ memory₀)
    unfolding run_from
    run_spent all ends =
        let z : budget - count ≡ 0 = omega arith in
        answers memory ends (ap unnoted_run (rw z at from_start))

    -- one more turn, where the step doesn't complete
    pub run_ends : {m : Machine} {o : RunOutcome} {n : ℕ} (regs' memory' : List ℕ) (e : Executed) → count < budget
        → Steps regs memory k regs' e memory' → Last e.outcome
        → Ended m o n (held regs' e.control) e.outcome count
        → run_result m memory' o n ≡ unnoted_run (run_of budget m₀ memory₀)
    run_ends regs' memory' e more leads last ends =
        let left = budget - (count + 1) in
        let t : budget - count ≡ suc left = omega arith in
        let s = state (held regs k) memory in
        let now = step_of (held regs k) memory in
        let rest = run_from left (count + 1) now.state in
        let last-now = subst⁻¹ Last (ap (λ (r : StepResult). r.outcome) (sym leads)) last in
        answers memory' ends
        (ap (λ (r : StepResult). ran r count) leads
        ∙ sym (last_step now count rest last-now)
        ∙ ap unnoted_run (sym (turn left count s now refl) ∙ (rw t at from_start)))

-- one more turn, where it completes
pub run_again : (budget : ℕ) (regs memory regs' memory' : List ℕ) (k : Control) (count : ℕ) (e : Executed)
    (all : RunResult)
    → count < budget → Steps regs memory k regs' e memory' → e.outcome ≡ Completed
    → run_from (budget - count) count (state (held regs k) memory) ≡ all
    → run_from (budget - (count + 1)) (count + 1) (state (held regs' e.control) memory') ≡ all
run_again budget regs memory regs' memory' k count e all more leads completed left =
    let later = budget - (count + 1) in
    let t : budget - count ≡ suc later = omega arith in
    let next = step_result (held regs' e.control) memory' e.outcome in
    let stepped = whole_step regs memory regs' memory' k e leads completed in
    (rw completed at (sym (turn later count (state (held regs k) memory) next stepped))) ∙ (rw t at left)
