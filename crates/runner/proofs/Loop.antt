-- The loop of a run: what holds before each turn, and what the run then answers.
use mathlib.Core.List.{List}
use mathlib.Core.Path.{◌≡◌, subst}
use Prim.Native.Nat.{ℕ, ◌+◌, ◌-◌, ◌<◌}
use native.Mathlib.Omega.{arith}
use lib.ListN.{length, get_or}
use Rattle.units.specs.Address.{memory_bytes}
use Rattle.alu.specs.declared.control.Control.{Control}
use Rattle.alu.specs.declared.status.Status.{Status}
use Rattle.alu.specs.Control.{flags_in, flags_of}
use Rattle.traffic.specs.declared.log.Log.{Log}
use Rattle.traffic.specs.Log.{empty_log, logged, last_logged}
use Rattle.cpu.specs.declared.held.Executed.{Executed}
use Rattle.cpu.specs.declared.machine.Machine.{Machine}
use Rattle.cpu.specs.declared.outcome.Outcome.TheVariants.{Completed}
use Rattle.cpu.specs.Held.{held}
use Rattle.cpu.specs.Traffic.{step_traffic}
use Rattle.runner.specs.declared.runs.RunOutcome.{RunOutcome}
use Rattle.runner.specs.Run.{RunResult, run_result, state, run_from, run_of}
use Rattle.runner.specs.Traffic.{run_traffic}
use Rattle.runner.specs.Ends.{Ended}
use Rattle.runner.specs.Lent.{lent, unnoted_run}
use Rattle.runner.proofs.Turns.{Steps, Last, starts, run_starts, run_spent, run_ends, run_again}
use Rattle.runner.proofs.Traffic.{Reached, reached_first, reached_again, reached_last, run_told}

-- after so many steps: what is left of the run is what was to be done at the start, and the log has what the last step
-- touched
pub record Turn (budget : ℕ) (regs₀ memory₀ : List ℕ) (k₀ : Control)
    (regs memory : List ℕ) (log : Log) (k : Control) (count : ℕ) : Type 0 where
  pub left : run_from (budget - count) count (state (held regs k) memory)
      ≡ run_from budget 0 (state (held regs₀ k₀) memory₀)
  pub reached : Reached (state (held regs₀ k₀) memory₀) count (state (held regs k) memory) log

pub first_turn : {budget : ℕ} {regs memory : List ℕ} {log : Log} {k : Control} → log ≡ empty_log
    → Turn budget regs memory k regs memory log k 0
first_turn empty = record { left = run_starts _ _; reached = reached_first _ _ empty }

-- what a step of the loop says of itself
abbrev pub Stepped : List ℕ → List ℕ → Log → Control → ℕ → List ℕ → List ℕ → Log → Executed → Type 0
Stepped regs memory log k count regs' memory' log' e =
    Steps regs memory k regs' e memory' × (log' ≡ logged count (step_traffic (held regs k) memory) log)

-- what a run of a machine answers: its result but for the note, and in the log what its last step touched
abbrev pub Answers : ℕ → Machine → List ℕ → RunResult → Log → Type 0
Answers budget m memory r log =
    (r ≡ unnoted_run (run_of budget m memory)) × (last_logged r.count log ≡ run_traffic budget m memory)

module _ {budget : ℕ} {regs₀ memory₀ : List ℕ} {k₀ : Control} {regs memory : List ℕ} {log : Log} {k : Control}
    {count : ℕ} (turn : Turn budget regs₀ memory₀ k₀ regs memory log k count) where
  -- a step completes
  pub next_turn : {regs' memory' : List ℕ} {log' : Log} (e : Executed) → count < budget
      → Stepped regs memory log k count regs' memory' log' e → e.outcome ≡ Completed
      → Turn budget regs₀ memory₀ k₀ regs' memory' log' e.control (count + 1)
  next_turn {regs'} e more (leads, put) completed =
      record {
        left = run_again _ regs _ regs' _ k count e _ more leads completed turn.left;
        reached = reached_again _ count _ _ regs _ regs' _ k e leads put completed turn.reached;
      }

  module _ (s : Status) (right : length memory₀ ≡ memory_bytes)
      (begun : (k₀.pc ≡ get_or regs₀ 15 0) × (flags_in k₀ ≡ flags_of s)) where
    started : held regs₀ k₀ ≡ lent regs₀ s
    started = starts regs₀ s k₀ begun.0 begun.1

    -- the budget is spent
    pub spent_run : {m : Machine} {o : RunOutcome} {n : ℕ} → budget ≡ count
        → Ended m o n (held regs k) Completed budget
        → Answers budget (lent regs₀ s) memory₀ (run_result m memory o n) log
    spent_run {m} {o} {n} all ends =
        let here = subst (λ (d : ℕ). Ended m o n (held regs k) Completed d) all ends in
        let ran =
        run_spent budget _ memory₀ right regs₀ regs memory k₀ k count started turn.left (omega (arith, all)) here in
        (ran, run_told budget _ _ memory₀ count _ log started turn.reached _ here.count ran)

    -- a step does not complete
    pub ended_run : {m : Machine} {o : RunOutcome} {n : ℕ} (regs' : List ℕ) {memory' : List ℕ} {log' : Log}
        (e : Executed)
        → count < budget → Stepped regs memory log k count regs' memory' log' e → Last e.outcome
        → Ended m o n (held regs' e.control) e.outcome count
        → Answers budget (lent regs₀ s) memory₀ (run_result m memory' o n) log'
    ended_run regs' {memory'} {log'} e more (leads, put) last ends =
        let ran =
        run_ends budget _ memory₀ right regs₀ regs memory k₀ k count started turn.left
        regs' memory' e more leads last ends in
        let reached = reached_last _ _ count log log' regs memory regs' memory' k e leads put last turn.reached in
        (ran, run_told budget _ _ memory₀ count _ log' started reached _ ends.count ran)
