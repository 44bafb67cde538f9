-- What a run tells, step by step; and that the note has no part in it.
use mathlib.Core.List.{List}
use mathlib.Core.Path.{◌≡◌, refl, sym, ap, ◌∙◌, subst⁻¹}
use Prim.Native.Nat.{ℕ, zero, suc, ◌+◌}
use native.Mathlib.Omega.{arith}
use Rattle.alu.specs.declared.control.Control.{Control}
use Rattle.cpu.specs.declared.held.Executed.{Executed}
use Rattle.cpu.specs.declared.machine.Machine.{Machine}
use Rattle.cpu.specs.declared.outcome.Outcome.{Outcome}
use Rattle.cpu.specs.declared.outcome.Outcome.TheVariants.{Completed, Halted, Stopped, Refused}
use Rattle.traffic.specs.declared.data.Traffic.{Traffic}
use Rattle.traffic.specs.declared.data.Traffic.TheVariants.{NoData}
use Rattle.traffic.specs.declared.log.Log.{Log}
use Rattle.traffic.specs.Log.{empty_log, logged, last_logged}
use Rattle.traffic.proofs.Logs.{Logs, logs_empty, logs_step}
use Rattle.cpu.specs.Machine.{with_note}
use Rattle.cpu.specs.Step.{State, StepResult, fetched, step_of}
use Rattle.cpu.specs.Held.{held}
use Rattle.cpu.specs.Traffic.{decoded_traffic, when_completed, step_traffic}
use Rattle.cpu.proofs.Notes.{keeping, step_note, traffic_note}
use Rattle.runner.specs.Run.{RunResult, state, outcome_at, next_state, state_after, run_of}
use Rattle.runner.specs.Traffic.{traffic_at, last_traffic, run_traffic}
use Rattle.runner.specs.Lent.{unnoted_run}
use Rattle.runner.proofs.Turns.{Steps, Last, whole_step}
use Rattle.runner.proofs.Noted.{noting, run_noted}

-- ---- the run's turns

-- so many steps have led here, and the log has what the last of them touched
pub record Reached (s : State) (count : ℕ) (here : State) (log : Log) : Type 0 where
  pub state : state_after count s ≡ here
  pub logs : Logs count (last_traffic count s) log

pub reached_first : (s : State) (log : Log) → log ≡ empty_log → Reached s 0 s log
unfolding state_after
reached_first s log empty = record { state = refl; logs = subst⁻¹ (Logs 0 NoData) empty logs_empty }

-- one more turn
pub reached_again : (s : State) (count : ℕ) (log log' : Log) (regs memory regs' memory' : List ℕ) (k : Control)
    (e : Executed)
    → Steps regs memory k regs' e memory' → log' ≡ logged count (step_traffic (held regs k) memory) log
    → e.outcome ≡ Completed → Reached s count (state (held regs k) memory) log
    → Reached s (count + 1) (state (held regs' e.control) memory') log'
unfolding state_after
reached_again s count log log' regs memory regs' memory' k e leads put completed reached =
    let m = held regs k in
    let here : traffic_at (state_after count s) ≡ step_traffic m memory = ap traffic_at reached.state in
    let stepped = whole_step regs memory regs' memory' k e leads completed in
    let written =
    logs_step count (last_traffic count s) (step_traffic m memory) log reached.logs in
    let more : count + 1 ≡ suc count = omega arith in
    rw more (record {
      state = ap next_state reached.state ∙ ap (λ (r : StepResult). r.state) stepped;
      logs = rw (here, put) written;
    })

-- a turn that is not completed leaves the log as it is
pub reached_last : (s here : State) (count : ℕ) (log log' : Log) (regs memory regs' memory' : List ℕ) (k : Control)
    (e : Executed)
    → Steps regs memory k regs' e memory' → log' ≡ logged count (step_traffic (held regs k) memory) log
    → Last e.outcome → Reached s count here log → Reached s count here log'
unfolding step_traffic
reached_last s here count log log' regs memory regs' memory' k e leads put last reached =
    let told = decoded_traffic (fetched (held regs k) memory) (held regs k) in
    let silent : when_completed (step_of (held regs k) memory).outcome told ≡ NoData =
    ap (λ (r : StepResult). when_completed r.outcome told) (sym leads) ∙ quiet e.outcome told last in
    rw (put, silent) reached
  where
    quiet : (o : Outcome) (t : Traffic) → Last o → when_completed o t ≡ NoData
    quiet Completed t last = absurd (last refl)
    quiet Halted t last = refl
    quiet (Stopped why) t last = refl
    quiet (Refused r) t last = refl

-- a run tells what the last of the steps that it counts told
pub run_told : (budget : ℕ) (m m₀ : Machine) (memory : List ℕ) (count : ℕ) (here : State) (log : Log)
    → m₀ ≡ m → Reached (state m₀ memory) count here log
    → (r : RunResult) → r.count ≡ count → r ≡ unnoted_run (run_of budget m memory)
    → last_logged r.count log ≡ run_traffic budget m memory
unfolding run_traffic
run_told budget m m₀ memory count here log start reached r counted ran =
    ap (λ (n : ℕ). last_logged n log) counted
    ∙ reached.logs.told
    ∙ ap (λ (n : Machine). last_traffic count (state n memory)) start
    ∙ ap (λ (n : ℕ). last_traffic n (state m memory)) (sym counted)
    ∙ ap (λ (q : RunResult). last_traffic q.count (state m memory)) ran

-- a refused run has made none
pub refused_told : (budget : ℕ) (m : Machine) (memory : List ℕ) (log : Log) (r : RunResult) → r.count ≡ 0
    → r ≡ unnoted_run (run_of budget m memory) → last_logged r.count log ≡ run_traffic budget m memory
unfolding run_traffic
refused_told budget m memory log r none ran =
    ap (λ (n : ℕ). last_logged n log) none
    ∙ ap (λ (n : ℕ). last_traffic n (state m memory)) (sym none)
    ∙ ap (λ (q : RunResult). last_traffic q.count (state m memory)) ran

-- ---- the note

after_noted : (n k : ℕ) (s : State) → (n' : ℕ) × (state_after k (noting n s) ≡ noting n' (state_after k s))
unfolding state_after
after_noted n zero s = (n, refl)
after_noted n (suc k) s =
    let before = after_noted n k s in
    let here = state_after k s in
    let next = kept before.0 (outcome_at here) (next_state here) in
    let noted = ap (λ (r : StepResult). r.state) (step_note before.0 here.machine here.memory) in
    (next.0, ap next_state before.1 ∙ noted ∙ next.1)
  where
    kept : (n : ℕ) (o : Outcome) (s : State) → (n' : ℕ) × (state (keeping o n s.machine) s.memory ≡ noting n' s)
    kept n Completed s = (n, refl)
    kept n Halted s = (s.machine.note, refl)
    kept n (Stopped why) s = (n, refl)
    kept n (Refused r) s = (n, refl)

last_noted : (n count : ℕ) (s : State) → last_traffic count (noting n s) ≡ last_traffic count s
last_noted n zero s = refl
last_noted n (suc k) s =
    let after = after_noted n k s in
    ap traffic_at after.1 ∙ traffic_note after.0 (state_after k s).machine (state_after k s).memory

pub run_traffic_noted : (n budget : ℕ) (m : Machine) (memory : List ℕ)
    → run_traffic budget (with_note n m) memory ≡ run_traffic budget m memory
unfolding run_traffic
run_traffic_noted n budget m memory =
    ap (λ (r : RunResult). last_traffic r.count (noting n (state m memory))) (run_noted n budget m memory)
    ∙ last_noted n (run_of budget m memory).count (state m memory)

-- so what a machine with its note left out tells is the machine's own
pub told_left : (budget : ℕ) (m : Machine) (memory : List ℕ) (t u : Traffic)
    → t ≡ u → u ≡ run_traffic budget (with_note 0 m) memory → t ≡ run_traffic budget m memory
told_left budget m memory t u is told = is ∙ told ∙ sym (run_traffic_noted m.note budget (with_note 0 m) memory)
