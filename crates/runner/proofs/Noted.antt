-- With the note put in that its result says, a run whose note was left out is the run.
use mathlib.Core.Bool.{Bool, true, false, cond}
use mathlib.Core.List.{List}
use mathlib.Core.Path.{◌≡◌, refl, sym, ap, ◌∙◌, subst⁻¹}
use Prim.Native.Nat.{ℕ, zero, suc, ◌+◌}
use lib.Dec.{eqb}
use lib.ListN.{length}
use Rattle.units.specs.Address.{memory_bytes}
use Rattle.refusals.specs.declared.check.Check.TheVariants as check
use Rattle.refusals.specs.Refusal.{refusal}
use Rattle.cpu.specs.declared.machine.Machine.{Machine}
use Rattle.cpu.specs.declared.outcome.Outcome.{Outcome}
use Rattle.cpu.specs.declared.outcome.Outcome.TheVariants.{Completed, Halted, Stopped, Refused}
use Rattle.cpu.specs.Machine.{with_note}
use Rattle.cpu.specs.Step.{State, StepResult, low_byte}
use Rattle.cpu.proofs.Endings.{halted_step}
use Rattle.cpu.proofs.Notes.{keeping, step_note}
use Rattle.runner.specs.declared.runs.RunOutcome.TheVariants as ended
use Rattle.runner.specs.Run.{RunResult, run_result, state, outcome_at, next_state, go_on, run_from, run_of}
use Rattle.runner.specs.Lent.{note_left, unnoted_run}

-- a result with the note that a run leaves, where it was this before
abbrev pub renoted : ℕ → RunResult → RunResult
renoted n r =
    let note = note_left r.outcome (low_byte r.state) n in
    run_result (with_note note r.state.machine) r.state.memory r.outcome r.count

abbrev pub noting : ℕ → State → State
noting n s = state (with_note n s.machine) s.memory

-- HALT has set it already
set_here : (s : State) → outcome_at s ≡ Halted → (next_state s).machine.note ≡ low_byte (next_state s)
set_here s e =
    subst⁻¹ (λ (r : StepResult). r.state.machine.note ≡ low_byte r.state) (halted_step s.machine s.memory e)
    refl

-- after a step: the rest of the run goes the same way
turn_noted : (n : ℕ) (o : Outcome) (s : State) (count : ℕ) (rest rest' : RunResult)
    → (o ≡ Halted → s.machine.note ≡ low_byte s) → (o ≡ Completed → rest' ≡ renoted n rest)
    → go_on o (state (keeping o n s.machine) s.memory) count rest' ≡ renoted n (go_on o s count rest)
turn_noted n Completed s count rest rest' set e = e refl
turn_noted n Halted s count rest rest' set e =
    ap (λ (x : ℕ). run_result (with_note x s.machine) s.memory ended.Halted count) (set refl)
turn_noted n (Stopped why) s count rest rest' set e = refl
turn_noted n (Refused q) s count rest rest' set e = refl

from_noted : (n left count : ℕ) (s : State) → run_from left count (noting n s) ≡ renoted n (run_from left count s)
unfolding run_from
from_noted n zero count s = refl
from_noted n (suc left) count s =
    let next = next_state s in
    let rest = run_from left (count + 1) next in
    let on : StepResult → RunResult = λ r. go_on r.outcome r.state count (run_from left (count + 1) r.state) in
    ap on (step_note n s.machine s.memory)
    ∙ turn_noted n (outcome_at s) next count rest _ (set_here s)
    (λ e. ap (λ (o : Outcome). run_from left (count + 1) (state (keeping o n next.machine) next.memory)) e
    ∙ from_noted n left (count + 1) next)

-- check 1 comes first
pub run_noted : (n budget : ℕ) (m : Machine) (memory : List ℕ)
    → run_of budget (with_note n m) memory ≡ renoted n (run_of budget m memory)
unfolding run_of
run_noted n budget m memory = go (eqb (length memory) memory_bytes)
  where
    by_size : Bool → Machine → RunResult
    by_size t m =
        cond t (run_from budget 0 (state m memory))
        (run_result m memory (ended.Refused (refusal check.MemorySize)) 0)

    go : (t : Bool) → by_size t (with_note n m) ≡ renoted n (by_size t m)
    go true = from_noted n budget 0 (state m memory)
    go false = refl

pub run_left : (budget : ℕ) (m : Machine) (memory : List ℕ) (q : RunResult)
    → q ≡ unnoted_run (run_of budget (with_note 0 m) memory) → renoted m.note q ≡ run_of budget m memory
run_left budget m memory q e = ap (renoted m.note) e ∙ sym (run_noted m.note budget (with_note 0 m) memory)
