-- The note after a step, and after a run.
use mathlib.Core.List.{List}
use mathlib.Core.Path.{◌≡◌, refl, ap, ◌∙◌}
use Prim.Native.Nat.{ℕ}
use Rattle.cpu.specs.declared.machine.Machine.{Machine}
use Rattle.cpu.specs.declared.outcome.Outcome.{Outcome}
use Rattle.cpu.specs.declared.outcome.Outcome.TheVariants.{Completed, Halted, Stopped, Refused}
use Rattle.runner.specs.declared.runs.RunOutcome.{RunOutcome}
use Rattle.runner.specs.declared.runs.RunOutcome.TheVariants as run
use Rattle.cpu.specs.Step.{StepResult, low_byte}
use Rattle.runner.specs.Run.{RunResult, outcome_at, next_state, run_of}
use Rattle.runner.specs.Lent.{note_left}
use Rattle.cpu.proofs.Endings.{halted_step}
use Rattle.cpu.proofs.Notes.{keeping, step_note}
use Rattle.runner.proofs.Noted.{run_noted}
use Rattle.cpu_laws.specs.Notes.{NoteSet, NoteKept, RunNoteSet, RunNoteKept}

pub note_set : NoteSet
note_set s e = ap (λ (r : StepResult). r.state) (halted_step s.machine s.memory e)

-- a step from the note that is there is the step
pub note_kept : NoteKept
note_kept s other =
    ap (λ (r : StepResult). r.state.machine.note) (step_note s.machine.note s.machine s.memory)
    ∙ kept (outcome_at s) other
  where
    kept : (o : Outcome) → (o ≡ Halted → ⊥)
        → (keeping o s.machine.note (next_state s).machine).note ≡ s.machine.note
    kept Completed other = refl
    kept Halted other = absurd (other refl)
    kept (Stopped why) other = refl
    kept (Refused q) other = refl

-- and so of a run
left : (budget : ℕ) (m : Machine) (memory : List ℕ)
    → (run_of budget m memory).state.machine.note
    ≡ note_left (run_of budget m memory).outcome (low_byte (run_of budget m memory).state) m.note
left budget m memory = ap (λ (r : RunResult). r.state.machine.note) (run_noted m.note budget m memory)

pub run_note_set : RunNoteSet
run_note_set budget m memory e =
    left budget m memory ∙ ap (λ (o : RunOutcome). note_left o (low_byte (run_of budget m memory).state) m.note) e

pub run_note_kept : RunNoteKept
run_note_kept budget m memory other = left budget m memory ∙ kept (run_of budget m memory).outcome other
  where
    kept : (o : RunOutcome) → (o ≡ run.Halted → ⊥)
        → note_left o (low_byte (run_of budget m memory).state) m.note ≡ m.note
    kept run.Spent other = refl
    kept run.Halted other = absurd (other refl)
    kept (run.Stopped why) other = refl
    kept (run.Refused q) other = refl
