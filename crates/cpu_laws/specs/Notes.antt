-- What is claimed of the note (Change 1): where a step or a run ends at HALT the low byte there becomes the note, and
-- every other ending hands on the note that it found.
use Rattle.std.specs.Prelude.{List, ◌≡◌, ℕ}
use Rattle.cpu.specs.declared.machine.Machine.{Machine}
use Rattle.cpu.specs.declared.outcome.Outcome.TheVariants.{Halted}
use Rattle.runner.specs.declared.runs.RunOutcome.TheVariants as run
use Rattle.cpu.specs.Machine.{with_note}
use Rattle.cpu.specs.Step.{State, low_byte}
use Rattle.runner.specs.Run.{state, outcome_at, next_state, run_of}

-- a state with the low byte of the halfword at the PC as note, and all else as it is
abbrev pub halted_state : State → State
halted_state s = state (with_note (low_byte s) s.machine) s.memory

-- a step
abbrev pub NoteSet : Type 0
NoteSet = (s : State) → outcome_at s ≡ Halted → next_state s ≡ halted_state s

abbrev pub NoteKept : Type 0
NoteKept = (s : State) → (outcome_at s ≡ Halted → ⊥) → (next_state s).machine.note ≡ s.machine.note

-- a run, of any budget and in a memory of any size: its result still stands on HALT
abbrev pub RunNoteSet : Type 0
RunNoteSet =
    (budget : ℕ) (m : Machine) (memory : List ℕ) → (run_of budget m memory).outcome ≡ run.Halted
    → (run_of budget m memory).state.machine.note ≡ low_byte (run_of budget m memory).state

abbrev pub RunNoteKept : Type 0
RunNoteKept =
    (budget : ℕ) (m : Machine) (memory : List ℕ) → ((run_of budget m memory).outcome ≡ run.Halted → ⊥)
    → (run_of budget m memory).state.machine.note ≡ m.note
