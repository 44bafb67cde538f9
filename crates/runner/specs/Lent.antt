-- A machine whose registers are lent and whose flags come by value; its note is kept by whoever has it.
use Rattle.std.specs.Prelude.{List, ℕ}
use Rattle.cpu.specs.declared.machine.Machine.{Machine}
use Rattle.alu.specs.declared.status.Status.{Status}
use Rattle.cpu.specs.Machine.{with_note}
use Rattle.cpu.specs.Held.{bare}
use Rattle.runner.specs.Run.{RunResult, run_result}
use Rattle.runner.specs.declared.runs.RunOutcome.{RunOutcome}
use Rattle.runner.specs.declared.runs.RunOutcome.TheVariants as ended
use Rattle.alu.specs.Control.{flags_of}

abbrev pub lent : List ℕ → Status → Machine
lent regs s = bare regs (flags_of s)

-- a run's result but for its note
abbrev pub unnoted_run : RunResult → RunResult
unnoted_run r = run_result (with_note 0 r.state.machine) r.state.memory r.outcome r.count

-- the note after a run that ended so, where the byte at the PC and the note before are given: HALT sets it, on which
-- the PC still stands
abbrev pub note_left : RunOutcome → ℕ → ℕ → ℕ
note_left ended.Spent low before = before
note_left ended.Halted low before = low
note_left (ended.Stopped why) low before = before
note_left (ended.Refused r) low before = before
