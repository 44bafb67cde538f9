-- How the code holds a machine while it works: registers in an array, and by value beside it the PC and the flags. No
-- instruction looks at the note, so none is held.
-- Only contracts of functions that are no entry points speak of it.
use Rattle.std.specs.Prelude.{◌≡◌, ℕ, ◌+◌, Bool, cond, List, length, ◌==◌, slice_set, Option, None}
use Rattle.units.specs.Address.{wrap, branch_target_of}
use Rattle.units.specs.Field.{field}
use Rattle.isa.specs.Decode.{only, branch_of, decode_of}
use Rattle.isa.specs.declared.instruction.Instruction.{Instruction}
use Rattle.alu.specs.declared.control.Control.{Control}
use Rattle.alu.specs.Control.{flags_in, moved}
use Rattle.alu.specs.Flags.{Flags}
use Rattle.cpu.specs.declared.machine.Machine.{Machine}
use Rattle.cpu.specs.declared.held.Executed.{Executed}
use Rattle.cpu.specs.Machine.{machine, with_note}
use Rattle.traffic.specs.declared.data.Traffic.{Traffic}
use Rattle.cpu.specs.Step.{StepResult, step_result, execute_of, execute_decoded}
use Rattle.cpu.specs.Traffic.{traffic_of, decoded_traffic, when_completed}
use Rattle.traffic.specs.declared.log.Log.{Log}
use Rattle.traffic.specs.Log.{logged}

-- a machine with note 0
abbrev pub bare : List ℕ → Flags → Machine
bare regs f = machine regs f 0

-- the machine that is held; R15 is the PC beside the array
abbrev pub held : List ℕ → Control → Machine
held regs k = bare (slice_set regs 15 k.pc) (flags_in k)

-- the array has all sixteen
abbrev pub Whole : List ℕ → Type 0
Whole regs = length regs ≡ 16

-- a step's result but for its note
abbrev pub unnoted : StepResult → StepResult
unnoted r = step_result (with_note 0 r.state.machine) r.state.memory r.outcome

-- a step's result, and the log after it (Change 2)
pub record Told : Type 0 where
  pub result : StepResult
  pub log : Log

-- of the step with a number, which touches this if it completes
abbrev pub telling : StepResult → Traffic → ℕ → Log → Told
telling r t step log = record { result = r; log = logged step (when_completed r.outcome t) log }

-- that of an instruction, and of a halfword so decoded
abbrev pub told_of : Instruction → Machine → List ℕ → ℕ → Log → Told
told_of i m memory = telling (execute_of i m memory) (traffic_of i m)

abbrev pub told_decoded : Option Instruction → Machine → List ℕ → ℕ → Log → Told
told_decoded d m memory = telling (execute_decoded d m memory) (decoded_traffic d m)

-- such a result is held
pub record Leads (regs : List ℕ) (e : Executed) (memory : List ℕ) (log : Log) (q : Told) : Type 0 where
  pub result : step_result (held regs e.control) memory e.outcome ≡ unnoted q.result
  pub logs : log ≡ q.log

-- what a halfword does that leaves registers, memory and log alone, whatever they are
abbrev pub Beside : Executed → Control → Option Instruction → Type 0
Beside e k d =
    (regs memory : List ℕ) (log : Log) (step : ℕ) → Whole regs
    → Leads regs e memory log (told_decoded d (held regs k) memory step log)

-- what a branch leaves beside the registers, taken or not
abbrev pub branched : Bool → ℕ → Control → Control
branched holds offset k = moved (cond holds (branch_target_of (record { 0 = k.pc }) offset).0 (wrap (k.pc + 2))) k

-- what a halfword says where all formats but the branch's have been looked at, and where all but those of registers
-- are left
abbrev pub branch_else : ℕ → Option Instruction
branch_else h = only (field h 13 3 == 6) (branch_of h)

abbrev pub other_else : ℕ → Option Instruction
other_else h = cond (field h 13 3 == 2) None (decode_of h)
