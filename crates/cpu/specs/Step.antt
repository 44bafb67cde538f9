-- One step: what each instruction does, under its page's name and in the manual's order, and then a step as a whole.
use Rattle.std.specs.Prelude.{ℕ, ◌+◌, ◌*◌, ◌%◌, Bool, cond, List, length, ◌==◌, bit_and, bit_xor, slice_set}
use Rattle.std.specs.Prelude.{Option, Some, None}
use Rattle.units.specs.Address.{wrap, branch_target_of, pc_sum, memory_bytes}
use Rattle.refusals.specs.declared.check.Check.TheVariants as check
use Rattle.refusals.specs.Refusal.{refusal}
use Rattle.units.specs.Bytes.{byte_at, halfword_at, with_byte, with_halfword}
use Rattle.isa.specs.Decode.{decode_of}
use Rattle.isa.specs.declared.instruction.Instruction.{Instruction}
use Rattle.isa.specs.declared.instruction.Instruction.TheVariants.{MovImm, CmpImm, And, Eor, Asr, Tst, Neg, Cmp}
use Rattle.isa.specs.declared.instruction.Instruction.TheVariants.{AddHigh, CmpHigh, MovHigh, Str, Ldr, Strb, Ldrb}
use Rattle.isa.specs.declared.instruction.Instruction.TheVariants.{AddPc, Branch, Halt}
use Rattle.cpu.specs.declared.machine.Machine.{Machine}
use Rattle.cpu.specs.declared.outcome.Outcome.{Outcome}
use Rattle.cpu.specs.declared.outcome.Outcome.TheVariants.{Completed, Halted, Stopped, Refused}
use Rattle.cpu.specs.declared.outcome.Stop.{Stop}
use Rattle.cpu.specs.declared.outcome.Stop.TheVariants as stop
use Rattle.cpu.specs.Machine.{reg, pc, flags, updated, with_note, advanced, written}
use Rattle.alu.specs.Alu.{result_flags, sum_of, sum_flags, difference_of, difference_flags, shift_of, shift_flags}
use Rattle.alu.specs.Alu.{condition_of}

-- a machine and the memory beside it
pub record State : Type 0 where
  pub machine : Machine
  pub memory : List ℕ

-- where a step leads, and how it ended
pub record StepResult : Type 0 where
  pub state : State
  pub outcome : Outcome

abbrev pub step_result : Machine → List ℕ → Outcome → StepResult
step_result m memory outcome = record { state = record { machine = m; memory = memory }; outcome = outcome }

abbrev pub completed : Machine → List ℕ → StepResult
completed m memory = step_result m memory Completed

-- a stop leaves everything as it was
abbrev pub stopped : Stop → Machine → List ℕ → StepResult
stopped why m memory = step_result m memory (Stopped why)

-- a result for Rd of which N and Z speak
abbrev pub resulting : ℕ → ℕ → Machine → Machine
resulting rd r m = updated m (written m.regs rd r) (result_flags r (flags m))

-- ADD(1): the sum of two registers, with all four flags
unfoldable pub add_high_of : ℕ → ℕ → Machine → Machine
add_high_of rs rd m =
    let a = reg m rd in
    let b = reg m rs in
    updated m (written m.regs rd (sum_of a b)) (sum_flags a b)

-- ADD(2): the PC with its two low bits cleared, plus 4 times the immediate; no flag
unfoldable pub add_pc_of : ℕ → ℕ → Machine → Machine
add_pc_of rd imm m = updated m (written m.regs rd (pc_sum (record { 0 = pc m }) imm)) (flags m)

-- AND
unfoldable pub and_of : ℕ → ℕ → Machine → Machine
and_of rs rd m = resulting rd (bit_and (reg m rd) (reg m rs)) m

-- ASR: by bits 7 to 0 of Rs, as Rs is before Rd changes
unfoldable pub asr_of : ℕ → ℕ → Machine → Machine
asr_of rs rd m =
    let a = reg m rd in
    let k = reg m rs % 256 in
    updated m (written m.regs rd (shift_of a k)) (shift_flags a k (flags m))

-- B: to its target where the condition holds, else on to the next instruction; no flag
unfoldable pub branch_of : ℕ → ℕ → Machine → Machine
branch_of condition offset m =
    updated m
    (cond (condition_of condition (flags m))
    (slice_set m.regs 15 (branch_target_of (record { 0 = pc m }) offset).0)
    (advanced m.regs))
    (flags m)

-- a comparison of a with b: only the flags of a - b
abbrev pub comparing : ℕ → ℕ → Machine → Machine
comparing a b m = updated m (advanced m.regs) (difference_flags a b)

-- CMP(1)
unfoldable pub cmp_imm_of : ℕ → ℕ → Machine → Machine
cmp_imm_of rd imm m = comparing (reg m rd) imm m

-- CMP(2)
unfoldable pub cmp_of : ℕ → ℕ → Machine → Machine
cmp_of rs rd m = comparing (reg m rd) (reg m rs) m

-- CMP(3)
unfoldable pub cmp_high_of : ℕ → ℕ → Machine → Machine
cmp_high_of rs rd m = comparing (reg m rd) (reg m rs) m

-- EOR
unfoldable pub eor_of : ℕ → ℕ → Machine → Machine
eor_of rs rd m = resulting rd (bit_xor (reg m rd) (reg m rs)) m

-- where a load or a store goes: a distance past the base register, wrapping
abbrev pub effective_address : Machine → ℕ → ℕ → ℕ
effective_address m rb distance = wrap (reg m rb + distance)

-- halfwords are loaded and stored at addresses divisible by 4; elsewhere comes stop 20
abbrev pub aligned : ℕ → Bool
aligned a = a % 4 == 0

-- LDR, its distance 4 times the field; no flag
unfoldable pub ldr_of : ℕ → ℕ → ℕ → Machine → List ℕ → StepResult
ldr_of offset rb rd m memory =
    let a = effective_address m rb (4 * offset) in
    cond (aligned a)
    (completed (updated m (written m.regs rd (halfword_at memory a)) (flags m)) memory)
    (stopped stop.Misaligned m memory)

-- LDRB: one byte, the upper half of Rd 0; no flag
unfoldable pub ldrb_of : ℕ → ℕ → ℕ → Machine → List ℕ → Machine
ldrb_of offset rb rd m memory =
    updated m (written m.regs rd (byte_at memory (effective_address m rb offset))) (flags m)

-- MOV(1)
unfoldable pub mov_imm_of : ℕ → ℕ → Machine → Machine
mov_imm_of rd imm m = resulting rd imm m

-- MOV(2)
unfoldable pub mov_high_of : ℕ → ℕ → Machine → Machine
mov_high_of rs rd m = resulting rd (reg m rs) m

-- NEG: 0 - Rs, with all four flags
unfoldable pub neg_of : ℕ → ℕ → Machine → Machine
neg_of rs rd m = updated m (written m.regs rd (difference_of 0 (reg m rs))) (difference_flags 0 (reg m rs))

-- STR, as LDR; no flag
unfoldable pub str_of : ℕ → ℕ → ℕ → Machine → List ℕ → StepResult
str_of offset rb rd m memory =
    let a = effective_address m rb (4 * offset) in
    cond (aligned a)
    (completed (updated m (advanced m.regs) (flags m)) (with_halfword memory a (reg m rd)))
    (stopped stop.Misaligned m memory)

-- STRB: the low byte of Rd; no flag
unfoldable pub strb_of : ℕ → ℕ → ℕ → Machine → List ℕ → StepResult
strb_of offset rb rd m memory =
    completed (updated m (advanced m.regs) (flags m)) (with_byte memory (effective_address m rb offset) (reg m rd))

-- TST: only the flags of AND
unfoldable pub tst_of : ℕ → ℕ → Machine → Machine
tst_of rs rd m = updated m (advanced m.regs) (result_flags (bit_and (reg m rd) (reg m rs)) (flags m))

-- HALT leaves its note and changes nothing else: the PC stays on it
unfoldable pub execute_of : Instruction → Machine → List ℕ → StepResult
execute_of (MovImm rd imm) m memory = completed (mov_imm_of rd imm m) memory
execute_of (CmpImm rd imm) m memory = completed (cmp_imm_of rd imm m) memory
execute_of (And rs rd) m memory = completed (and_of rs rd m) memory
execute_of (Eor rs rd) m memory = completed (eor_of rs rd m) memory
execute_of (Asr rs rd) m memory = completed (asr_of rs rd m) memory
execute_of (Tst rs rd) m memory = completed (tst_of rs rd m) memory
execute_of (Neg rs rd) m memory = completed (neg_of rs rd m) memory
execute_of (Cmp rs rd) m memory = completed (cmp_of rs rd m) memory
execute_of (AddHigh rs rd) m memory = completed (add_high_of rs rd m) memory
execute_of (CmpHigh rs rd) m memory = completed (cmp_high_of rs rd m) memory
execute_of (MovHigh rs rd) m memory = completed (mov_high_of rs rd m) memory
execute_of (Str offset rb rd) m memory = str_of offset rb rd m memory
execute_of (Ldr offset rb rd) m memory = ldr_of offset rb rd m memory
execute_of (Strb offset rb rd) m memory = strb_of offset rb rd m memory
execute_of (Ldrb offset rb rd) m memory = completed (ldrb_of offset rb rd m memory) memory
execute_of (AddPc rd imm) m memory = completed (add_pc_of rd imm m) memory
execute_of (Branch condition offset) m memory = completed (branch_of condition offset m) memory
execute_of (Halt note) m memory = step_result (with_note note m) memory Halted

-- a halfword that is no instruction: stop 19
abbrev pub execute_decoded : Option Instruction → Machine → List ℕ → StepResult
execute_decoded (Some i) m memory = execute_of i m memory
execute_decoded None m memory = stopped stop.Undefined m memory

-- what the halfword at the PC says
unfoldable pub fetched : Machine → List ℕ → Option Instruction
fetched m memory = decode_of (halfword_at memory (pc m))

-- the low byte of that halfword, which is HALT's note (Change 1)
abbrev pub low_byte : State → ℕ
low_byte s = byte_at s.memory (pc s.machine)

-- an odd PC: stop 18
unfoldable pub fetch_and_execute : Machine → List ℕ → StepResult
fetch_and_execute m memory =
    cond (pc m % 2 == 0) (execute_decoded (fetched m memory) m memory) (stopped stop.OddPc m memory)

-- check 1 comes first: a memory of any other size is refused, and nothing changes
unfoldable pub step_of : Machine → List ℕ → StepResult
step_of m memory =
    cond (length memory == memory_bytes)
    (fetch_and_execute m memory)
    (step_result m memory (Refused (refusal check.MemorySize)))
