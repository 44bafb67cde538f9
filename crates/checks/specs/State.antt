-- The abstract state ("Facts the judge carries"): an abstract value for each register, and what an instruction
-- makes of them.
use Rattle.std.specs.Prelude.{List, ℕ, get_or, set, replicate, Option, Some, None}
use Rattle.units.specs.Address.{pc_sum}
use Rattle.units.specs.declared.address.ByteAddress.{ByteAddress}
use Rattle.isa.specs.declared.instruction.Instruction.{Instruction}
use Rattle.isa.specs.declared.instruction.Instruction.TheVariants.{MovImm, CmpImm, And, Eor, Asr, Tst, Neg, Cmp}
use Rattle.isa.specs.declared.instruction.Instruction.TheVariants.{AddHigh, CmpHigh, MovHigh, Str, Ldr, Strb, Ldrb}
use Rattle.isa.specs.declared.instruction.Instruction.TheVariants.{AddPc, Branch, Halt}
use Rattle.domain.specs.declared.value.Value.{Value}
use Rattle.domain.specs.Value.{unknown_of, exactly_of, add_of, and_of, eor_of, asr_of, neg_of, byte_of}

-- the machine's registers are R0 to R15, and R15 is the PC
abbrev pub register_count : ℕ
register_count = 16

abbrev pub pc_register : ℕ
pc_register = 15

-- the values of R0 to R15, in order. The papers carry those of R0 to R14; that of R15 is the address of the
-- instruction, which is always known
abbrev pub State : Type 0
State = List Value

-- nothing is known of any register
abbrev pub unknown_state : State
unknown_state = replicate register_count unknown_of

-- an instruction reads R15 as its own address
abbrev pub standing_at : ByteAddress → State → State
standing_at a s = set s pc_register (exactly_of a.0)

-- the value of a register
abbrev pub value : State → ℕ → Value
value s r = get_or s r unknown_of

-- the state after the instruction at an address, from that before it: comparisons, stores, branches and HALT
-- change no register's value
abbrev pub transfer_of : ByteAddress → Instruction → State → State
transfer_of a (MovImm rd imm) s = set s rd (exactly_of imm)
transfer_of a (CmpImm rd imm) s = s
transfer_of a (And rs rd) s = set s rd (and_of (value s rd) (value s rs))
transfer_of a (Eor rs rd) s = set s rd (eor_of (value s rd) (value s rs))
transfer_of a (Asr rs rd) s = set s rd (asr_of (value s rd))
transfer_of a (Tst rs rd) s = s
transfer_of a (Neg rs rd) s = set s rd (neg_of (value s rs))
transfer_of a (Cmp rs rd) s = s
transfer_of a (AddHigh rs rd) s = set s rd (add_of (value s rd) (value s rs))
transfer_of a (CmpHigh rs rd) s = s
transfer_of a (MovHigh rs rd) s = set s rd (value s rs)
transfer_of a (Str offset rb rd) s = s
transfer_of a (Ldr offset rb rd) s = set s rd unknown_of
transfer_of a (Strb offset rb rd) s = s
transfer_of a (Ldrb offset rb rd) s = set s rd byte_of
transfer_of a (AddPc rd imm) s = set s rd (exactly_of (pc_sum a imm))
transfer_of a (Branch condition offset) s = s
transfer_of a (Halt note) s = s

-- an undefined halfword changes nothing: the code is refused there
abbrev pub after_of : ByteAddress → Option Instruction → State → State
after_of a (Some i) s = transfer_of a i s
after_of a None s = s
