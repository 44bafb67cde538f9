-- The place that a branch goes to.
use Rattle.units.specs.Address.{branch_target_of}
use Rattle.units.specs.declared.address.ByteAddress.{ByteAddress}
use Rattle.isa.specs.declared.instruction.Instruction.{Instruction}
use Rattle.isa.specs.declared.instruction.Instruction.TheVariants.{MovImm, CmpImm, And, Eor, Asr, Tst, Neg, Cmp}
use Rattle.isa.specs.declared.instruction.Instruction.TheVariants.{AddHigh, CmpHigh, MovHigh, Str, Ldr, Strb, Ldrb}
use Rattle.isa.specs.declared.instruction.Instruction.TheVariants.{AddPc, Branch, Halt}
use Rattle.std.specs.Prelude.{Option, Some, None}

-- where an instruction at an address can go, other than on to the next
abbrev pub jump_of : ByteAddress → Instruction → Option ByteAddress
jump_of a (MovImm rd imm) = None
jump_of a (CmpImm rd imm) = None
jump_of a (And rs rd) = None
jump_of a (Eor rs rd) = None
jump_of a (Asr rs rd) = None
jump_of a (Tst rs rd) = None
jump_of a (Neg rs rd) = None
jump_of a (Cmp rs rd) = None
jump_of a (AddHigh rs rd) = None
jump_of a (CmpHigh rs rd) = None
jump_of a (MovHigh rs rd) = None
jump_of a (Str offset rb rd) = None
jump_of a (Ldr offset rb rd) = None
jump_of a (Strb offset rb rd) = None
jump_of a (Ldrb offset rb rd) = None
jump_of a (AddPc rd imm) = None
jump_of a (Branch condition offset) = Some (branch_target_of a offset)
jump_of a (Halt note) = None
