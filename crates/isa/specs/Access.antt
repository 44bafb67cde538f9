-- What an instruction touches beside its registers: the data of a load or store ("Words of demand 3"). A step's
-- traffic (Change 2), checks 10 and 11, and demand 3 all speak of these bytes.
use Rattle.std.specs.Prelude.{Bool, true, false, ℕ, ◌*◌}
use Rattle.isa.specs.declared.instruction.Instruction.{Instruction}
use Rattle.isa.specs.declared.instruction.Instruction.TheVariants.{MovImm, CmpImm, And, Eor, Asr, Tst, Neg, Cmp}
use Rattle.isa.specs.declared.instruction.Instruction.TheVariants.{AddHigh, CmpHigh, MovHigh, Str, Ldr, Strb}
use Rattle.isa.specs.declared.instruction.Instruction.TheVariants.{Ldrb, AddPc, Branch, Halt}

-- the data of an instruction: `size` bytes, `offset` bytes past what the register `base` holds, and
-- whether it stores them
pub record Access : Type 0 where
  pub base : ℕ
  pub offset : ℕ
  pub size : ℕ
  pub stores : Bool

abbrev pub no_access : Access
no_access = record { base = 0; offset = 0; size = 0; stores = false }

-- of a load. A halfword is two bytes, and its offset counts in fours ("Encodings")
abbrev pub halfword_access : ℕ → ℕ → Access
halfword_access offset rb = record { base = rb; offset = 4 * offset; size = 2; stores = false }

abbrev pub byte_access : ℕ → ℕ → Access
byte_access offset rb = record { base = rb; offset = offset; size = 1; stores = false }

-- of a store to the same bytes
abbrev pub storing : Access → Access
storing access = record { base = access.base; offset = access.offset; size = access.size; stores = true }

-- the data of each instruction; of all but loads and stores, none
abbrev pub access_of : Instruction → Access
access_of (MovImm rd imm) = no_access
access_of (CmpImm rd imm) = no_access
access_of (And rs rd) = no_access
access_of (Eor rs rd) = no_access
access_of (Asr rs rd) = no_access
access_of (Tst rs rd) = no_access
access_of (Neg rs rd) = no_access
access_of (Cmp rs rd) = no_access
access_of (AddHigh rs rd) = no_access
access_of (CmpHigh rs rd) = no_access
access_of (MovHigh rs rd) = no_access
access_of (Str offset rb rd) = storing (halfword_access offset rb)
access_of (Ldr offset rb rd) = halfword_access offset rb
access_of (Strb offset rb rd) = storing (byte_access offset rb)
access_of (Ldrb offset rb rd) = byte_access offset rb
access_of (AddPc rd imm) = no_access
access_of (Branch condition offset) = no_access
access_of (Halt note) = no_access
