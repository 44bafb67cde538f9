-- Instruction numbers and byte addresses ("Image blocks"), where a branch goes, and what ADD Rd, PC gives ("One step").
use Rattle.std.specs.Prelude.{ℕ, ◌+◌, ◌*◌, ◌/◌, ◌%◌, cond, nat_lt}
use Rattle.units.specs.declared.address.ByteAddress.{ByteAddress}
use Rattle.units.specs.declared.address.InstructionIndex.{InstructionIndex}

-- numbers are 16 bits wide: what goes past the last comes round to 0
abbrev pub wrap : ℕ → ℕ
wrap n = n % 65536

-- the bytes of the machine's memory, one for each address
abbrev pub memory_bytes : ℕ
memory_bytes = 65536

-- an instruction is two bytes long
abbrev pub byte_address_of : InstructionIndex → ByteAddress
byte_address_of i = record { 0 = wrap (2 * i.0) }

-- the instruction that a byte belongs to
abbrev pub instruction_index_of : ByteAddress → InstructionIndex
instruction_index_of a = record { 0 = a.0 / 2 }

-- twice a branch's signed byte, modulo 65,536: 0 to 127 stand for themselves, 128 to 255 for -128 to -1
abbrev pub branch_distance : ℕ → ℕ
branch_distance offset = cond (nat_lt offset 128) (2 * offset) (2 * offset + 65024)

-- a taken branch goes that far from its own address
abbrev pub branch_target_of : ByteAddress → ℕ → ByteAddress
branch_target_of a offset = record { 0 = wrap (a.0 + branch_distance offset) }

-- ADD Rd, PC gives the address with its two low bits cleared, plus four times the immediate
abbrev pub pc_sum : ByteAddress → ℕ → ℕ
pc_sum a imm = wrap (a.0 / 4 * 4 + 4 * imm)
