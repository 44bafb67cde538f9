-- Branch targets ("Facts the judge carries": landing places). Instructions are counted from 0; the code is a
-- list of halfwords.
use Rattle.std.specs.Prelude.{Bool, false, ◌||◌, List, ℕ, zero, suc, ◌/◌, ◌%◌, ◌^◌, eqb, length, get_or}
use Rattle.units.specs.Address.{byte_address_of, instruction_index_of}
use Rattle.units.specs.declared.address.ByteAddress.{ByteAddress}
use Rattle.isa.specs.Decode.{decode_of}
use Rattle.targets.specs.Jumps.{jump_of}
use Rattle.std.specs.Prelude.{Option, Some, None}
use Rattle.isa.specs.declared.instruction.Instruction.{Instruction}

-- the byte address of instruction i
abbrev pub address_of : ℕ → ByteAddress
address_of i = byte_address_of (record { 0 = i })

-- instruction i of a code, decoded
unfoldable pub decoded_at : List ℕ → ℕ → Option Instruction
decoded_at code i = decode_of (get_or code i 0)

-- where it can go
abbrev pub jump_at : ByteAddress → Option Instruction → Option ByteAddress
jump_at a (Some i) = jump_of a i
jump_at a None = None

-- whether that is instruction j
abbrev pub lands_on : Option ByteAddress → ℕ → Bool
lands_on (Some a) j = eqb (instruction_index_of a).0 j
lands_on None j = false

-- instruction i of the code is a branch to instruction j
unfoldable pub goes_to : List ℕ → ℕ → ℕ → Bool
goes_to code i j = lands_on (jump_at (address_of i) (decoded_at code i)) j

-- some branch of the first n instructions goes to instruction j
unfoldable pub targeted_below : List ℕ → ℕ → ℕ → Bool
targeted_below code zero j = false
targeted_below code (suc n) j = goes_to code n j || targeted_below code n j

-- some branch of the whole code does
unfoldable pub targeted : List ℕ → ℕ → Bool
targeted code j = targeted_below code (length code) j

-- the marks are a bit for each of the 15,936 instructions that a code can have, in words of 64
abbrev pub mark_words : ℕ
mark_words = 249

-- whether instruction j is marked
abbrev pub marked_at : List ℕ → ℕ → Bool
marked_at marks j = eqb (get_or marks (j / 64) 0 / 2 ^ (j % 64) % 2) 1
