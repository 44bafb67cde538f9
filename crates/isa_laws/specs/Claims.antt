-- What is claimed of the instruction set as a whole ("Encodings").
use Rattle.std.specs.Prelude.{◌≡◌, ℕ, ◌*◌, ◌<◌, ◌≤◌, Some, None, Ok}
use Rattle.units.specs.declared.address.InstructionIndex.{InstructionIndex}
use Rattle.units.specs.Address.{byte_address_of, instruction_index_of}
use Rattle.isa.specs.declared.instruction.Instruction.{Instruction}
use Rattle.isa.specs.declared.instruction.Instruction.TheVariants.{Halt}
use Rattle.isa.specs.Decode.{decode_of}
use Rattle.isa.specs.Encode.{encode_of}
use Rattle.isa.specs.Count.{defined_below}

-- an instruction that was decoded encodes to the halfword it came from: the encoder refuses only what no halfword says
abbrev pub DecodeThenEncode : Type 0
DecodeThenEncode = (h : ℕ) → h < 65536 → (i : Instruction) → decode_of h ≡ Some i → encode_of i ≡ Ok h

-- a halfword that was encoded decodes to the instruction it came from
abbrev pub EncodeThenDecode : Type 0
EncodeThenDecode = (i : Instruction) (h : ℕ) → encode_of i ≡ Ok h → decode_of h ≡ Some i

-- HALT is the halfwords from 0 to 255, each with itself as note (Change 1); the rest of its format says nothing
pub record HaltNotes : Type 0 where
  pub only_below : (h note : ℕ) → decode_of h ≡ Some (Halt note) → (h ≡ note) × (note < 256)
  pub all_below : (note : ℕ) → note < 256 → decode_of note ≡ Some (Halt note)
  pub none_above : (h : ℕ) → 256 ≤ h → h < 0x2000 → decode_of h ≡ None

-- how many halfwords are defined
abbrev pub DefinedCount : Type 0
DefinedCount = defined_below 65536 ≡ 19264

-- up to 32,767 an instruction's address is twice its number, and leads back to it
abbrev pub AddressesExact : Type 0
AddressesExact =
    (i : InstructionIndex) → i.0 ≤ 32767
    → ((byte_address_of i).0 ≡ 2 * i.0) × (instruction_index_of (byte_address_of i) ≡ i)

-- an even address is twice its instruction's number
abbrev pub NumbersExact : Type 0
NumbersExact = (n : ℕ) → (instruction_index_of (record { 0 = 2 * n })).0 ≡ n
