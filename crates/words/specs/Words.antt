-- Instructions as 32-bit words: the kind in the top byte, then the fields in their order. Kinds count from 1.
use Rattle.std.specs.Prelude.{List, [], ◌∷◌, ℕ, ◌+◌, ◌*◌, ◌/◌, ◌%◌, Option, Some, None}
use Rattle.isa.specs.declared.instruction.Instruction.{Instruction}
use Rattle.isa.specs.declared.instruction.Instruction.TheVariants.{MovImm, CmpImm, And, Eor, Asr, Tst, Neg, Cmp}
use Rattle.isa.specs.declared.instruction.Instruction.TheVariants.{AddHigh, CmpHigh, MovHigh, Str, Ldr, Strb, Ldrb}
use Rattle.isa.specs.declared.instruction.Instruction.TheVariants.{AddPc, Branch, Halt}
use Rattle.isa.specs.Decode.{entry}

abbrev pub word : ℕ → ℕ → ℕ → ℕ → ℕ
word kind a b c = kind * 0x1000000 + a * 0x10000 + b * 0x100 + c

abbrev pub word_of : Instruction → ℕ
word_of (MovImm rd imm) = word 1 rd imm 0
word_of (CmpImm rd imm) = word 2 rd imm 0
word_of (And rs rd) = word 3 rs rd 0
word_of (Eor rs rd) = word 4 rs rd 0
word_of (Asr rs rd) = word 5 rs rd 0
word_of (Tst rs rd) = word 6 rs rd 0
word_of (Neg rs rd) = word 7 rs rd 0
word_of (Cmp rs rd) = word 8 rs rd 0
word_of (AddHigh rs rd) = word 9 rs rd 0
word_of (CmpHigh rs rd) = word 10 rs rd 0
word_of (MovHigh rs rd) = word 11 rs rd 0
word_of (Str offset rb rd) = word 12 offset rb rd
word_of (Ldr offset rb rd) = word 13 offset rb rd
word_of (Strb offset rb rd) = word 14 offset rb rd
word_of (Ldrb offset rb rd) = word 15 offset rb rd
word_of (AddPc rd imm) = word 16 rd imm 0
word_of (Branch condition offset) = word 17 condition offset 0
word_of (Halt note) = word 18 note 0 0

-- a decoded halfword; 0 is undefined
abbrev pub decoded_word : Option Instruction → ℕ
decoded_word (Some i) = word_of i
decoded_word None = 0

-- the instruction that a kind and three bytes stand for, by kind from 0; a byte that the kind has
-- no field for says nothing
abbrev pub kinds : ℕ → ℕ → ℕ → List (Option Instruction)
kinds a b c =
    None
    ∷ Some (MovImm a b)
    ∷ Some (CmpImm a b)
    ∷ Some (And a b)
    ∷ Some (Eor a b)
    ∷ Some (Asr a b)
    ∷ Some (Tst a b)
    ∷ Some (Neg a b)
    ∷ Some (Cmp a b)
    ∷ Some (AddHigh a b)
    ∷ Some (CmpHigh a b)
    ∷ Some (MovHigh a b)
    ∷ Some (Str a b c)
    ∷ Some (Ldr a b c)
    ∷ Some (Strb a b c)
    ∷ Some (Ldrb a b c)
    ∷ Some (AddPc a b)
    ∷ Some (Branch a b)
    ∷ Some (Halt a)
    ∷ []

-- the instruction of a word
abbrev pub instruction_of : ℕ → Option Instruction
instruction_of w = entry (kinds (w / 0x10000 % 256) (w / 0x100 % 256) (w % 256)) (w / 0x1000000)
