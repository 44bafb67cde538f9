-- Instructions' lines as they are written: the first four characters tell the instruction, what follows goes by its
-- format. Only the contracts of private functions speak of it.
use Rattle.std.specs.Prelude.{cond, List, [], ◌∷◌, ◌++◌, Option, Some, None, ℕ, ◌*◌, eqb, get_or}
use Prim.Native.Char.{code}
use Rattle.units.specs.Address.{branch_target_of}
use Rattle.units.specs.Field.{field, high_rs, high_rd}
use Rattle.units.specs.declared.address.ByteAddress.{ByteAddress}
use Rattle.isa.specs.declared.instruction.Instruction.{Instruction}
use Rattle.isa.specs.declared.instruction.Instruction.TheVariants.{MovImm, CmpImm, And, Eor, Asr, Tst, Neg, Cmp}
use Rattle.isa.specs.declared.instruction.Instruction.TheVariants.{AddHigh, CmpHigh, MovHigh, Str, Ldr, Strb, Ldrb}
use Rattle.isa.specs.declared.instruction.Instruction.TheVariants.{AddPc, Branch, Halt}
use Rattle.text.specs.Text.{Text, quoted, decimal, feed}
use Rattle.syntax.specs.Syntax.{conditions, register_word}

-- the first four characters of a line: of a branch its condition is among them
abbrev pub branch_names_of : List Text → List Text
branch_names_of [] = []
branch_names_of (w ∷ ws) = (code "B" ∷ (w ++ (code " " ∷ []))) ∷ branch_names_of ws

abbrev pub branch_names : List Text
branch_names = branch_names_of conditions

abbrev pub mnemonic : Instruction → Text
mnemonic (MovImm rd imm) = quoted "MOV "
mnemonic (CmpImm rd imm) = quoted "CMP "
mnemonic (And rs rd) = quoted "AND "
mnemonic (Eor rs rd) = quoted "EOR "
mnemonic (Asr rs rd) = quoted "ASR "
mnemonic (Tst rs rd) = quoted "TST "
mnemonic (Neg rs rd) = quoted "NEG "
mnemonic (Cmp rs rd) = quoted "CMP "
mnemonic (AddHigh rs rd) = quoted "ADD "
mnemonic (CmpHigh rs rd) = quoted "CMP "
mnemonic (MovHigh rs rd) = quoted "MOV "
mnemonic (Str offset rb rd) = quoted "STR "
mnemonic (Ldr offset rb rd) = quoted "LDR "
mnemonic (Strb offset rb rd) = quoted "STRB"
mnemonic (Ldrb offset rb rd) = quoted "LDRB"
mnemonic (AddPc rd imm) = quoted "ADD "
mnemonic (Branch condition offset) = get_or branch_names condition []
mnemonic (Halt note) = quoted "HALT"

-- an undefined halfword has none
abbrev pub name_in : Option Instruction → Option Text
name_in (Some i) = Some (mnemonic i)
name_in None = None

-- a line of these characters and what follows them; no line for none
abbrev pub named_line : Option Text → Text → Text
named_line (Some name) t = name ++ t
named_line None t = []

-- what follows, with the line feed
abbrev pub comma : Text
comma = quoted ", "

abbrev pub mark : Text
mark = quoted "#"

abbrev pub last_number : ℕ → Text
last_number n = decimal n ++ (feed ∷ [])

abbrev pub note_text : ℕ → Text
note_text note = quoted " #" ++ last_number note

abbrev pub immediate_text : ℕ → ℕ → Text
immediate_text r n = register_word r ++ comma ++ mark ++ last_number n

abbrev pub pair_text : ℕ → ℕ → Text
pair_text rd rs = register_word rd ++ comma ++ register_word rs ++ (feed ∷ [])

abbrev pub place_text : ℕ → ℕ → Text
place_text rb n = quoted "[" ++ register_word rb ++ comma ++ mark ++ decimal n ++ (code "]" ∷ feed ∷ [])

abbrev pub transfer_text : ℕ → ℕ → ℕ → Text
transfer_text rd rb n = register_word rd ++ comma ++ place_text rb n

abbrev pub add_pc_text : ℕ → ℕ → Text
add_pc_text r imm = register_word r ++ comma ++ quoted "PC, " ++ mark ++ last_number (4 * imm)

abbrev pub target_text : ByteAddress → Text
target_text a = quoted "a" ++ last_number a.0

-- two registers are low in the ALU's format, any in the other; STRB and LDRB have their space here
abbrev pub registers_text : ℕ → Text
registers_text h =
    cond (eqb (field h 10 3) 0) (pair_text (field h 0 3) (field h 3 3)) (pair_text (high_rd h) (high_rs h))

abbrev pub memory_text : ℕ → Text
memory_text h =
    cond (eqb (field h 12 1) 0) (transfer_text (field h 0 3) (field h 3 3) (4 * field h 6 5))
    (quoted " " ++ transfer_text (field h 0 3) (field h 3 3) (field h 6 5))

-- by a format's number, the top three bits; those that have no instruction of another format are taken for branches
abbrev pub operand_texts : ByteAddress → ℕ → List Text
operand_texts a h =
    note_text (field h 0 8)
    ∷ immediate_text (field h 8 3) (field h 0 8)
    ∷ registers_text h
    ∷ memory_text h
    ∷ target_text (branch_target_of a (field h 0 8))
    ∷ add_pc_text (field h 8 3) (field h 0 8)
    ∷ []

abbrev pub operands_at : ByteAddress → ℕ → ℕ → Text
operands_at a h n = get_or (operand_texts a h) n (target_text (branch_target_of a (field h 0 8)))

abbrev pub operands_of : ByteAddress → ℕ → Text
operands_of a h = operands_at a h (field h 13 3)
