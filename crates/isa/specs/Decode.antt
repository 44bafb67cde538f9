-- What each halfword says ("Encodings"). A format has a table, in which an entry's place is the
-- number of its operation.
use Rattle.std.specs.Prelude.{Bool, cond, List, [], ◌∷◌, ℕ, zero, suc, ltb, eqb, Option, Some, None}
use Rattle.units.specs.Field.{field, high_rs, high_rd}
use Rattle.isa.specs.declared.instruction.Instruction.TheVariants.{MovImm, CmpImm, And, Eor, Asr, Tst, Neg, Cmp}
use Rattle.isa.specs.declared.instruction.Instruction.TheVariants.{AddHigh, CmpHigh, MovHigh, Str, Ldr, Strb}
use Rattle.isa.specs.declared.instruction.Instruction.TheVariants.{Ldrb, AddPc, Branch, Halt}
use Rattle.isa.specs.declared.instruction.Instruction.{Instruction}

-- the entry at a place of a table; past its end, nothing
abbrev pub entry : List (Option Instruction) → ℕ → Option Instruction
entry [] n = None
entry (d ∷ ds) zero = d
entry (d ∷ ds) (suc n) = entry ds n

-- d where the test passes
abbrev pub only : Bool → Option Instruction → Option Instruction
only test d = cond test d None

-- 00000000 note:8 (Change 1)
abbrev pub halt_of : ℕ → Option Instruction
halt_of h = only (ltb h 256) (Some (Halt (field h 0 8)))

-- 001 op:2 Rd:3 imm:8
abbrev pub imm_table : ℕ → List (Option Instruction)
imm_table h =
    let rd = field h 8 3 in
    let imm = field h 0 8 in
    Some (MovImm rd imm)
    ∷ Some (CmpImm rd imm)
    ∷ []

abbrev pub imm_of : ℕ → Option Instruction
imm_of h = entry (imm_table h) (field h 11 2)

-- 010000 op:4 Rs:3 Rd:3
abbrev pub alu_table : ℕ → List (Option Instruction)
alu_table h =
    let rs = field h 3 3 in
    let rd = field h 0 3 in
    Some (And rs rd)
    ∷ Some (Eor rs rd)
    ∷ Some (Asr rs rd)
    ∷ Some (Tst rs rd)
    ∷ Some (Neg rs rd)
    ∷ Some (Cmp rs rd)
    ∷ []

abbrev pub alu_of : ℕ → Option Instruction
alu_of h = entry (alu_table h) (field h 6 4)

-- 010001 op:2 H1:1 H2:1 Rs:3 Rd:3, where H1 adds 8 to Rd and H2 adds 8 to Rs; a comparison of two low registers has a
-- format of its own, and none here
abbrev pub high_table : ℕ → List (Option Instruction)
high_table h =
    let rs = high_rs h in
    let rd = high_rd h in
    Some (AddHigh rs rd)
    ∷ only (ltb 0 (field h 6 2)) (Some (CmpHigh rs rd))
    ∷ Some (MovHigh rs rd)
    ∷ []

abbrev pub high_of : ℕ → Option Instruction
high_of h = entry (high_table h) (field h 8 2)

-- 010: the two formats above
abbrev pub registers_table : ℕ → List (Option Instruction)
registers_table h = alu_of h ∷ high_of h ∷ []

abbrev pub registers_of : ℕ → Option Instruction
registers_of h = entry (registers_table h) (field h 10 3)

-- 011 B:1 L:1 offset:5 Rb:3 Rd:3
abbrev pub memory_table : ℕ → List (Option Instruction)
memory_table h =
    let offset = field h 6 5 in
    let rb = field h 3 3 in
    let rd = field h 0 3 in
    Some (Str offset rb rd)
    ∷ Some (Ldr offset rb rd)
    ∷ Some (Strb offset rb rd)
    ∷ Some (Ldrb offset rb rd)
    ∷ []

abbrev pub memory_of : ℕ → Option Instruction
memory_of h = entry (memory_table h) (field h 11 2)

-- 10100 Rd:3 imm:8
abbrev pub add_pc_of : ℕ → Option Instruction
add_pc_of h = only (eqb (field h 11 2) 0) (Some (AddPc (field h 8 3) (field h 0 8)))

-- 1101 cond:4 offset:8, for the conditions 0 to 13
abbrev pub branch_of : ℕ → Option Instruction
branch_of h = only (eqb (field h 12 1) 1) (only (ltb (field h 8 4) 14) (Some (Branch (field h 8 4) (field h 0 8))))

-- the formats by the top three bits
abbrev pub table : ℕ → List (Option Instruction)
table h = halt_of h ∷ imm_of h ∷ registers_of h ∷ memory_of h ∷ None ∷ add_pc_of h ∷ branch_of h ∷ []

abbrev pub decode_of : ℕ → Option Instruction
decode_of h = entry (table h) (field h 13 3)
