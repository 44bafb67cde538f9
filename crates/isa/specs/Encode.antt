-- The halfword of each instruction ("Encodings"), and check 17: a field that its bits can't hold is refused.
use Rattle.std.specs.Prelude.{Bool, cond, ℕ, ◌+◌, ◌*◌, ◌/◌, ◌%◌, max, ltb, Result, Ok, Err}
use Rattle.refusals.specs.declared.check.Check.TheVariants as check
use Rattle.refusals.specs.Refusal.{refusal}
use Rattle.isa.specs.declared.instruction.Instruction.{Instruction}
use Rattle.isa.specs.declared.instruction.Instruction.TheVariants.{MovImm, CmpImm, And, Eor, Asr, Tst, Neg, Cmp}
use Rattle.isa.specs.declared.instruction.Instruction.TheVariants.{AddHigh, CmpHigh, MovHigh, Str, Ldr, Strb}
use Rattle.isa.specs.declared.instruction.Instruction.TheVariants.{Ldrb, AddPc, Branch, Halt}
use Rattle.refusals.specs.declared.refusal.Refusal.{Refusal}

-- e where the test passes; else check 17 has failed
abbrev pub given : Bool → Result ℕ Refusal → Result ℕ Refusal
given test e = cond test e (Err (refusal check.Fields))

-- 001 op:2 Rd:3 imm:8
abbrev pub imm_form : ℕ → ℕ → ℕ → Result ℕ Refusal
imm_form op rd imm = given (ltb rd 8) (given (ltb imm 256) (Ok (0x2000 + op * 0x800 + rd * 0x100 + imm)))

-- 010000 op:4 Rs:3 Rd:3
abbrev pub alu_form : ℕ → ℕ → ℕ → Result ℕ Refusal
alu_form op rs rd = given (ltb rs 8) (given (ltb rd 8) (Ok (0x4000 + op * 0x40 + rs * 8 + rd)))

-- 010001 op:2 H1:1 H2:1 Rs:3 Rd:3
abbrev pub high_form : ℕ → ℕ → ℕ → Result ℕ Refusal
high_form op rs rd =
    given (ltb rs 16) (given (ltb rd 16)
    (Ok (0x4400 + op * 0x100 + rd / 8 * 0x80 + rs / 8 * 0x40 + rs % 8 * 8 + rd % 8)))

-- 011 B:1 L:1 offset:5 Rb:3 Rd:3
abbrev pub memory_form : ℕ → ℕ → ℕ → ℕ → Result ℕ Refusal
memory_form op offset rb rd =
    given (ltb offset 32) (given (ltb rb 8) (given (ltb rd 8)
    (Ok (0x6000 + op * 0x800 + offset * 0x40 + rb * 8 + rd))))

-- 10100 Rd:3 imm:8
abbrev pub add_pc_form : ℕ → ℕ → Result ℕ Refusal
add_pc_form rd imm = given (ltb rd 8) (given (ltb imm 256) (Ok (0xa000 + rd * 0x100 + imm)))

-- 1101 cond:4 offset:8
abbrev pub branch_form : ℕ → ℕ → Result ℕ Refusal
branch_form condition offset =
    given (ltb condition 14) (given (ltb offset 256) (Ok (0xd000 + condition * 0x100 + offset)))

-- 00000000 note:8 (Change 1)
abbrev pub halt_form : ℕ → Result ℕ Refusal
halt_form note = given (ltb note 256) (Ok note)

abbrev pub encode_of : Instruction → Result ℕ Refusal
encode_of (MovImm rd imm) = imm_form 0 rd imm
encode_of (CmpImm rd imm) = imm_form 1 rd imm
encode_of (And rs rd) = alu_form 0 rs rd
encode_of (Eor rs rd) = alu_form 1 rs rd
encode_of (Asr rs rd) = alu_form 2 rs rd
encode_of (Tst rs rd) = alu_form 3 rs rd
encode_of (Neg rs rd) = alu_form 4 rs rd
encode_of (Cmp rs rd) = alu_form 5 rs rd
encode_of (AddHigh rs rd) = high_form 0 rs rd
encode_of (CmpHigh rs rd) = given (ltb 7 (max rs rd)) (high_form 1 rs rd)
encode_of (MovHigh rs rd) = high_form 2 rs rd
encode_of (Str offset rb rd) = memory_form 0 offset rb rd
encode_of (Ldr offset rb rd) = memory_form 1 offset rb rd
encode_of (Strb offset rb rd) = memory_form 2 offset rb rd
encode_of (Ldrb offset rb rd) = memory_form 3 offset rb rd
encode_of (AddPc rd imm) = add_pc_form rd imm
encode_of (Branch condition offset) = branch_form condition offset
encode_of (Halt note) = halt_form note
