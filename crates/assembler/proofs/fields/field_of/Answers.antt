-- Each row has its instruction, and its test where a value has a field.
use Rattle.std.proofs.Common.{◌/◌, leb, refl, arith}
use Rattle.isa.specs.declared.instruction.Instruction.TheVariants.{MovImm, CmpImm, And, Eor, Asr, Tst, Neg, Cmp}
use Rattle.isa.specs.declared.instruction.Instruction.TheVariants.{AddHigh, CmpHigh, MovHigh, Str, Ldr, Strb, Ldrb}
use Rattle.isa.specs.declared.instruction.Instruction.TheVariants.{AddPc}
use Rattle.assembler.specs.Assemble.{in_fours}
use Rattle.assembler.proofs.Rows.{registers, immediate, memory, branches, halts, no_row, past_rows}
use Rattle.assembler.proofs.Rows.{within_byte, within_word}
use Rattle.assembler.proofs.Rows.{imm_narrow, alu_narrow, high_narrow, cmp_narrow, memory_narrow, pc_narrow}
use Rattle.assembler.proofs.fields.field_of.Goals as goal

pub returns-in-0 : goal.returns-in-0
returns-in-0 c =
    no_row c.args.item c.args.i c.args.j c.in-0.is

pub returns-in-1 : goal.returns-in-1
returns-in-1 c =
    immediate c.args.item c.args.i c.args.j 1 MovImm (leb c.args.item.values.b 255) c.args.item.values.b (imm_narrow 0)
    (within_byte c.args.item.values.b 255 (omega arith)) refl c.in-1.is c.narrow-rd.ensures c.narrow-rs.ensures
    c.limited.ensures

pub returns-in-2 : goal.returns-in-2
returns-in-2 c =
    immediate c.args.item c.args.i c.args.j 2 CmpImm (leb c.args.item.values.b 255) c.args.item.values.b (imm_narrow 1)
    (within_byte c.args.item.values.b 255 (omega arith)) refl c.in-2.is c.narrow-rd.ensures c.narrow-rs.ensures
    c.limited-in-2.ensures

pub returns-in-3 : goal.returns-in-3
returns-in-3 c =
    registers c.args.item c.args.i c.args.j 3 And (alu_narrow 0) refl c.in-3.is c.narrow-rs.ensures c.narrow-rd.ensures
    c.encoded.ensures

pub returns-in-4 : goal.returns-in-4
returns-in-4 c =
    registers c.args.item c.args.i c.args.j 4 Eor (alu_narrow 1) refl c.in-4.is c.narrow-rs.ensures c.narrow-rd.ensures
    c.encoded-in-4.ensures

pub returns-in-5 : goal.returns-in-5
returns-in-5 c =
    registers c.args.item c.args.i c.args.j 5 Asr (alu_narrow 2) refl c.in-5.is c.narrow-rs.ensures c.narrow-rd.ensures
    c.encoded-in-5.ensures

pub returns-in-6 : goal.returns-in-6
returns-in-6 c =
    registers c.args.item c.args.i c.args.j 6 Tst (alu_narrow 3) refl c.in-6.is c.narrow-rs.ensures c.narrow-rd.ensures
    c.encoded-in-6.ensures

pub returns-in-7 : goal.returns-in-7
returns-in-7 c =
    registers c.args.item c.args.i c.args.j 7 Neg (alu_narrow 4) refl c.in-7.is c.narrow-rs.ensures c.narrow-rd.ensures
    c.encoded-in-7.ensures

pub returns-in-8 : goal.returns-in-8
returns-in-8 c =
    registers c.args.item c.args.i c.args.j 8 Cmp (alu_narrow 5) refl c.in-8.is c.narrow-rs.ensures c.narrow-rd.ensures
    c.encoded-in-8.ensures

pub returns-in-9 : goal.returns-in-9
returns-in-9 c =
    registers c.args.item c.args.i c.args.j 9 AddHigh (high_narrow 0) refl c.in-9.is c.narrow-rs.ensures
    c.narrow-rd.ensures
    c.encoded-in-9.ensures

pub returns-in-10 : goal.returns-in-10
returns-in-10 c =
    registers c.args.item c.args.i c.args.j 10 CmpHigh cmp_narrow refl c.in-10.is c.narrow-rs.ensures
    c.narrow-rd.ensures
    c.encoded-in-10.ensures

pub returns-in-11 : goal.returns-in-11
returns-in-11 c =
    registers c.args.item c.args.i c.args.j 11 MovHigh (high_narrow 2) refl c.in-11.is c.narrow-rs.ensures
    c.narrow-rd.ensures
    c.encoded-in-11.ensures

pub returns-in-12 : goal.returns-in-12
returns-in-12 c =
    memory c.args.item c.args.i c.args.j 12 Str (in_fours 124 c.args.item.values.c) (c.args.item.values.c / 4)
    (memory_narrow 0)
    (within_word 124 c.args.item.values.c (omega arith)) refl c.in-12.is c.narrow-word.ensures c.narrow-rs.ensures
    c.narrow-rd.ensures c.in_fours.ensures

pub returns-in-13 : goal.returns-in-13
returns-in-13 c =
    memory c.args.item c.args.i c.args.j 13 Ldr (in_fours 124 c.args.item.values.c) (c.args.item.values.c / 4)
    (memory_narrow 1)
    (within_word 124 c.args.item.values.c (omega arith)) refl c.in-13.is c.narrow-word.ensures c.narrow-rs.ensures
    c.narrow-rd.ensures c.in_fours-in-13.ensures

pub returns-in-14 : goal.returns-in-14
returns-in-14 c =
    memory c.args.item c.args.i c.args.j 14 Strb (leb c.args.item.values.c 31) c.args.item.values.c (memory_narrow 2)
    (within_byte c.args.item.values.c 31 (omega arith)) refl c.in-14.is c.narrow-byte.ensures c.narrow-rs.ensures
    c.narrow-rd.ensures c.limited-in-14.ensures

pub returns-in-15 : goal.returns-in-15
returns-in-15 c =
    memory c.args.item c.args.i c.args.j 15 Ldrb (leb c.args.item.values.c 31) c.args.item.values.c (memory_narrow 3)
    (within_byte c.args.item.values.c 31 (omega arith)) refl c.in-15.is c.narrow-byte.ensures c.narrow-rs.ensures
    c.narrow-rd.ensures c.limited-in-15.ensures

pub returns-in-16 : goal.returns-in-16
returns-in-16 c =
    immediate c.args.item c.args.i c.args.j 16 AddPc (in_fours 1020 c.args.item.values.b) (c.args.item.values.b / 4)
    pc_narrow
    (within_word 1020 c.args.item.values.b (omega arith)) refl c.in-16.is c.narrow-rd.ensures c.narrow-imm.ensures
    c.in_fours-in-16.ensures

pub returns-in-17 : goal.returns-in-17
returns-in-17 c =
    branches c.args.item c.args.i c.args.j c.in-17.is c.narrow-rd.ensures c.branching.ensures

pub returns-in-18 : goal.returns-in-18
returns-in-18 c =
    halts c.args.item c.args.i c.args.j c.in-18.is c.narrow-rd.ensures c.limited-in-18.ensures

pub returns-in_default : goal.returns-in_default
returns-in_default c = past_rows c.args.item c.args.i c.args.j (omega arith)
