-- What decoding gives has fields of their width. Said here once, for the laws of the cpu, of the
-- verifier and of whole runs.
use Prim.Native.Nat.{ℕ, ◌<◌}
use native.Mathlib.Omega.{arith}
use mathlib.Core.Bool.{Bool}
use mathlib.Core.List.{List}
use mathlib.Core.Path.{◌≡◌, subst⁻¹}
use Rattle.units.specs.Field.{field, high_rs, high_rd}
use Rattle.isa.specs.declared.instruction.Instruction.{Instruction}
use Rattle.isa.specs.declared.instruction.Instruction.TheVariants.{MovImm, CmpImm, And, Eor, Asr, Tst, Neg, Cmp}
use Rattle.isa.specs.declared.instruction.Instruction.TheVariants.{AddHigh, CmpHigh, MovHigh, Str, Ldr, Strb, Ldrb}
use Rattle.isa.specs.declared.instruction.Instruction.TheVariants.{AddPc, Branch, Halt}
use Rattle.isa.specs.Decode.{entry, only, decode_of, imm_of, imm_table, alu_of, alu_table, high_of, high_table}
use Rattle.isa.specs.Decode.{registers_table}
use Rattle.isa.specs.Decode.{memory_of, memory_table, branch_of, table}
use lib.Dec.{eqb, ltb}
use Rattle.isa.proofs.Table.{All, entry_keeps, only_keeps}
use Rattle.std.specs.Prelude.{Option, Some, None}

-- the fields of an instruction hold no more than their bits can: R0 to R7 but in the format for high registers
abbrev pub Narrow : Instruction → Type 0
Narrow (MovImm rd imm) = (rd < 8) × (imm < 256)
Narrow (CmpImm rd imm) = (rd < 8) × (imm < 256)
Narrow (And rs rd) = (rs < 8) × (rd < 8)
Narrow (Eor rs rd) = (rs < 8) × (rd < 8)
Narrow (Asr rs rd) = (rs < 8) × (rd < 8)
Narrow (Tst rs rd) = (rs < 8) × (rd < 8)
Narrow (Neg rs rd) = (rs < 8) × (rd < 8)
Narrow (Cmp rs rd) = (rs < 8) × (rd < 8)
Narrow (AddHigh rs rd) = (rs < 16) × (rd < 16)
Narrow (CmpHigh rs rd) = (rs < 16) × (rd < 16)
Narrow (MovHigh rs rd) = (rs < 16) × (rd < 16)
Narrow (Str offset rb rd) = (offset < 32) × (rb < 8) × (rd < 8)
Narrow (Ldr offset rb rd) = (offset < 32) × (rb < 8) × (rd < 8)
Narrow (Strb offset rb rd) = (offset < 32) × (rb < 8) × (rd < 8)
Narrow (Ldrb offset rb rd) = (offset < 32) × (rb < 8) × (rd < 8)
Narrow (AddPc rd imm) = (rd < 8) × (imm < 256)
Narrow (Branch condition offset) = (condition < 16) × (offset < 256)
Narrow (Halt note) = note < 256

abbrev Good : Option Instruction → Type 0
Good (Some i) = Narrow i
Good None = Unit {0}

entry_good : (ds : List (Option Instruction)) (n : ℕ) → All Good ds → Good (entry ds n)
entry_good = entry_keeps Good tt

only_good : (test : Bool) (d : Option Instruction) → Good d → Good (only test d)
only_good = only_keeps Good tt

imm_good : (h : ℕ) → Good (imm_of h)
imm_good h =
    let narrow : (field h 8 3 < 8) × (field h 0 8 < 256) = (omega arith, omega arith) in
    entry_good (imm_table h) (field h 11 2) (narrow, (narrow, tt))

alu_good : (h : ℕ) → Good (alu_of h)
alu_good h =
    let narrow : (field h 3 3 < 8) × (field h 0 3 < 8) = (omega arith, omega arith) in
    entry_good (alu_table h) (field h 6 4) (narrow, (narrow, (narrow, (narrow, (narrow, (narrow, tt))))))

high_good : (h : ℕ) → Good (high_of h)
high_good h =
    let narrow : (high_rs h < 16) × (high_rd h < 16) = (omega arith, omega arith) in
    let compare = only_good (ltb 0 (field h 6 2)) (Some (CmpHigh (high_rs h) (high_rd h))) narrow in
    entry_good (high_table h) (field h 8 2) (narrow, (compare, (narrow, tt)))

memory_good : (h : ℕ) → Good (memory_of h)
memory_good h =
    let narrow : (field h 6 5 < 32) × (field h 3 3 < 8) × (field h 0 3 < 8) = (omega arith, omega arith, omega arith) in
    entry_good (memory_table h) (field h 11 2) (narrow, (narrow, (narrow, (narrow, tt))))

branch_good : (h : ℕ) → Good (branch_of h)
branch_good h =
    let this = Some (Branch (field h 8 4) (field h 0 8)) in
    let less = ltb (field h 8 4) 14 in
    only_good (eqb (field h 12 1) 1) (only less this) (only_good less this (omega arith, omega arith))

decoded_good : (h : ℕ) → Good (decode_of h)
decoded_good h =
    let halt = only_good (ltb h 256) (Some (Halt (field h 0 8))) (omega arith) in
    let registers = entry_good (registers_table h) (field h 10 3) (alu_good h, (high_good h, tt)) in
    let add_pc =
    only_good (eqb (field h 11 2) 0) (Some (AddPc (field h 8 3) (field h 0 8))) (omega arith, omega arith) in
    entry_good (table h) (field h 13 3)
    (halt, (imm_good h, (registers, (memory_good h, (tt, (add_pc, (branch_good h, tt)))))))

pub decoded_narrow : (h : ℕ) (i : Instruction) → Some i ≡ decode_of h → Narrow i
decoded_narrow h i e = subst⁻¹ (λ (d : Option Instruction). Good d) e (decoded_good h)
