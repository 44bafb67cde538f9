-- Only the halfwords below 256 are HALT, each with itself as note.
use mathlib.Core.Bool.{Bool, true, false}
use mathlib.Core.Path.{◌≡◌, refl, subst}
use Prim.Native.Nat.{ℕ, ◌<◌}
use native.Mathlib.Omega.{arith}
use borrow.Author.Tests.{ltb-true}
use lib.Dec.{eqb, ltb}
use Rattle.units.specs.Field.{field, high_rs, high_rd}
use Rattle.isa.specs.declared.instruction.Instruction.{Instruction}
use Rattle.isa.specs.declared.instruction.Instruction.TheVariants.{MovImm, CmpImm, And, Eor, Asr, Tst, Neg, Cmp}
use Rattle.isa.specs.declared.instruction.Instruction.TheVariants.{AddHigh, CmpHigh, MovHigh, Str, Ldr, Strb}
use Rattle.isa.specs.declared.instruction.Instruction.TheVariants.{Ldrb, AddPc, Branch, Halt}
use Rattle.isa.specs.Decode.{only, decode_of, imm_table, alu_table, alu_of, high_table, high_of, registers_table}
use Rattle.isa.specs.Decode.{memory_table, branch_of, table}
use Rattle.isa.proofs.Table.{entry_keeps, only_keeps}
use Rattle.std.specs.Prelude.{Option, Some, None}

-- what h is, if its instruction is HALT
abbrev Own : ℕ → Instruction → Type 0
Own h (MovImm rd imm) = Unit
Own h (CmpImm rd imm) = Unit
Own h (And rs rd) = Unit
Own h (Eor rs rd) = Unit
Own h (Asr rs rd) = Unit
Own h (Tst rs rd) = Unit
Own h (Neg rs rd) = Unit
Own h (Cmp rs rd) = Unit
Own h (AddHigh rs rd) = Unit
Own h (CmpHigh rs rd) = Unit
Own h (MovHigh rs rd) = Unit
Own h (Str offset rb rd) = Unit
Own h (Ldr offset rb rd) = Unit
Own h (Strb offset rb rd) = Unit
Own h (Ldrb offset rb rd) = Unit
Own h (AddPc rd imm) = Unit
Own h (Branch condition offset) = Unit
Own h (Halt note) = (h ≡ note) × (note < 256)

abbrev OwnAt : ℕ → Option Instruction → Type 0
OwnAt h (Some i) = Own h i
OwnAt h None = Unit

module _ (h : ℕ) where
  below : (t : Bool) → ltb h 256 ≡ t → OwnAt h (only t (Some (Halt (field h 0 8))))
  below true e = let small : h < 256 = ltb-true h 256 e in (omega arith, omega arith)
  below false e = tt

  alu : OwnAt h (alu_of h)
  alu = entry_keeps (OwnAt h) tt (alu_table h) (field h 6 4) (tt, (tt, (tt, (tt, (tt, (tt, tt))))))

  high : OwnAt h (high_of h)
  high =
      let compare = only_keeps (OwnAt h) tt (ltb 0 (field h 6 2)) (Some (CmpHigh (high_rs h) (high_rd h))) tt in
      entry_keeps (OwnAt h) tt (high_table h) (field h 8 2) (tt, (compare, (tt, tt)))

  branch : OwnAt h (branch_of h)
  branch =
      let this = Some (Branch (field h 8 4) (field h 0 8)) in
      let less = ltb (field h 8 4) 14 in
      only_keeps (OwnAt h) tt (eqb (field h 12 1) 1) (only less this) (only_keeps (OwnAt h) tt less this tt)

  each : OwnAt h (decode_of h)
  each =
      let imm = entry_keeps (OwnAt h) tt (imm_table h) (field h 11 2) (tt, (tt, tt)) in
      let registers = entry_keeps (OwnAt h) tt (registers_table h) (field h 10 3) (alu, (high, tt)) in
      let memory = entry_keeps (OwnAt h) tt (memory_table h) (field h 11 2) (tt, (tt, (tt, (tt, tt)))) in
      let add_pc = only_keeps (OwnAt h) tt (eqb (field h 11 2) 0) (Some (AddPc (field h 8 3) (field h 0 8))) tt in
      entry_keeps (OwnAt h) tt (table h) (field h 13 3)
      (below (ltb h 256) refl, (imm, (registers, (memory, (tt, (add_pc, (branch, tt)))))))

pub halt_own : (h note : ℕ) → decode_of h ≡ Some (Halt note) → (h ≡ note) × (note < 256)
halt_own h note e = subst (OwnAt h) e (each h)
