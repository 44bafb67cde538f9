-- A halfword is a branch exactly when its upper byte is from 208 to 221.
use mathlib.Core.Bool.{Bool, true, false}
use mathlib.Core.List.{List}
use mathlib.Core.Path.{◌≡◌, refl}
use Prim.Native.Nat.{ℕ, zero, suc, ◌+◌, ◌*◌, ◌/◌, ◌%◌, ◌≤◌, ◌<◌}
use native.Mathlib.Omega.{arith}
use borrow.Author.Tests.{eqb-true, ltb-true, lt-ltb}
use lib.Dec.{eqb, ltb}
use Rattle.units.specs.Field.{field, high_rs, high_rd}
use Rattle.units.specs.declared.address.ByteAddress.{ByteAddress}
use Rattle.isa.specs.Decode.{entry, only, imm_table, alu_table, alu_of, high_table, high_of, registers_table}
use Rattle.isa.specs.Decode.{memory_table}
use Rattle.isa.specs.Decode.{branch_of, table, decode_of}
use Rattle.isa.specs.declared.instruction.Instruction.TheVariants.{CmpHigh, AddPc, Branch, Halt}
use Rattle.isa.proofs.Table.{All, entry_keeps, only_keeps}
use Rattle.targets.specs.Targets.{jump_at}
use Rattle.std.specs.Prelude.{Option, Some, None}
use Rattle.isa.specs.declared.instruction.Instruction.{Instruction}

pub is_branch : (h : ℕ) → 208 ≤ field h 8 8 → field h 8 8 ≤ 221
    → decode_of h ≡ Some (Branch (field h 8 4) (field h 0 8))
is_branch h low high =
    let format : field h 13 3 ≡ 6 = omega arith in
    let form : field h 12 1 ≡ 1 = omega arith in
    let condition : field h 8 4 < 14 = omega arith in
    simp (format, form, lt-ltb _ _ condition)

-- bits 15 to 12, and the upper byte, in parts
top_bits : (h : ℕ) → field h 13 3 ≡ 6 → field h 12 1 ≡ 1 → h / 4096 % 16 ≡ 13
top_bits h e f =
    let q : h / 8192 ≡ h / 4096 / 2 = omega arith in
    let p : h / 4096 / 2 % 8 ≡ 6 = rw q at e in
    nibble (h / 4096) p f
  where
    nibble : (x : ℕ) → x / 2 % 8 ≡ 6 → x % 2 ≡ 1 → x % 16 ≡ 13
    nibble x e f = omega arith

upper_byte : (h : ℕ) → field h 8 8 ≡ 16 * (h / 4096 % 16) + field h 8 4
upper_byte h =
    let q : h / 4096 ≡ h / 256 / 16 = omega arith in
    rw q (byte (h / 256))
  where
    byte : (x : ℕ) → x % 256 ≡ 16 * (x / 16 % 16) + x % 16
    byte x = omega arith

module _ (a : ByteAddress) where
  abbrev Still : Option Instruction → Type 0
  Still d = jump_at a d ≡ None

  still_entry : (ds : List (Option Instruction)) (n : ℕ) → All Still ds → Still (entry ds n)
  still_entry = entry_keeps Still refl

  still_only : (t : Bool) (d : Option Instruction) → Still d → Still (only t d)
  still_only = only_keeps Still refl

  module _ (h : ℕ) where
    still_alu : Still (alu_of h)
    still_alu = still_entry (alu_table h) (field h 6 4) (refl, (refl, (refl, (refl, (refl, (refl, tt))))))

    still_high : Still (high_of h)
    still_high =
        still_entry (high_table h) (field h 8 2)
        (refl, (still_only (ltb 0 (field h 6 2)) (Some (CmpHigh (high_rs h) (high_rd h))) refl, (refl, tt)))

    -- a branch that the upper byte rules out
    still_branch : field h 13 3 ≡ 6 → ((208 ≤ field h 8 8) → (field h 8 8 ≤ 221) → ⊥) → Still (branch_of h)
    still_branch e out = go (eqb (field h 12 1) 1) (ltb (field h 8 4) 14) refl refl
      where
        go : (t u : Bool) → eqb (field h 12 1) 1 ≡ t → ltb (field h 8 4) 14 ≡ u
            → Still (only t (only u (Some (Branch (field h 8 4) (field h 0 8)))))
        go true true p q =
            let form : field h 12 1 ≡ 1 = eqb-true _ _ p in
            let condition : field h 8 4 < 14 = ltb-true _ _ q in
            let top : h / 4096 % 16 ≡ 13 = top_bits h e form in
            let upper : field h 8 8 ≡ 16 * (h / 4096 % 16) + field h 8 4 = upper_byte h in
            absurd (out (omega arith) (omega arith))
        go true false p q = refl
        go false u p q = refl

    -- the formats, by the top three bits
    still_table : (n : ℕ) → n ≡ field h 13 3 → ((208 ≤ field h 8 8) → (field h 8 8 ≤ 221) → ⊥)
        → Still (entry (table h) n)
    still_table zero e out = still_only (ltb h 256) (Some (Halt (field h 0 8))) refl
    still_table (suc zero) e out = still_entry (imm_table h) (field h 11 2) (refl, (refl, tt))
    still_table (suc (suc zero)) e out = still_entry (registers_table h) (field h 10 3) (still_alu, (still_high, tt))
    still_table (suc (suc (suc zero))) e out =
        still_entry (memory_table h) (field h 11 2) (refl, (refl, (refl, (refl, tt))))
    still_table (suc (suc (suc (suc zero)))) e out = refl
    still_table (suc (suc (suc (suc (suc zero))))) e out =
        still_only (eqb (field h 11 2) 0) (Some (AddPc (field h 8 3) (field h 0 8))) refl
    still_table (suc (suc (suc (suc (suc (suc zero)))))) e out = still_branch (omega arith) out
    still_table (suc (suc (suc (suc (suc (suc (suc n))))))) e out = refl

    pub no_branch : ((208 ≤ field h 8 8) → (field h 8 8 ≤ 221) → ⊥) → jump_at a (decode_of h) ≡ None
    no_branch out = still_table (field h 13 3) refl out
