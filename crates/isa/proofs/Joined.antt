-- The fields of each format share no bit, so that `|` adds them.
use mathlib.Core.Path.{◌≡◌, refl, ◌∙◌}
use Prim.Native.Nat.{ℕ, ◌+◌, ◌*◌, ◌/◌, ◌%◌, ◌^◌, ◌<◌}
use native.Mathlib.Omega.{arith}
use lib.Bits.{bit_or, bit_and, and_mask, mask_lt}
use Rattle.units.proofs.Or.{low, top}

-- a shifted field, as the code has it
abbrev shifted : ℕ → ℕ → ℕ
shifted x n = x * 2 ^ n % 65536

pub imm_joined : (op rd imm : ℕ) → op < 4 → rd < 8 → imm < 256
    → bit_or (bit_or (bit_or (shifted op 11) (shifted rd 8)) imm) 0x2000 ≡ 0x2000 + op * 0x800 + rd * 0x100 + imm
imm_joined op rd imm o p q =
    let upper = low 11 {x = shifted op 11} (shifted rd 8) refl (omega arith) (omega arith) in
    let whole = low 8 imm upper (omega arith) (omega arith) in
    omega (arith, top 13 0x2000 whole (omega arith) (omega arith))

pub alu_joined : (op rs rd : ℕ) → op < 16 → rs < 8 → rd < 8
    → bit_or (bit_or (bit_or (shifted op 6) (shifted rs 3)) rd) 0x4000 ≡ 0x4000 + op * 0x40 + rs * 8 + rd
alu_joined op rs rd o p q =
    let upper = low 6 {x = shifted op 6} (shifted rs 3) refl (omega arith) (omega arith) in
    let whole = low 3 rd upper (omega arith) (omega arith) in
    omega (arith, top 13 0x4000 whole (omega arith) (omega arith))

pub memory_joined : (op offset rb rd : ℕ) → op < 4 → offset < 32 → rb < 8 → rd < 8
    → bit_or (bit_or (bit_or (bit_or (shifted op 11) (shifted offset 6)) (shifted rb 3)) rd) 0x6000
    ≡ 0x6000 + op * 0x800 + offset * 0x40 + rb * 8 + rd
memory_joined op offset rb rd o p q r =
    let upper = low 11 {x = shifted op 11} (shifted offset 6) refl (omega arith) (omega arith) in
    let middle = low 6 (shifted rb 3) upper (omega arith) (omega arith) in
    let whole = low 3 rd middle (omega arith) (omega arith) in
    omega (arith, top 13 0x6000 whole (omega arith) (omega arith))

-- the sum, with a variable for each quotient and remainder: `omega` relates few quotients at once
total : (a b s m op d8 d r8 r : ℕ) → a ≡ op * 256 → b ≡ d8 * 128 → s ≡ r8 * 64 + r * 8 → m ≡ d
    → a + b + s + m + 0x4400 ≡ 0x4400 + op * 256 + d8 * 128 + r8 * 64 + r * 8 + d
total a b s m op d8 d r8 r p q u v = omega arith

-- Rs and H2 stand side by side; H1 is far from Rd
pub high_joined : (op rs rd : ℕ) → op < 4 → rs < 16 → rd < 16
    → bit_or (bit_or (bit_or (bit_or (shifted op 8) (shifted (rd / 8) 7)) (shifted rs 3)) (bit_and rd 7)) 0x4400
    ≡ 0x4400 + op * 0x100 + rd / 8 * 0x80 + rs / 8 * 0x40 + rs % 8 * 8 + rd % 8
high_joined op rs rd o p q =
    let small = mask_lt rd 3 in
    let upper = low 8 {x = shifted op 8} (shifted (rd / 8) 7) refl (omega arith) (omega arith) in
    let middle = low 7 (shifted rs 3) upper (omega arith) (omega arith) in
    let whole = low 3 (bit_and rd 7) middle (omega arith) small in
    top 10 0x4400 whole (omega (arith, small)) (omega arith)
    ∙ total (shifted op 8) (shifted (rd / 8) 7) (shifted rs 3) (bit_and rd 7) op (rd / 8) (rd % 8) (rs / 8) (rs % 8)
    (omega arith) (omega arith) (omega arith) (and_mask rd 3)
