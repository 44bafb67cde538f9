-- What a halfword's top five bits tell of it: for code that goes by them, where the definition goes by the top three.
use Prim.Native.Nat.{ℕ, zero, suc, ◌+◌, ◌*◌, ◌/◌, ◌<◌, ◌≤◌}
use native.Mathlib.Omega.{arith}
use mathlib.Core.Path.{◌≡◌, refl}
use borrow.Author.Tests.{ne_eqb, lt-ltb, le-ltb}
use Rattle.units.specs.Field.{field}
use Rattle.isa.specs.Decode.{entry, imm_table, halt_of, registers_table, memory_table, branch_of, decode_of}
use Rattle.isa.specs.declared.instruction.Instruction.TheVariants.{AddPc, Branch}
use Rattle.isa.proofs.Table.{entry_past}
use Rattle.std.specs.Prelude.{Some, None}

module _ (h : ℕ) (fits : h < 65536) where
  pub is_halt : field h 11 5 ≡ 0 → decode_of h ≡ halt_of h
  is_halt e = let f : field h 13 3 ≡ 0 = omega arith in simp f

  pub is_imm : (n : ℕ) → n < 4 → field h 11 5 ≡ 4 + n → decode_of h ≡ entry (imm_table h) n
  is_imm n small e =
      let f : field h 13 3 ≡ 1 = omega arith in
      let g : field h 11 2 ≡ n = omega arith in
      simp (f, g)

  pub is_memory : (n : ℕ) → n < 4 → field h 11 5 ≡ 12 + n → decode_of h ≡ entry (memory_table h) n
  is_memory n small e =
      let f : field h 13 3 ≡ 3 = omega arith in
      let g : field h 11 2 ≡ n = omega arith in
      simp (f, g)

  pub is_add_pc : field h 11 5 ≡ 20 → decode_of h ≡ Some (AddPc (field h 8 3) (field h 0 8))
  is_add_pc e =
      let f : field h 13 3 ≡ 5 = omega arith in
      let g : field h 11 2 ≡ 0 = omega arith in
      simp (f, g)

  -- one of the conditions 0 to 7
  pub is_lower_branch : field h 11 5 ≡ 26 → decode_of h ≡ Some (Branch (field h 8 3) (field h 0 8))
  is_lower_branch e =
      let f : field h 13 3 ≡ 6 = omega arith in
      let g : field h 12 1 ≡ 1 = omega arith in
      let s : field h 8 4 ≡ field h 8 3 = omega arith in
      let l : field h 8 3 < 14 = omega arith in
      simp (f, g, s, lt-ltb (field h 8 3) 14 l)

  pub is_upper_branch : field h 11 5 ≡ 27 → decode_of h ≡ branch_of h
  is_upper_branch e = let f : field h 13 3 ≡ 6 = omega arith in simp f

  -- all other
  pub parts : field h 11 5 ≡ 4 * field h 13 3 + field h 11 2
  parts = omega arith

  no_halt_here : (field h 11 5 ≡ 0 → ⊥) → field h 13 3 ≡ 0 → decode_of h ≡ None
  no_halt_here n f = let p : 256 ≤ h = omega arith in simp (f, le-ltb h 256 p)

  no_imm : (field h 11 5 ≡ 4 → ⊥) → (field h 11 5 ≡ 5 → ⊥) → field h 13 3 ≡ 1 → decode_of h ≡ None
  no_imm n n' f = rw f (entry_past (imm_table h) (field h 11 2) (omega arith))

  no_registers : (field h 11 5 ≡ 8 → ⊥) → field h 13 3 ≡ 2 → decode_of h ≡ None
  no_registers n f =
      let half : field h 11 2 ≡ field h 10 3 / 2 = omega arith in
      let p : 2 ≤ field h 10 3 = omega (arith, parts, half) in
      rw f (entry_past (registers_table h) (field h 10 3) p)

  pub no_memory : (field h 11 5 ≡ 12 → ⊥) → (field h 11 5 ≡ 13 → ⊥)
      → (field h 11 5 ≡ 14 → ⊥) → (field h 11 5 ≡ 15 → ⊥) → field h 13 3 ≡ 3 → ⊥
  no_memory a b c d f = omega arith

  no_add_pc : (field h 11 5 ≡ 20 → ⊥) → field h 13 3 ≡ 5 → decode_of h ≡ None
  no_add_pc n f = simp (f, ne_eqb (field h 11 2) 0 (λ z. n (rw (parts, f, z))))

  no_branch : (field h 11 5 ≡ 26 → ⊥) → (field h 11 5 ≡ 27 → ⊥) → field h 13 3 ≡ 6 → decode_of h ≡ None
  no_branch n n' f =
      let half : field h 12 1 ≡ field h 11 2 / 2 = omega arith in
      let g : field h 12 1 ≡ 0 = omega (arith, parts, half) in
      simp (f, g)

  no_format : (field h 11 5 ≡ 0 → ⊥) → (field h 11 5 ≡ 4 → ⊥) → (field h 11 5 ≡ 5 → ⊥) → (field h 11 5 ≡ 8 → ⊥)
      → (field h 11 5 ≡ 12 → ⊥) → (field h 11 5 ≡ 13 → ⊥) → (field h 11 5 ≡ 14 → ⊥) → (field h 11 5 ≡ 15 → ⊥)
      → (field h 11 5 ≡ 20 → ⊥) → (field h 11 5 ≡ 26 → ⊥) → (field h 11 5 ≡ 27 → ⊥) → decode_of h ≡ None
  no_format n₀ n₄ n₅ n₈ n₁₂ n₁₃ n₁₄ n₁₅ n₂₀ n₂₆ n₂₇ = by_format (field h 13 3) refl
    where
      by_format : (n : ℕ) → field h 13 3 ≡ n → decode_of h ≡ None
      by_format zero f = no_halt_here n₀ f
      by_format (suc zero) f = no_imm n₄ n₅ f
      by_format (suc (suc zero)) f = no_registers n₈ f
      by_format (suc (suc (suc zero))) f = absurd (no_memory n₁₂ n₁₃ n₁₄ n₁₅ f)
      by_format (suc (suc (suc (suc zero)))) f = rw f
      by_format (suc (suc (suc (suc (suc zero))))) f = no_add_pc n₂₀ f
      by_format (suc (suc (suc (suc (suc (suc zero)))))) f = no_branch n₂₆ n₂₇ f
      by_format (suc (suc (suc (suc (suc (suc (suc n))))))) f = rw f

  -- what the last arm of a `match` on the top five bits is told: they are none of the numbers above it
  pub is_none : {B : Type 0} (n : ℕ) → n ≡ field h 11 5
      → ((((((((((B × (n ≡ 0 → ⊥)) × (n ≡ 4 → ⊥)) × (n ≡ 5 → ⊥)) × (n ≡ 8 → ⊥))
      × (n ≡ 12 → ⊥)) × (n ≡ 13 → ⊥)) × (n ≡ 14 → ⊥)) × (n ≡ 15 → ⊥)) × (n ≡ 20 → ⊥)) × (n ≡ 26 → ⊥)) × (n ≡ 27 → ⊥)
      → decode_of h ≡ None
  is_none n told rest =
      let none = rw told at rest in
      no_format (search) (search) (search) (search) (search) (search) (search) (search) (search) (search) (search)
