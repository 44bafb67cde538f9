-- What the bits tell by which the code sends a halfword to its function, where the definition goes by the top three.
use Rattle.std.proofs.Common.{◌≡◌, ℕ, zero, suc, ◌+◌, ◌*◌, ◌/◌, ◌%◌, ◌<◌, ◌≤◌, Bool, true, false, eqb, ltb, sym, refl}
use Rattle.std.proofs.Common.{ap, ◌∙◌, arith, lit<, ltb-true, le-ltb, lt-ltb, ne_eqb, eqb-true}
use Rattle.std.specs.Prelude.{Some, None}
use borrow.Author.Tests.{eqb-false}
use Rattle.units.specs.Field.{field, high_rs, high_rd}
use Rattle.isa.specs.Decode.{entry, imm_table, alu_table, high_table, table, decode_of}
use Rattle.isa.specs.declared.instruction.Instruction.TheVariants.{AddHigh, CmpHigh, MovHigh, Branch}
use Rattle.isa.proofs.Table.{entry_past, skip}
use Rattle.isa.proofs.Formats.{parts, no_memory}
use Rattle.cpu.specs.Held.{branch_else, other_else}

-- the last arm of a `match` is told that the number is none of those above it
abbrev pub Not : ℕ → ℕ → Type 0
Not n k = n ≡ k → ⊥

-- a condition's place among the upper bytes
from_first : (x n : ℕ) → x ≡ 208 + n → 208 ≤ x
from_first x n is = omega arith

not_past : (x n : ℕ) → n < 14 → x ≡ 208 + n → 222 ≤ x → ⊥
not_past x n small is past = omega arith

-- a number above all formats
beyond : (t x n : ℕ) → x ≡ suc (suc (suc (suc (suc (suc (suc t)))))) → n < 7 → x ≡ n → ⊥
beyond t x n is small z = omega arith

-- the top five bits of all else: where they are no operation's on registers, nothing has been taken away
pub as_decoded : (h n : ℕ) → field h 11 5 ≡ n → eqb (n / 4) 2 ≡ false → other_else h ≡ decode_of h
as_decoded h n e other =
    let not-two : Not (field h 13 3) 2 = λ z. eqb-false (n / 4) 2 other (omega arith) in
    simp (ne_eqb (field h 13 3) 2 not-two)

module _ (h : ℕ) (fits : h < 65536) where
  -- the upper ten bits of the operations on registers: one of those on R0 to R7
  pub is_alu : (n : ℕ) → n < 16 → h / 64 ≡ 256 + n → decode_of h ≡ entry (alu_table h) n
  is_alu n small e =
      let f : field h 13 3 ≡ 2 = omega arith in
      let g : field h 10 3 ≡ 0 = omega arith in
      let o : field h 6 4 ≡ n = omega arith in
      simp (f, g, o)

  -- one of those on any register, with its bits H1 and H2 as a number
  module _ (op halves : ℕ) (small : op < 4) (two : halves < 4) (e : h / 64 ≡ 272 + 4 * op + halves) where
    pub is_high : decode_of h ≡ entry (high_table h) op
    is_high =
        let f : field h 13 3 ≡ 2 = omega arith in
        let g : field h 10 3 ≡ 1 = omega arith in
        let o : field h 8 2 ≡ op = omega arith in
        simp (f, g, o)

    halves_are : field h 6 2 ≡ halves
    halves_are = omega arith

  -- neither H1 nor H2
  low_rs : h / 64 % 4 ≡ 0 → high_rs h ≡ field h 3 3
  low_rs z = let s : field h 6 1 ≡ 0 = omega arith in omega (arith, s)

  low_rd : h / 64 % 4 ≡ 0 → high_rd h ≡ field h 0 3
  low_rd z = let d : field h 7 1 ≡ 0 = omega arith in omega (arith, d)

  pub is_low_add : h / 64 ≡ 272 → decode_of h ≡ Some (AddHigh (field h 3 3) (field h 0 3))
  is_low_add e = is_high 0 0 (lit< tt) (lit< tt) e ∙ rw (low_rs (omega arith), low_rd (omega arith))

  pub is_low_mov : h / 64 ≡ 280 → decode_of h ≡ Some (MovHigh (field h 3 3) (field h 0 3))
  is_low_mov e = is_high 2 0 (lit< tt) (lit< tt) e ∙ rw (low_rs (omega arith), low_rd (omega arith))

  -- a comparison, which has H1 or H2
  pub is_cmp : (halves : ℕ) → 0 < halves → halves < 4 → h / 64 ≡ 276 + halves
      → decode_of h ≡ Some (CmpHigh (high_rs h) (high_rd h))
  is_cmp halves some two e =
      let z : 0 < field h 6 2 = omega (arith, halves_are 1 halves (lit< tt) two e) in
      is_high 1 halves (lit< tt) two e ∙ simp (lt-ltb 0 (field h 6 2) z)

  -- no operation on registers is left
  module _ (x : ℕ) (told : x ≡ h / 64) (f : field h 13 3 ≡ 2) where
    no_alu : 262 ≤ x → field h 10 3 ≡ 0 → decode_of h ≡ None
    no_alu past g = let p : 6 ≤ field h 6 4 = omega arith in rw (f, g) (entry_past (alu_table h) (field h 6 4) p)

    no_cmp : x ≡ 276 → decode_of h ≡ None
    no_cmp e =
        let z : field h 6 2 ≡ 0 = halves_are 1 0 (lit< tt) (lit< tt) (sym told ∙ e) in
        is_high 1 0 (lit< tt) (lit< tt) (sym told ∙ e) ∙ simp z

    no_high : 284 ≤ x → field h 10 3 ≡ 1 → decode_of h ≡ None
    no_high past g = let o : field h 8 2 ≡ 3 = omega arith in simp (f, g, o)

    no_registers : (256 ≤ x → 262 ≤ x) → (272 ≤ x → 276 ≤ x) → (277 ≤ x → 284 ≤ x) → decode_of h ≡ None
    no_registers alu add rest = by_half (field h 10 3) refl
      where
        high : field h 10 3 ≡ 1 → (t : Bool) → eqb x 276 ≡ t → decode_of h ≡ None
        high g true e = no_cmp (eqb-true x 276 e)
        high g false e =
            let other : Not x 276 = eqb-false x 276 e in
            let from : 272 ≤ x = omega arith in
            no_high (rest (skip 276 (add from) other)) g

        by_half : (n : ℕ) → field h 10 3 ≡ n → decode_of h ≡ None
        by_half zero g = let from : 256 ≤ x = omega arith in no_alu (alu from) g
        by_half (suc zero) g = high g (eqb x 276) refl
        by_half (suc (suc n)) g = rw (f, g)

  pub is_other : (x : ℕ) → x ≡ h / 64 → (256 ≤ x → 262 ≤ x) → (272 ≤ x → 276 ≤ x) → (277 ≤ x → 284 ≤ x)
      → decode_of h ≡ other_else h
  is_other x told alu add rest = go (eqb (field h 13 3) 2) refl
    where
      go : (t : Bool) → eqb (field h 13 3) 2 ≡ t → decode_of h ≡ other_else h
      go true e = no_registers x told (eqb-true (field h 13 3) 2 e) alu add rest ∙ sym (simp e)
      go false e = sym (simp e)

  -- only branches are left
  no_halt : Not (field h 11 5) 0 → 256 ≤ h
  no_halt n = omega arith

  no_imm : Not (field h 11 5) 4 → Not (field h 11 5) 5 → field h 13 3 ≡ 1 → 2 ≤ field h 11 2
  no_imm n n' f = omega (arith, parts h fits)

  pub is_branch_or_none : (n : ℕ) → n ≡ field h 11 5 → Not n 0 → Not n 4 → Not n 5 → Not n 12 → Not n 13 → Not n 14
      → Not n 15 → Not n 20 → other_else h ≡ branch_else h
  is_branch_or_none n told halt mov cmp str ldr strb ldrb add_pc = by_format (field h 13 3) refl
    where
      -- what the last arm is told, of the field itself
      not_here : {k : ℕ} → Not n k → Not (field h 11 5) k
      not_here other z = other (told ∙ z)

      by_format : (t : ℕ) → field h 13 3 ≡ t → other_else h ≡ branch_else h
      by_format zero f = simp (f, le-ltb h 256 (no_halt (not_here halt)))
      by_format (suc zero) f =
          rw f (entry_past (imm_table h) (field h 11 2) (no_imm (not_here mov) (not_here cmp) f))
      by_format (suc (suc zero)) f = simp f
      by_format (suc (suc (suc zero))) f =
          absurd
          (no_memory h fits (not_here str) (not_here ldr) (not_here strb) (not_here ldrb) f)
      by_format (suc (suc (suc (suc zero)))) f = rw f
      by_format (suc (suc (suc (suc (suc zero))))) f =
          simp (f, ne_eqb (field h 11 2) 0 (λ z. add_pc (told ∙ rw (parts h fits, f, z))))
      by_format (suc (suc (suc (suc (suc (suc zero)))))) f = rw f
      by_format (suc (suc (suc (suc (suc (suc (suc t))))))) f =
          simp (
            ne_eqb (field h 13 3) 2 (beyond t (field h 13 3) 2 f (lit< tt)),
            ne_eqb (field h 13 3) 6 (beyond t (field h 13 3) 6 f (lit< tt)),
          )
          (ap (entry (table h)) f)

  -- the upper byte of a branch
  pub is_branch : (n : ℕ) → n < 14 → field h 8 8 ≡ 208 + n → branch_else h ≡ Some (Branch n (field h 0 8))
  is_branch n small e =
      let f : field h 13 3 ≡ 6 = omega arith in
      let g : field h 12 1 ≡ 1 = omega arith in
      let s : field h 8 4 ≡ n = omega arith in
      simp (f, g, s, lt-ltb n 14 small)

  upper_is : field h 13 3 ≡ 6 → field h 12 1 ≡ 1 → field h 8 8 ≡ 208 + field h 8 4
  upper_is f g =
      let half : field h 13 3 ≡ h / 4096 / 2 = omega arith in
      let top : h / 4096 ≡ 13 = omega (arith, half) in
      let byte : h / 256 / 16 ≡ 13 = omega (arith, top) in
      omega (arith, byte)

  pub is_none : {B : Type 0} (x : ℕ) → x ≡ field h 8 8
      → (((((((((((((B × Not x 208) × Not x 209) × Not x 210) × Not x 211) × Not x 212) × Not x 213) × Not x 214)
      × Not x 215) × Not x 216) × Not x 217) × Not x 218) × Not x 219) × Not x 220) × Not x 221
      → branch_else h ≡ None
  is_none x told n = by_format (eqb (field h 13 3) 6) refl
    where
      past : 208 ≤ x → 222 ≤ x
      past p =
          search (
            skip 208,
            skip 209,
            skip 210,
            skip 211,
            skip 212,
            skip 213,
            skip 214,
            skip 215,
            skip 216,
            skip 217,
            skip 218,
            skip 219,
            skip 220,
            skip 221,
          ) depth 16

      by_condition : field h 13 3 ≡ 6 → field h 12 1 ≡ 1 → (t : Bool) → ltb (field h 8 4) 14 ≡ t
          → branch_else h ≡ None
      by_condition f g true e =
          let small : field h 8 4 < 14 = ltb-true (field h 8 4) 14 e in
          let is : x ≡ 208 + field h 8 4 = told ∙ upper_is f g in
          absurd (not_past x (field h 8 4) small is (past (from_first x (field h 8 4) is)))
      by_condition f g false e = simp (f, g, e)

      by_bit : field h 13 3 ≡ 6 → (t : Bool) → eqb (field h 12 1) 1 ≡ t → branch_else h ≡ None
      by_bit f true e = by_condition f (eqb-true (field h 12 1) 1 e) (ltb (field h 8 4) 14) refl
      by_bit f false e = simp (f, e)

      by_format : (t : Bool) → eqb (field h 13 3) 6 ≡ t → branch_else h ≡ None
      by_format true e = by_bit (eqb-true (field h 13 3) 6 e) (eqb (field h 12 1) 1) refl
      by_format false e = simp e
