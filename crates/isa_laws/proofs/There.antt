-- The halfword that an instruction encodes to decodes to that instruction.
use mathlib.Core.Bool.{Bool, true, false}
use mathlib.Core.Path.{◌≡◌, refl, ◌∙◌}
use Prim.Native.Nat.{ℕ, ◌+◌, ◌*◌, ◌/◌, ◌%◌, ◌<◌, max}
use mathlib.Core.List.{List, [], ◌∷◌}
use native.Mathlib.Omega.{arith}
use borrow.Author.Tests.{lt-ltb, ltb-true}
use lib.Dec.{ltb, lit<}
use Rattle.units.specs.Field.{field}
use Rattle.refusals.specs.declared.check.Check.TheVariants as check
use Rattle.refusals.specs.Refusal.{refusal}
use Rattle.isa.specs.declared.instruction.Instruction.{Instruction}
use Rattle.isa.specs.declared.instruction.Instruction.TheVariants.{Halt, MovImm, CmpImm, And, Eor, Asr, Tst, Neg, Cmp}
use Rattle.isa.specs.declared.instruction.Instruction.TheVariants.{AddHigh, CmpHigh, MovHigh, Str, Ldr, Strb, Ldrb}
use Rattle.isa.specs.declared.instruction.Instruction.TheVariants.{AddPc, Branch}
use Rattle.isa.specs.Decode.{decode_of, entry, only}
use Rattle.isa.specs.Encode.{encode_of, imm_form, alu_form, high_form, memory_form, given}
use Rattle.std.specs.Prelude.{Option, Some, Result, Ok, Err}
use Rattle.refusals.specs.declared.refusal.Refusal.{Refusal}

abbrev pub There : Instruction → Result ℕ Refusal → Type 0
There i (Ok h) = decode_of h ≡ Some i
There i (Err r) = Unit {0}

given_elim : (P : Result ℕ Refusal → Type 0) → P (Err (refusal check.Fields)) → (b : Bool) (e : Result ℕ Refusal)
    → (b ≡ true → P e)
    → P (given b e)
given_elim P u true e f = f refl
given_elim P u false e f = u

-- a range test: P where it passes
under : (i : Instruction) (a n : ℕ) (e : Result ℕ Refusal) → (a < n → There i e) → There i (given (ltb a n) e)
under i a n e f = given_elim (There i) tt (ltb a n) e (λ t. f (ltb-true a n t))

-- each format's instructions, by their operation
abbrev imms : ℕ → ℕ → List (Option Instruction)
imms rd imm = Some (MovImm rd imm) ∷ Some (CmpImm rd imm) ∷ []

abbrev alus : ℕ → ℕ → List (Option Instruction)
alus rs rd =
    Some (And rs rd) ∷ Some (Eor rs rd) ∷ Some (Asr rs rd)
    ∷ Some (Tst rs rd) ∷ Some (Neg rs rd) ∷ Some (Cmp rs rd) ∷ []

abbrev highs : ℕ → ℕ → List (Option Instruction)
highs rs rd =
    Some (AddHigh rs rd)
    ∷ only (ltb 0 (rs / 8 + rd / 8 * 2)) (Some (CmpHigh rs rd))
    ∷ Some (MovHigh rs rd) ∷ []

abbrev memories : ℕ → ℕ → ℕ → List (Option Instruction)
memories offset rb rd =
    Some (Str offset rb rd) ∷ Some (Ldr offset rb rd)
    ∷ Some (Strb offset rb rd) ∷ Some (Ldrb offset rb rd) ∷ []

-- the fields of each format's sum
imm_there : (h op rd imm : ℕ) → h ≡ 0x2000 + op * 0x800 + rd * 0x100 + imm → op < 4 → rd < 8 → imm < 256
    → decode_of h ≡ entry (imms rd imm) op
imm_there h op rd imm s o p q =
    let e13 : field h 13 3 ≡ 1 = omega arith in
    let e11 : field h 11 2 ≡ op = omega arith in
    let e8 : field h 8 3 ≡ rd = omega arith in
    let e0 : field h 0 8 ≡ imm = omega arith in
    simp (e13, e11, e8, e0)

alu_there : (h op rs rd : ℕ) → h ≡ 0x4000 + op * 0x40 + rs * 8 + rd → op < 16 → rs < 8 → rd < 8
    → decode_of h ≡ entry (alus rs rd) op
alu_there h op rs rd s o p q =
    let e13 : field h 13 3 ≡ 2 = omega arith in
    let e10 : field h 10 3 ≡ 0 = omega arith in
    let e6 : field h 6 4 ≡ op = omega arith in
    let e3 : field h 3 3 ≡ rs = omega arith in
    let e0 : field h 0 3 ≡ rd = omega arith in
    simp (e13, e10, e6, e3, e0)

memory_there : (h op offset rb rd : ℕ) → h ≡ 0x6000 + op * 0x800 + offset * 0x40 + rb * 8 + rd
    → op < 4 → offset < 32 → rb < 8 → rd < 8 → decode_of h ≡ entry (memories offset rb rd) op
memory_there h op offset rb rd s o p q r =
    let e13 : field h 13 3 ≡ 3 = omega arith in
    let e11 : field h 11 2 ≡ op = omega arith in
    let e6 : field h 6 5 ≡ offset = omega arith in
    let e3 : field h 3 3 ≡ rb = omega arith in
    let e0 : field h 0 3 ≡ rd = omega arith in
    simp (e13, e11, e6, e3, e0)

add_pc_there : (h rd imm : ℕ) → h ≡ 0xa000 + rd * 0x100 + imm → rd < 8 → imm < 256
    → decode_of h ≡ Some (AddPc rd imm)
add_pc_there h rd imm s p q =
    let e13 : field h 13 3 ≡ 5 = omega arith in
    let e11 : field h 11 2 ≡ 0 = omega arith in
    let e8 : field h 8 3 ≡ rd = omega arith in
    let e0 : field h 0 8 ≡ imm = omega arith in
    simp (e13, e11, e8, e0)

branch_there : (h cond offset : ℕ) → h ≡ 0xd000 + cond * 0x100 + offset → cond < 14 → offset < 256
    → decode_of h ≡ Some (Branch cond offset)
branch_there h cond offset s p q =
    let e13 : field h 13 3 ≡ 6 = omega arith in
    let e12 : field h 12 1 ≡ 1 = omega arith in
    let e8 : field h 8 4 ≡ cond = omega arith in
    let e0 : field h 0 8 ≡ offset = omega arith in
    simp (e13, e12, e8, e0, lt-ltb _ _ p)

-- d8 and s8 are H1 and H2
record High (h op s8 s d8 d : ℕ) : Type 0 where
  top : field h 13 3 ≡ 2
  mid : field h 10 3 ≡ 1
  code : field h 8 2 ≡ op
  pair : field h 6 2 ≡ s8 + d8 * 2
  h1 : field h 7 1 ≡ d8
  h2 : field h 6 1 ≡ s8
  low_s : field h 3 3 ≡ s
  low_d : field h 0 3 ≡ d

high_fields : (h op s8 s d8 d : ℕ) → h ≡ 0x4400 + op * 0x100 + d8 * 0x80 + s8 * 0x40 + s * 8 + d
    → op < 4 → s8 < 2 → s < 8 → d8 < 2 → d < 8 → High h op s8 s d8 d
high_fields h op s8 s d8 d e a b f g k = omega arith

high_there : (h op rs rd : ℕ) → h ≡ 0x4400 + op * 0x100 + rd / 8 * 0x80 + rs / 8 * 0x40 + rs % 8 * 8 + rd % 8
    → op < 4 → rs < 16 → rd < 16 → decode_of h ≡ entry (highs rs rd) op
high_there h op rs rd s o p q =
    let f =
    high_fields h op (rs / 8) (rs % 8) (rd / 8) (rd % 8) s o (omega arith) (omega arith) (omega arith) (omega arith) in
    let r : rs / 8 * 8 + rs % 8 ≡ rs = omega arith in
    let t : rd / 8 * 8 + rd % 8 ≡ rd = omega arith in
    simp (f.top, f.mid, f.code, f.pair, f.h1, f.h2, f.low_s, f.low_d, r, t)

imm_case : (i : Instruction) (op rd imm : ℕ) → op < 4 → entry (imms rd imm) op ≡ Some i
    → There i (imm_form op rd imm)
imm_case i op rd imm o e = under i rd 8 _ (λ p. under i imm 256 _ (λ q. imm_there _ op rd imm refl o p q ∙ e))

alu_case : (i : Instruction) (op rs rd : ℕ) → op < 16 → entry (alus rs rd) op ≡ Some i → There i (alu_form op rs rd)
alu_case i op rs rd o e = under i rs 8 _ (λ p. under i rd 8 _ (λ q. alu_there _ op rs rd refl o p q ∙ e))

high_case : (i : Instruction) (op rs rd : ℕ) → op < 4 → entry (highs rs rd) op ≡ Some i
    → There i (high_form op rs rd)
high_case i op rs rd o e = under i rs 16 _ (λ p. under i rd 16 _ (λ q. high_there _ op rs rd refl o p q ∙ e))

cmp_high_case : (rs rd : ℕ) → 7 < max rs rd → There (CmpHigh rs rd) (high_form 1 rs rd)
cmp_high_case rs rd m =
    let z : 0 < rs / 8 + rd / 8 * 2 = omega arith in
    high_case (CmpHigh rs rd) 1 rs rd (lit< tt) (simp (lt-ltb _ _ z))

memory_case : (i : Instruction) (op offset rb rd : ℕ) → op < 4 → entry (memories offset rb rd) op ≡ Some i
    → There i (memory_form op offset rb rd)
memory_case i op offset rb rd o e =
    under i offset 32 _ (λ p. under i rb 8 _ (λ q. under i rd 8 _ (λ r.
    memory_there _ op offset rb rd refl o p q r ∙ e)))

pub halt_there : (note : ℕ) → note < 256 → decode_of note ≡ Some (Halt note)
halt_there note small =
    let e13 : field note 13 3 ≡ 0 = omega arith in
    let e0 : field note 0 8 ≡ note = omega arith in
    simp (e13, lt-ltb note 256 small, e0)

pub there : (i : Instruction) → There i (encode_of i)
there (MovImm rd imm) = imm_case (MovImm rd imm) 0 rd imm (lit< tt) refl
there (CmpImm rd imm) = imm_case (CmpImm rd imm) 1 rd imm (lit< tt) refl
there (And rs rd) = alu_case (And rs rd) 0 rs rd (lit< tt) refl
there (Eor rs rd) = alu_case (Eor rs rd) 1 rs rd (lit< tt) refl
there (Asr rs rd) = alu_case (Asr rs rd) 2 rs rd (lit< tt) refl
there (Tst rs rd) = alu_case (Tst rs rd) 3 rs rd (lit< tt) refl
there (Neg rs rd) = alu_case (Neg rs rd) 4 rs rd (lit< tt) refl
there (Cmp rs rd) = alu_case (Cmp rs rd) 5 rs rd (lit< tt) refl
there (AddHigh rs rd) = high_case (AddHigh rs rd) 0 rs rd (lit< tt) refl
there (CmpHigh rs rd) = under (CmpHigh rs rd) 7 (max rs rd) _ (cmp_high_case rs rd)
there (MovHigh rs rd) = high_case (MovHigh rs rd) 2 rs rd (lit< tt) refl
there (Str offset rb rd) = memory_case (Str offset rb rd) 0 offset rb rd (lit< tt) refl
there (Ldr offset rb rd) = memory_case (Ldr offset rb rd) 1 offset rb rd (lit< tt) refl
there (Strb offset rb rd) = memory_case (Strb offset rb rd) 2 offset rb rd (lit< tt) refl
there (Ldrb offset rb rd) = memory_case (Ldrb offset rb rd) 3 offset rb rd (lit< tt) refl
there (AddPc rd imm) =
    let i = AddPc rd imm in
    under i rd 8 _ (λ p. under i imm 256 _ (add_pc_there _ rd imm refl p))
there (Branch cond offset) =
    let i = Branch cond offset in
    under i cond 14 _ (λ p. under i offset 256 _ (branch_there _ cond offset refl p))
there (Halt note) = under (Halt note) note 256 _ (halt_there note)
