-- The fields of an instruction's line: what the code tells of them is what the rows say. A register or a value is held
-- as a byte, and one that no byte holds as 255.
use mathlib.Core.Bool.{Bool, true, false}
use mathlib.Core.List.{List, [], ◌∷◌}
use mathlib.Core.Logic.{⊎_elim}
use mathlib.Core.Option.{Option, none, some}
use mathlib.Core.Path.{◌≡◌, refl, ap, ap₂, sym, ◌∙◌, subst}
use Prim.Native.Nat.{ℕ, zero, suc, ◌+◌, ◌-◌, ◌*◌, ◌/◌, ◌%◌, ◌<◌, ◌≤◌, min, max}
use native.Mathlib.Omega.{arith}
use lib.Dec.{eqb, leb, ltb}
use lib.ListN.{length, get_or}
use borrow.Author.Tests.{le-leb, lt-leb, le-ltb, leb-true, eq-eqb, ne_eqb}
use Rattle.text.proofs.Words.{and_right}
use Rattle.units.proofs.Cases.{lt_or_ge}
use Rattle.refusals.specs.declared.check.Check.{Check}
use Rattle.refusals.specs.declared.check.Check.TheVariants as check
use Rattle.refusals.specs.declared.refusal.Refusal.{Refusal}
use Rattle.isa.specs.declared.instruction.Instruction.{Instruction}
use Rattle.isa.specs.declared.instruction.Instruction.TheVariants.{CmpHigh}
use Rattle.isa.specs.declared.instruction.Instruction.TheVariants.{Branch, Halt}
use Rattle.isa.specs.Encode as Encode
use Rattle.isa.specs.Encode.{encode_of, imm_form, alu_form, high_form, memory_form, add_pc_form, branch_form, halt_form}
use Rattle.syntax.specs.Syntax.{given}
use Rattle.syntax.specs.declared.parser.Item.{Item}
use Rattle.assembler.specs.Assemble.{rows, instruction_of, in_fours, in_reach, branch_byte, halfword_in}
use Rattle.assembler.specs.Passes.{item_in, field_meaning}
use Rattle.std.specs.Prelude.{Result, Ok, Err}

-- what the encoder gives
pub encoded_is : (i : Instruction) {e : Result ℕ Refusal} {h : ℕ} → e ≡ encode_of i → h ≡ halfword_in e
    → Ok h ≡ field_meaning (some i)
unfolding field_meaning
encoded_is i p q = ap Ok (q ∙ ap halfword_in p)

-- a test that passed, and one that didn't
pub fits : (i : Instruction) {r : Result ℕ Check} {test : Bool} → test ≡ true → r ≡ field_meaning (some i)
    → r ≡ field_meaning (given test i)
fits i e p = rw e p

pub unfit : (i : Instruction) (test : Bool) → test ≡ false → Err check.Value ≡ field_meaning (given test i)
unfolding field_meaning
unfit i test e = rw e refl

pub fours : (i : Instruction) {r : Result ℕ Check} (most v : ℕ) → v % 4 ≡ 0 → r ≡ field_meaning (given (leb v most) i)
    → r ≡ field_meaning (given (in_fours most v) i)
fours i most v e p = rw (eq-eqb (v % 4) 0 e) p

pub no_fours : (most v : ℕ) → (v % 4 ≡ 0 → ⊥) → in_fours most v ≡ false
no_fours most v n = rw (ne_eqb (v % 4) 0 n) refl

-- another way to put the same test and the same instruction
given_as : {r : Result ℕ Check} (s t : Bool) (x y : Instruction) → s ≡ t → (s ≡ true → encode_of x ≡ encode_of y)
    → r ≡ field_meaning (given s x) → r ≡ field_meaning (given t y)
unfolding field_meaning
given_as {r} s t x y e same p = subst (λ (b : Bool). r ≡ field_meaning (given b y)) e (p ∙ go s same)
  where
    go : (b : Bool) → (b ≡ true → encode_of x ≡ encode_of y) → field_meaning (given b x) ≡ field_meaning (given b y)
    go true same = ap (λ (e : Result ℕ Refusal). Ok (halfword_in e)) (same refl)
    go false same = refl

-- a branch up, and one down
module _ (i j condition : ℕ) where
  pub branch_up : {r : Result ℕ Check} {offset : ℕ} → i ≤ j → offset ≡ min (j - i) 255
      → r ≡ field_meaning (given (leb (j - i) 127) (Branch condition offset))
      → r ≡ field_meaning (given (in_reach i j) (Branch condition (branch_byte i j)))
  branch_up {r} {offset} h o p =
      given_as (leb (j - i) 127) (in_reach i j) (Branch condition offset) (Branch condition (branch_byte i j))
      reach same p
    where
      reach : leb (j - i) 127 ≡ in_reach i j
      reach = ⊎_elim far near (lt_or_ge 127 (j - i))
        where
          far : 127 < j - i → leb (j - i) 127 ≡ in_reach i j
          far l = rw (lt-leb (j - i) 127 l, le-leb i (j + 128) (omega arith), lt-leb j (i + 127) (omega arith)) refl

          near : j - i ≤ 127 → leb (j - i) 127 ≡ in_reach i j
          near l = rw (le-leb (j - i) 127 l, le-leb i (j + 128) (omega arith), le-leb j (i + 127) (omega arith)) refl

      same : leb (j - i) 127 ≡ true → encode_of (Branch condition offset)
          ≡ encode_of (Branch condition (branch_byte i j))
      same t =
          let l = leb-true (j - i) 127 t in
          let byte : offset ≡ branch_byte i j = omega arith in
          ap (λ (b : ℕ). encode_of (Branch condition b)) byte

  pub branch_down : {r : Result ℕ Check} → j < i → i - j ≤ 128
      → r ≡ field_meaning (some (Branch condition (256 - (i - j))))
      → r ≡ field_meaning (given (in_reach i j) (Branch condition (branch_byte i j)))
  branch_down h l p =
      let reach : in_reach i j ≡ true = rw (le-leb i (j + 128) (omega arith), le-leb j (i + 127) (omega arith)) refl in
      let byte : 256 - (i - j) ≡ branch_byte i j = omega arith in
      fits (Branch condition (branch_byte i j)) reach
      (p ∙ ap (λ (b : ℕ). field_meaning (some (Branch condition b))) byte)

  pub branch_far : j < i → 128 < i - j
      → Err check.Value ≡ field_meaning (given (in_reach i j) (Branch condition (branch_byte i j)))
  branch_far h l = unfit (Branch condition (branch_byte i j)) (in_reach i j)
      (rw (lt-leb i (j + 128) (omega arith)) refl)

-- a register as a byte: none but a small one fits its bits
narrowed : (v bound : ℕ) (f : ℕ → Result ℕ Refusal) → bound ≤ 255
    → Encode.given (ltb (min v 255) bound) (f (min v 255)) ≡ Encode.given (ltb v bound) (f v)
narrowed v bound f h = ⊎_elim small large (lt_or_ge v 256)
  where
    small : v < 256 → Encode.given (ltb (min v 255) bound) (f (min v 255)) ≡ Encode.given (ltb v bound) (f v)
    small l = let e : min v 255 ≡ v = omega arith in ap (λ (x : ℕ). Encode.given (ltb x bound) (f x)) e

    large : 256 ≤ v → Encode.given (ltb (min v 255) bound) (f (min v 255)) ≡ Encode.given (ltb v bound) (f v)
    large l = rw (le-ltb (min v 255) bound (omega arith), le-ltb v bound (omega arith)) refl

pub imm_narrow : (op a b : ℕ) → imm_form op (min a 255) b ≡ imm_form op a b
imm_narrow op a b =
    narrowed a 8 (λ rd. Encode.given (ltb b 256) (Ok (0x2000 + op * 0x800 + rd * 0x100 + b))) (omega arith)

pub alu_narrow : (op b a : ℕ) → alu_form op (min b 255) (min a 255) ≡ alu_form op b a
alu_narrow op b a =
    narrowed b 8 (λ rs. Encode.given (ltb (min a 255) 8) (Ok (0x4000 + op * 0x40 + rs * 8 + min a 255)))
    (omega arith)
    ∙ ap (Encode.given (ltb b 8)) (narrowed a 8 (λ rd. Ok (0x4000 + op * 0x40 + b * 8 + rd)) (omega arith))

abbrev high : ℕ → ℕ → ℕ → ℕ
high op rs rd = 0x4400 + op * 0x100 + rd / 8 * 0x80 + rs / 8 * 0x40 + rs % 8 * 8 + rd % 8

pub high_narrow : (op b a : ℕ) → high_form op (min b 255) (min a 255) ≡ high_form op b a
high_narrow op b a =
    narrowed b 16 (λ rs. Encode.given (ltb (min a 255) 16) (Ok (high op rs (min a 255)))) (omega arith)
    ∙ ap (Encode.given (ltb b 16)) (narrowed a 16 (λ rd. Ok (high op b rd)) (omega arith))

-- the order of tests is no matter
inward : (s t u : Bool) (e : Result ℕ Refusal)
    → Encode.given s (Encode.given t (Encode.given u e)) ≡ Encode.given t (Encode.given u (Encode.given s e))
inward true true true e = refl
inward true true false e = refl
inward true false u e = refl
inward false true true e = refl
inward false true false e = refl
inward false false u e = refl

pub cmp_narrow : (b a : ℕ) → encode_of (CmpHigh (min b 255) (min a 255)) ≡ encode_of (CmpHigh b a)
cmp_narrow b a =
    let rs = min b 255 in
    let rd = min a 255 in
    inward (ltb 7 (max rs rd)) (ltb rs 16) (ltb rd 16) (Ok (high 1 rs rd))
    ∙ narrowed b 16 (λ x. Encode.given (ltb rd 16) (Encode.given (ltb 7 (max x rd)) (Ok (high 1 x rd))))
    (omega arith)
    ∙ ap (Encode.given (ltb b 16))
    (narrowed a 16 (λ x. Encode.given (ltb 7 (max b x)) (Ok (high 1 b x))) (omega arith))
    ∙ sym (inward (ltb 7 (max b a)) (ltb b 16) (ltb a 16) (Ok (high 1 b a)))

pub memory_narrow : (op offset b a : ℕ) → memory_form op offset (min b 255) (min a 255) ≡ memory_form op offset b a
memory_narrow op offset b a =
    ap (Encode.given (ltb offset 32))
    (narrowed b 8 (λ rb. Encode.given (ltb (min a 255) 8)
    (Ok (0x6000 + op * 0x800 + offset * 0x40 + rb * 8 + min a 255))) (omega arith)
    ∙ ap (Encode.given (ltb b 8))
    (narrowed a 8 (λ rd. Ok (0x6000 + op * 0x800 + offset * 0x40 + b * 8 + rd)) (omega arith)))

pub pc_narrow : (a v : ℕ) → add_pc_form (min a 255) v ≡ add_pc_form a v
pc_narrow a v = narrowed a 8 (λ rd. Encode.given (ltb v 256) (Ok (0xa000 + rd * 0x100 + v))) (omega arith)

branch_narrow : (a v : ℕ) → branch_form (min a 255) v ≡ branch_form a v
branch_narrow a v =
    narrowed a 14 (λ cd. Encode.given (ltb v 256) (Ok (0xd000 + cd * 0x100 + v))) (omega arith)

-- past the end of the rows
nothing : (l : List (Option Instruction)) (n : ℕ) → length l ≤ n → get_or l n none ≡ none
nothing [] n h = refl
nothing (x ∷ l) zero h = absurd (omega arith)
nothing (x ∷ l) (suc n) h = nothing l n (omega arith)

-- the arms of the rows, for instruction i, whose target is j. n is the row's number, F and `same` are its instruction
module _ (x : Item) (i j : ℕ) where
  abbrev a : ℕ
  a = x.values.a

  abbrev b : ℕ
  b = x.values.b

  abbrev c : ℕ
  c = x.values.c

  abbrev entry : ℕ → Option Instruction
  entry n = get_or (rows a b c i j) n none

  abbrev Row : Result ℕ Check → Type 0
  Row r = r ≡ field_meaning (instruction_of (item_in x) i j)

  at_row : {r : Result ℕ Check} (n : ℕ) → x.row ≡ n → r ≡ field_meaning (entry n) → Row r
  at_row {r} n e p = subst (λ (k : ℕ). r ≡ field_meaning (entry k)) (sym e) p

  pub no_row : x.row ≡ 0 → Row (Err check.Value)
  unfolding field_meaning
  no_row e = at_row 0 e refl

  pub past_rows : 19 ≤ x.row → Row (Err check.Value)
  unfolding field_meaning
  past_rows h = rw (nothing (rows a b c i j) x.row h) refl

  -- two registers
  pub registers : (n : ℕ) (F : ℕ → ℕ → Instruction) {r : Result ℕ Check} {rs rd : ℕ}
      → ((b a : ℕ) → encode_of (F (min b 255) (min a 255)) ≡ encode_of (F b a)) → some (F b a) ≡ entry n
      → x.row ≡ n → rs ≡ min b 255 → rd ≡ min a 255 → r ≡ field_meaning (some (F rs rd)) → Row r
  unfolding field_meaning
  registers n F {r} {rs} {rd} same is e s d p =
      let alike : encode_of (F rs rd) ≡ encode_of (F b a) = ap₂ (λ (y z : ℕ). encode_of (F y z)) s d ∙ same b a in
      at_row n e (subst (λ (o : Option Instruction). r ≡ field_meaning o) is
      (p ∙ ap (λ (h : Result ℕ Refusal). Ok (halfword_in h)) alike))

  -- a register and a value that was tested
  pub immediate : (n : ℕ) (F : ℕ → ℕ → Instruction) (test : Bool) (v : ℕ) {r : Result ℕ Check} {rd imm : ℕ}
      → ((a v : ℕ) → encode_of (F (min a 255) v) ≡ encode_of (F a v))
      → (test ≡ true → v ≤ 255) → given test (F a v) ≡ entry n
      → x.row ≡ n → rd ≡ min a 255 → imm ≡ min v 255 → r ≡ field_meaning (given test (F rd imm)) → Row r
  immediate n F test v {r} {rd} {imm} same within is e d m p =
      at_row n e (subst (λ (o : Option Instruction). r ≡ field_meaning o) is
      (given_as test test (F rd imm) (F a v) refl alike p))
    where
      alike : test ≡ true → encode_of (F rd imm) ≡ encode_of (F a v)
      alike t =
          let h = within t in
          let whole : imm ≡ v = omega arith in
          ap₂ (λ (y z : ℕ). encode_of (F y z)) d whole ∙ same a v

  -- two registers and a value that was tested
  pub memory : (n : ℕ) (F : ℕ → ℕ → ℕ → Instruction) (test : Bool) (v : ℕ) {r : Result ℕ Check} {offset rb rd : ℕ}
      → ((v b a : ℕ) → encode_of (F v (min b 255) (min a 255)) ≡ encode_of (F v b a))
      → (test ≡ true → v ≤ 255) → given test (F v b a) ≡ entry n
      → x.row ≡ n → offset ≡ min v 255 → rb ≡ min b 255 → rd ≡ min a 255
      → r ≡ field_meaning (given test (F offset rb rd))
      → Row r
  memory n F test v {r} {offset} {rb} {rd} same within is e o s d p =
      at_row n e (subst (λ (y : Option Instruction). r ≡ field_meaning y) is
      (given_as test test (F offset rb rd) (F v b a) refl alike p))
    where
      alike : test ≡ true → encode_of (F offset rb rd) ≡ encode_of (F v b a)
      alike t =
          let h = within t in
          let whole : offset ≡ v = omega arith in
          ap₂ (λ (y z : ℕ). encode_of (F offset y z)) s d
          ∙ ap (λ (y : ℕ). encode_of (F y (min b 255) (min a 255))) whole ∙ same v b a

  pub branches : {r : Result ℕ Check} {rd : ℕ} → x.row ≡ 17 → rd ≡ min a 255
      → r ≡ field_meaning (given (in_reach i j) (Branch rd (branch_byte i j))) → Row r
  branches {r} {rd} e d p =
      at_row 17 e
      (given_as (in_reach i j) (in_reach i j) (Branch rd (branch_byte i j)) (Branch a (branch_byte i j)) refl alike p)
    where
      alike : in_reach i j ≡ true → encode_of (Branch rd (branch_byte i j)) ≡ encode_of (Branch a (branch_byte i j))
      alike t = ap (λ (y : ℕ). encode_of (Branch y (branch_byte i j))) d ∙ branch_narrow a (branch_byte i j)

  pub halts : {r : Result ℕ Check} {note : ℕ} → x.row ≡ 18 → note ≡ min a 255
      → r ≡ field_meaning (given (leb a 255) (Halt note)) → Row r
  halts {r} {note} e d p = at_row 18 e (given_as (leb a 255) (leb a 255) (Halt note) (Halt a) refl alike p)
    where
      alike : leb a 255 ≡ true → encode_of (Halt note) ≡ encode_of (Halt a)
      alike t =
          let h = leb-true a 255 t in
          let whole : note ≡ a = omega arith in
          ap (λ (y : ℕ). encode_of (Halt y)) whole

-- what the tests say of the values
pub within_byte : (v most : ℕ) → most ≤ 255 → leb v most ≡ true → v ≤ 255
within_byte v most h t = let l = leb-true v most t in omega arith

pub within_word : (most v : ℕ) → most ≤ 1020 → in_fours most v ≡ true → v / 4 ≤ 255
within_word most v h t = let l = leb-true v most (and_right (eqb (v % 4) 0) (leb v most) t) in omega arith
