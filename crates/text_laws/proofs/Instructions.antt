-- The line of an instruction is read as the instruction's item, and the item says the instruction again.
use mathlib.Core.Bool.{Bool, true, false, cond}
use mathlib.Core.List.{List, [], ◌∷◌, ◌++◌}
use mathlib.Core.Option.{some}
use mathlib.Core.Path.{◌≡◌, refl, sym, ◌∙◌, subst}
use Prim.Native.Nat.{ℕ, zero, suc, ◌+◌, ◌-◌, ◌*◌, ◌/◌, ◌%◌, ◌<◌, ◌≤◌, max}
use Prim.Native.Char.{code}
use native.Mathlib.Omega.{arith}
use lib.Dec.{eqb, ltb}
use borrow.Author.Tests.{ltb-true, ltb-false, le-leb}
use Rattle.units.specs.Address.{branch_target_of, branch_distance}
use Rattle.units.specs.declared.address.ByteAddress.{ByteAddress}
use Rattle.units.proofs.Cases.{clash}
use Rattle.isa.specs.declared.instruction.Instruction.{Instruction}
use Rattle.isa.specs.declared.instruction.Instruction.TheVariants.{MovImm, CmpImm, And, Eor, Asr, Tst, Neg, Cmp}
use Rattle.isa.specs.declared.instruction.Instruction.TheVariants.{AddHigh, CmpHigh, MovHigh, Str, Ldr, Strb, Ldrb}
use Rattle.isa.specs.declared.instruction.Instruction.TheVariants.{AddPc, Branch, Halt}
use Rattle.isa.specs.Encode.{encode_of, imm_form, alu_form, high_form, memory_form, add_pc_form, branch_form, halt_form}
use Rattle.isa.specs.Encode as Encode
use Rattle.targets.specs.Targets.{address_of}
use Rattle.text.specs.Text.{Text, quoted, name_of, word, after_word}
use Rattle.text.proofs.Words.{word_front, word_back}
use Rattle.syntax.specs.Syntax.{Item, slot_value, slot_word, fill, values_of, pattern_at, label_row, branch_row, given}
use Rattle.syntax.specs.Syntax.{register_word, label_word, line_with}
use Rattle.syntax.proofs.Rows.{at_slot, never}
use Rattle.assembler.specs.Assemble.{said_at, Instructs, field_said, in_fours, in_reach, branch_byte, definition_of}
use Rattle.assembler.specs.Assemble.{is_label}
use Rattle.assembler.specs.Assemble.{value_at}
use Rattle.lister.specs.List.{item_of, item_line}
use Rattle.text_laws.proofs.Slots.{low, high, number, condition, label, decimal_word, register_past}
use Rattle.text_laws.proofs.Reading.{Written, row_written, cmp_written}
use Rattle.std.specs.Prelude.{Result, Ok}
use Rattle.refusals.specs.declared.refusal.Refusal.{Refusal}

abbrev pub item : ℕ → List ℕ → Item
item row vs = record { row = row; values = vs }

-- the name that is read for an address
abbrev pub name_at : ℕ → ℕ
name_at a = name_of (label_word a)

-- what an item that is written is read as: an address is read as its label's name
abbrev pub read_as : Item → Item
read_as x = cond (eqb x.row branch_row) (item branch_row (value_at x 0 ∷ name_at (value_at x 1) ∷ [])) x

-- the tests that an instruction with a halfword has passed, format by format
under : (a n : ℕ) (e : Result ℕ Refusal) (h : ℕ) → Encode.given (ltb a n) e ≡ Ok h → (a < n) × (e ≡ Ok h)
under a n e h q = go (ltb a n) refl q
  where
    go : (b : Bool) → ltb a n ≡ b → Encode.given b e ≡ Ok h → (a < n) × (e ≡ Ok h)
    go true l q = (ltb-true a n l, q)
    go false l q = clash (cc)

imm_fits : (op rd imm h : ℕ) → imm_form op rd imm ≡ Ok h → (rd < 8) × (imm < 256)
imm_fits op rd imm h e =
    let first = under rd 8 _ h e in
    (first.0, (under imm 256 _ h first.1).0)

alu_fits : (op rs rd h : ℕ) → alu_form op rs rd ≡ Ok h → (rs < 8) × (rd < 8)
alu_fits op rs rd h e =
    let first = under rs 8 _ h e in
    (first.0, (under rd 8 _ h first.1).0)

high_fits : (op rs rd h : ℕ) → high_form op rs rd ≡ Ok h → (rs < 16) × (rd < 16)
high_fits op rs rd h e =
    let first = under rs 16 _ h e in
    (first.0, (under rd 16 _ h first.1).0)

memory_fits : (op offset rb rd h : ℕ) → memory_form op offset rb rd ≡ Ok h
    → (offset < 32) × (rb < 8) × (rd < 8)
memory_fits op offset rb rd h e =
    let first = under offset 32 _ h e in
    let second = under rb 8 _ h first.1 in
    (first.0, second.0, (under rd 8 _ h second.1).0)

add_pc_fits : (rd imm h : ℕ) → add_pc_form rd imm ≡ Ok h → (rd < 8) × (imm < 256)
add_pc_fits rd imm h e =
    let first = under rd 8 _ h e in
    (first.0, (under imm 256 _ h first.1).0)

branch_fits : (c offset h : ℕ) → branch_form c offset ≡ Ok h → (c < 14) × (offset < 256)
branch_fits c offset h e =
    let first = under c 14 _ h e in
    (first.0, (under offset 256 _ h first.1).0)

halt_fits : (note h : ℕ) → halt_form note ≡ Ok h → note < 256
halt_fits note h e = (under note 256 _ h e).0

-- what a slot of low registers takes is low
is_low : (r v : ℕ) → r < 16 → slot_value (code "r") (register_word r) ≡ some v → r < 8
unfolding slot_value
is_low r v h e = go (ltb r 8) refl
  where
    go : (b : Bool) → ltb r 8 ≡ b → r < 8
    go true l = ltb-true r 8 l
    go false l = never (sym (register_past 8 r (ltb-false r 8 l) (omega arith)) ∙ e)

-- CMP with a high register is no line of row 8
module _ (rs rd : ℕ) (h : rs < 16) (g : rd < 16) (m : 7 < max rs rd) where
  -- what follows the first register
  abbrev second : Text
  second = quoted ", " ++ (register_word rs ++ [])

  both_low : (v w : ℕ) → slot_value (code "r") (register_word rd) ≡ some v
      → slot_value (code "r") (register_word rs) ≡ some w → ⊥
  both_low v w p q =
      let a : rd < 8 = is_low rd v g p in
      let b : rs < 8 = is_low rs w h q in
      omega arith

  cmp_high_only : (ws : List ℕ) → values_of (pattern_at 8) (fill (pattern_at 10) (rd ∷ rs ∷ [])) ≡ some ws → ⊥
  unfolding values_of fill slot_word
  cmp_high_only ws q =
      let w : word (register_word rd ++ second) ≡ register_word rd
      = word_front (register_word rd) second (decimal_word rd) refl in
      let r : after_word (register_word rd ++ second) ≡ second
      = word_back (register_word rd) second (decimal_word rd) refl in
      let w' : word (register_word rs ++ []) ≡ register_word rs
      = word_front (register_word rs) [] (decimal_word rs) refl in
      at_slot ⊥ (code "r") (quoted ", r") (register_word rd ++ second) ws refl q (λ v us e f.
      at_slot ⊥ (code "r") [] (register_word rs ++ []) us refl
      (subst (λ (x : Text). values_of (quoted ", r") x ≡ some us) r f) (λ v' us' e' f'.
      both_low v v' (subst (λ (x : Text). slot_value (code "r") x ≡ some v) w e)
      (subst (λ (x : Text). slot_value (code "r") x ≡ some v') w' e')))

-- a label's line
pub label_written : (a : ℕ) → Written (line_with label_row (a ∷ [])) (item label_row (name_at a ∷ []))
label_written a = row_written 0 (a ∷ []) (name_at a ∷ []) tt tt (label a, (refl, tt))

pub written : (a : ByteAddress) (h : ℕ) (x : Instruction) → encode_of x ≡ Ok h
    → Written (item_line (item_of a x)) (read_as (item_of a x))
written a h (MovImm rd imm) e =
    let fits = imm_fits 0 rd imm h e in
    row_written 1 (rd ∷ imm ∷ []) (rd ∷ imm ∷ []) tt tt (low rd fits.0, (number imm (omega arith), tt))
written a h (CmpImm rd imm) e =
    let fits = imm_fits 1 rd imm h e in
    row_written 2 (rd ∷ imm ∷ []) (rd ∷ imm ∷ []) tt tt (low rd fits.0, (number imm (omega arith), tt))
written a h (And rs rd) e =
    let fits = alu_fits 0 rs rd h e in
    row_written 3 (rd ∷ rs ∷ []) (rd ∷ rs ∷ []) tt tt (low rd fits.1, (low rs fits.0, tt))
written a h (Eor rs rd) e =
    let fits = alu_fits 1 rs rd h e in
    row_written 4 (rd ∷ rs ∷ []) (rd ∷ rs ∷ []) tt tt (low rd fits.1, (low rs fits.0, tt))
written a h (Asr rs rd) e =
    let fits = alu_fits 2 rs rd h e in
    row_written 5 (rd ∷ rs ∷ []) (rd ∷ rs ∷ []) tt tt (low rd fits.1, (low rs fits.0, tt))
written a h (Tst rs rd) e =
    let fits = alu_fits 3 rs rd h e in
    row_written 6 (rd ∷ rs ∷ []) (rd ∷ rs ∷ []) tt tt (low rd fits.1, (low rs fits.0, tt))
written a h (Neg rs rd) e =
    let fits = alu_fits 4 rs rd h e in
    row_written 7 (rd ∷ rs ∷ []) (rd ∷ rs ∷ []) tt tt (low rd fits.1, (low rs fits.0, tt))
written a h (Cmp rs rd) e =
    let fits = alu_fits 5 rs rd h e in
    row_written 8 (rd ∷ rs ∷ []) (rd ∷ rs ∷ []) tt tt (low rd fits.1, (low rs fits.0, tt))
written a h (AddHigh rs rd) e =
    let fits = high_fits 0 rs rd h e in
    row_written 9 (rd ∷ rs ∷ []) (rd ∷ rs ∷ []) tt tt (high rd fits.1, (high rs fits.0, tt))
written a h (CmpHigh rs rd) e =
    let one-high = under 7 (max rs rd) _ h e in
    let fits = high_fits 1 rs rd h one-high.1 in
    cmp_written (rd ∷ rs ∷ []) (rd ∷ rs ∷ []) (high rd fits.1, (high rs fits.0, tt))
    (cmp_high_only rs rd fits.0 fits.1 one-high.0)
written a h (MovHigh rs rd) e =
    let fits = high_fits 2 rs rd h e in
    row_written 11 (rd ∷ rs ∷ []) (rd ∷ rs ∷ []) tt tt (high rd fits.1, (high rs fits.0, tt))
written a h (Str offset rb rd) e =
    let fits = memory_fits 0 offset rb rd h e in
    row_written 12 (rd ∷ rb ∷ 4 * offset ∷ []) (rd ∷ rb ∷ 4 * offset ∷ []) tt tt
    (low rd fits.2, (low rb fits.1, (number (4 * offset) (omega arith), (refl, tt))))
written a h (Ldr offset rb rd) e =
    let fits = memory_fits 1 offset rb rd h e in
    row_written 13 (rd ∷ rb ∷ 4 * offset ∷ []) (rd ∷ rb ∷ 4 * offset ∷ []) tt tt
    (low rd fits.2, (low rb fits.1, (number (4 * offset) (omega arith), (refl, tt))))
written a h (Strb offset rb rd) e =
    let fits = memory_fits 2 offset rb rd h e in
    row_written 14 (rd ∷ rb ∷ offset ∷ []) (rd ∷ rb ∷ offset ∷ []) tt tt
    (low rd fits.2, (low rb fits.1, (number offset (omega arith), (refl, tt))))
written a h (Ldrb offset rb rd) e =
    let fits = memory_fits 3 offset rb rd h e in
    row_written 15 (rd ∷ rb ∷ offset ∷ []) (rd ∷ rb ∷ offset ∷ []) tt tt
    (low rd fits.2, (low rb fits.1, (number offset (omega arith), (refl, tt))))
written a h (AddPc rd imm) e =
    let fits = add_pc_fits rd imm h e in
    row_written 16 (rd ∷ 4 * imm ∷ []) (rd ∷ 4 * imm ∷ []) tt tt
    (low rd fits.0, (number (4 * imm) (omega arith), tt))
written a h (Branch c offset) e =
    let fits = branch_fits c offset h e in
    let to = (branch_target_of a offset).0 in
    row_written 17 (c ∷ to ∷ []) (c ∷ name_at to ∷ []) tt tt (condition c fits.0, (label to, tt))
written a h (Halt note) e =
    let fits = halt_fits note h e in
    row_written 18 (note ∷ []) (note ∷ []) tt tt (number note (omega arith), tt)

-- an instruction's item is no label
pub no_label : (a : ByteAddress) (x : Instruction) → is_label (read_as (item_of a x)) ≡ false
no_label a (MovImm rd imm) = refl
no_label a (CmpImm rd imm) = refl
no_label a (And rs rd) = refl
no_label a (Eor rs rd) = refl
no_label a (Asr rs rd) = refl
no_label a (Tst rs rd) = refl
no_label a (Neg rs rd) = refl
no_label a (Cmp rs rd) = refl
no_label a (AddHigh rs rd) = refl
no_label a (CmpHigh rs rd) = refl
no_label a (MovHigh rs rd) = refl
no_label a (Str offset rb rd) = refl
no_label a (Ldr offset rb rd) = refl
no_label a (Strb offset rb rd) = refl
no_label a (Ldrb offset rb rd) = refl
no_label a (AddPc rd imm) = refl
no_label a (Branch condition offset) = refl
no_label a (Halt note) = refl

-- an offset in fours comes back
fours : (most n : ℕ) (f : ℕ → Instruction) → 4 * n ≤ most
    → field_said (given (in_fours most (4 * n)) (f (4 * n / 4))) ≡ Instructs (f n)
fours most n f h =
    let d : 4 * n / 4 ≡ n = omega arith in
    let r : 4 * n % 4 ≡ 0 = omega arith in
    simp (d, r, le-leb (4 * n) most h)

-- a branch's signed byte, where the sum of addresses comes round or doesn't
low_byte : (n : ℕ) → n < 256 → (n + 256) % 256 ≡ n
low_byte n h = go ((n + 256) / 256) refl
  where
    go : (q : ℕ) → (n + 256) / 256 ≡ q → (n + 256) % 256 ≡ n
    go zero e = omega arith
    go (suc zero) e = omega arith
    go (suc (suc q)) e = omega arith

goes_on : (i offset j : ℕ) → i < 15936 → offset < 128 → (2 * i + 2 * offset) % 65536 ≡ 2 * j → j ≡ i + offset
goes_on i offset j l o s = go ((2 * i + 2 * offset) / 65536) refl
  where
    go : (q : ℕ) → (2 * i + 2 * offset) / 65536 ≡ q → j ≡ i + offset
    go zero e = omega arith
    go (suc q) e = omega arith

comes_round : (i offset j : ℕ) → i < 15936 → j < 15936 → offset < 256
    → (2 * i + (2 * offset + 65024)) % 65536 ≡ 2 * j → j + 256 ≡ i + offset
comes_round i offset j l m o s = go ((2 * i + (2 * offset + 65024)) / 65536) refl
  where
    go : (q : ℕ) → (2 * i + (2 * offset + 65024)) / 65536 ≡ q → j + 256 ≡ i + offset
    go zero e = omega arith
    go (suc zero) e = omega arith
    go (suc (suc q)) e = omega arith

-- a branch from instruction i to instruction j, of a code that fits an image, has its own byte again
module _ (c i j offset : ℕ) (l : i < 15936) (m : j < 15936) (o : offset < 256) where
  near : i ≤ j + 128 → j ≤ i + 127 → branch_byte i j ≡ offset
      → field_said (given (in_reach i j) (Branch c (branch_byte i j))) ≡ Instructs (Branch c offset)
  near x y z = simp (le-leb i (j + 128) x, le-leb j (i + 127) y, z)

  branch_again : (branch_target_of (address_of i) offset).0 ≡ 2 * j
      → field_said (given (in_reach i j) (Branch c (branch_byte i j))) ≡ Instructs (Branch c offset)
  branch_again t = go (ltb offset 128) refl
    where
      wrapped : (b : Bool) → ltb offset 128 ≡ b
          → (2 * i + cond b (2 * offset) (2 * offset + 65024)) % 65536 ≡ 2 * j
      wrapped b q =
          let small : 2 * i % 65536 ≡ 2 * i = omega arith in
          subst (λ (x : Bool). (2 * i + cond x (2 * offset) (2 * offset + 65024)) % 65536 ≡ 2 * j) q
          (subst (λ (x : ℕ). (x + branch_distance offset) % 65536 ≡ 2 * j) small t)

      go : (b : Bool) → ltb offset 128 ≡ b
          → field_said (given (in_reach i j) (Branch c (branch_byte i j))) ≡ Instructs (Branch c offset)
      go true q =
          let s : (2 * i + 2 * offset) % 65536 ≡ 2 * j = wrapped true q in
          let a : offset < 128 = ltb-true offset 128 q in
          let f : j ≡ i + offset = goes_on i offset j l a s in
          let d : j + 256 - i ≡ offset + 256 = omega arith in
          near (omega arith) (omega arith) (rw d (low_byte offset o))
      go false q =
          let s : (2 * i + (2 * offset + 65024)) % 65536 ≡ 2 * j = wrapped false q in
          let a : 128 ≤ offset = ltb-false offset 128 q in
          let f : j + 256 ≡ i + offset = comes_round i offset j l m o s in
          let d : j + 256 - i ≡ offset = omega arith in
          near (omega arith) (omega arith) (rw d (omega arith))

-- where an instruction's branch goes has been defined as its label
abbrev pub Landing : List Item → ℕ → Instruction → Type 0
Landing items i x =
    (condition offset : ℕ) → x ≡ Branch condition offset
    → (line j : ℕ) × (j < 15936) × ((branch_target_of (address_of i) offset).0 ≡ 2 * j)
    × (definition_of (name_at (branch_target_of (address_of i) offset).0) items
    ≡ some (record { line = line; number = j }))

-- the item says its instruction again
pub said : (items : List Item) (k i h : ℕ) (x : Instruction) → encode_of x ≡ Ok h → i < 15936
    → Landing items i x → said_at items k i (read_as (item_of (address_of i) x)) ≡ Instructs x
unfolding said_at
said items k i h (MovImm rd imm) e l to =
    let fits = imm_fits 0 rd imm h e in
    simp (le-leb imm 255 (omega arith))
said items k i h (CmpImm rd imm) e l to =
    let fits = imm_fits 1 rd imm h e in
    simp (le-leb imm 255 (omega arith))
said items k i h (And rs rd) e l to = refl
said items k i h (Eor rs rd) e l to = refl
said items k i h (Asr rs rd) e l to = refl
said items k i h (Tst rs rd) e l to = refl
said items k i h (Neg rs rd) e l to = refl
said items k i h (Cmp rs rd) e l to = refl
said items k i h (AddHigh rs rd) e l to = refl
said items k i h (CmpHigh rs rd) e l to = refl
said items k i h (MovHigh rs rd) e l to = refl
said items k i h (Str offset rb rd) e l to =
    let fits = memory_fits 0 offset rb rd h e in
    fours 124 offset (λ y. Str y rb rd) (omega arith)
said items k i h (Ldr offset rb rd) e l to =
    let fits = memory_fits 1 offset rb rd h e in
    fours 124 offset (λ y. Ldr y rb rd) (omega arith)
said items k i h (Strb offset rb rd) e l to =
    let fits = memory_fits 2 offset rb rd h e in
    simp (le-leb offset 31 (omega arith))
said items k i h (Ldrb offset rb rd) e l to =
    let fits = memory_fits 3 offset rb rd h e in
    simp (le-leb offset 31 (omega arith))
said items k i h (AddPc rd imm) e l to =
    let fits = add_pc_fits rd imm h e in
    fours 1020 imm (λ y. AddPc rd y) (omega arith)
said items k i h (Branch c offset) e l to =
    let fits = branch_fits c offset h e in
    let at = to c offset refl in
    rw at.4 (branch_again c i at.1 offset l at.2 fits.1 at.3)
said items k i h (Halt note) e l to =
    let fits = halt_fits note h e in
    simp (le-leb note 255 (omega arith))
