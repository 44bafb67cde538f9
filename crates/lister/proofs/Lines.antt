-- Instructions' lines as they are written, and how long they are.
use mathlib.Core.Bool.{Bool, true, false, cond}
use mathlib.Core.List.{List, [], ◌∷◌, ◌++◌, append_assoc, append-nil}
use mathlib.Core.Path.{◌≡◌, refl, sym, ap, ◌∙◌}
use Prim.Native.Char.{code}
use Prim.Native.Nat.{ℕ, zero, suc, ◌+◌, ◌*◌, ◌/◌, ◌<◌, ◌≤◌}
use native.Mathlib.Omega.{arith}
use borrow.Author.Tests.{ltb-true}
use lib.Dec.{eqb, eqb→eq, ltb}
use lib.ListN.{length, get_or, length-append}
use Rattle.std.proofs.Common.{Option, Some, None}
use Rattle.units.proofs.Every as Every
use Rattle.units.specs.Address.{branch_target_of}
use Rattle.units.specs.Field.{field, high_rs, high_rd}
use Rattle.units.specs.declared.address.ByteAddress.{ByteAddress}
use Rattle.isa.specs.Decode.{entry, only, halt_of, imm_table, imm_of, alu_table, alu_of, high_table, high_of}
use Rattle.isa.specs.Decode.{registers_table}
use Rattle.isa.specs.Decode.{registers_of, memory_of, add_pc_of, branch_of, table, decode_of}
use Rattle.isa.specs.declared.instruction.Instruction.{Instruction}
use Rattle.isa.specs.declared.instruction.Instruction.TheVariants.{MovImm, CmpImm, And, Eor, Asr, Tst, Neg, Cmp}
use Rattle.isa.specs.declared.instruction.Instruction.TheVariants.{AddHigh, CmpHigh, MovHigh, Str, Ldr, Strb, Ldrb}
use Rattle.isa.specs.declared.instruction.Instruction.TheVariants.{AddPc, Branch, Halt}
use Rattle.isa.proofs.Table.{All, entry_keeps, only_keeps}
use Rattle.targets.specs.Jumps.{jump_of}
use Rattle.targets.specs.Targets.{jump_at}
use Rattle.text.specs.Text.{Text, quoted, is_same_text, decimal, feed}
use Rattle.text.proofs.Writing.{decimal_at_most, one_digit, two_at_most, three_at_most}
use Rattle.syntax.specs.Syntax.{condition_word, register_word, slot_word, fill}
use Rattle.text.proofs.Words.{same_text}
use Rattle.lister.specs.List.{label_line, instruction_line}
use Rattle.lister.specs.Lines.{branch_names, mnemonic, name_in, named_line, comma, mark, note_text}
use Rattle.lister.specs.Lines.{immediate_text, pair_text, transfer_text, add_pc_text, target_text, registers_text}
use Rattle.lister.specs.Lines.{memory_text, operands_at, operands_of}
use Rattle.lister.proofs.Lengths.{last_sum, immediate_sum, pair_sum, place_sum, transfer_sum, add_pc_sum}

-- a line by its pattern is what is written: its first characters, and the texts one behind another
abbrev end : Text
end = feed ∷ []

module _ (s x : Text) where
  one_joins : (s ++ (x ++ [])) ++ end ≡ s ++ (x ++ end)
  one_joins = simp (append_assoc, append-nil)

  module _ (y : Text) where
    immediate_joins : (s ++ (x ++ (comma ++ (mark ++ (y ++ []))))) ++ end ≡ s ++ (x ++ comma ++ mark ++ (y ++ end))
    immediate_joins = simp (append_assoc, append-nil)

    pair_joins : (s ++ (x ++ (comma ++ (y ++ [])))) ++ end ≡ s ++ (x ++ comma ++ y ++ end)
    pair_joins = simp (append_assoc, append-nil)

    add_pc_joins : (s ++ (x ++ (quoted ", PC, #" ++ (y ++ [])))) ++ end
        ≡ s ++ (x ++ comma ++ quoted "PC, " ++ mark ++ (y ++ end))
    add_pc_joins = simp (append_assoc, append-nil)

    transfer_joins : (z : Text) → (s ++ (x ++ (quoted ", [" ++ (y ++ (quoted ", #" ++ (z ++ quoted "]")))))) ++ end
        ≡ s ++ (x ++ comma ++ (quoted "[" ++ y ++ comma ++ mark ++ z ++ (code "]" ∷ end)))
    transfer_joins z = simp append_assoc

branch_joins : (w x : Text) → (code "B" ∷ (w ++ (quoted " a" ++ (x ++ [])))) ++ end
    ≡ (code "B" ∷ (w ++ quoted " ")) ++ (quoted "a" ++ (x ++ end))
branch_joins w x = simp (append_assoc, append-nil)

-- a label's line
label_joins : (a : ByteAddress) → label_line true a ≡ quoted "a" ++ decimal a.0 ++ (code ":" ∷ end)
unfolding fill slot_word
label_joins a = simp append_assoc

pub label_is : (t : Bool) (a : ByteAddress) → t ≡ true
    → label_line t a ≡ quoted "a" ++ decimal a.0 ++ (code ":" ∷ end)
label_is t a e = ap (λ (t : Bool). label_line t a) e ∙ label_joins a

pub no_label : (t : Bool) (a : ByteAddress) → t ≡ false → label_line t a ≡ []
no_label t a e = ap (λ (t : Bool). label_line t a) e

pub label_sum : (t : Bool) (a : ByteAddress) → t ≡ true → length (label_line t a) ≡ length (decimal a.0) + 3
label_sum t a e = omega (arith, ap length (label_is t a e), length-append (decimal a.0) (code ":" ∷ end))

-- a branch's first characters
branch_name : (c : ℕ) → c < 14 → get_or branch_names c [] ≡ code "B" ∷ (condition_word c ++ quoted " ")
branch_name c h =
    same_text _ _ (Every.at
    (λ k. is_same_text (get_or branch_names k []) (code "B" ∷ (condition_word k ++ quoted " "))) 14 tt c h)

branch_four : (c : ℕ) → c < 14 → length (get_or branch_names c []) ≡ 4
branch_four c h = eqb→eq _ _ (Every.at (λ k. eqb (length (get_or branch_names k [])) 4) 14 tt c h)

-- how many labels an instruction can bring about
abbrev pub jumps : Option ByteAddress → ℕ
jumps (Some a) = 1
jumps None = 0

-- what an instruction's line is, with the texts of its format, and how long: with the label that a branch can bring
-- about no more than 19 bytes
pub record Line (a : ByteAddress) (t : Text) (d : Option Instruction) : Type 0 where
  pub line : instruction_line a d ≡ named_line (name_in d) t
  pub room : length (instruction_line a d) + 8 * jumps (jump_at a d) ≤ 19

no_line : (a : ByteAddress) (t : Text) → Line a t None
no_line a t = record { line = refl; room = omega arith }

plain : (a : ByteAddress) (t : Text) (i : Instruction) → jump_of a i ≡ None → length t ≤ 15
    → length (mnemonic i) ≡ 4 → instruction_line a (Some i) ≡ mnemonic i ++ t → Line a t (Some i)
plain a t i still short four is =
    record { line = is; room = omega (arith, ap length is, length-append (mnemonic i) t, four, ap jumps still) }

-- what holds of each entry of a table, one below the other
infixr 5 ◌▸◌
◌▸◌ : {A B : Type 0} → A → B → A × B
x ▸ y = (x, y)

low_digit : (n : ℕ) → n < 8 → length (decimal n) ≡ 1
low_digit n l = ap length (one_digit n (omega arith))

-- each format
module _ (a : ByteAddress) (h : ℕ) where
  keeps_entry : (t : Text) (ds : List (Option Instruction)) (n : ℕ) → All (Line a t) ds → Line a t (entry ds n)
  keeps_entry t = entry_keeps (Line a t) (no_line a t)

  keeps_only : (t : Text) (test : Bool) (d : Option Instruction) → Line a t d → Line a t (only test d)
  keeps_only t = only_keeps (Line a t) (no_line a t)

  halt_line : Line a (note_text (field h 0 8)) (halt_of h)
  unfolding fill slot_word
  halt_line =
      let n = field h 0 8 in
      keeps_only (note_text n) (ltb h 256) (Some (Halt n))
      (plain a (note_text n) (Halt n) refl (omega (arith, last_sum n, decimal_at_most n)) refl
      (one_joins (quoted "HALT #") (decimal n)))

  imm_line : Line a (immediate_text (field h 8 3) (field h 0 8)) (imm_of h)
  unfolding fill slot_word
  imm_line =
      let r = field h 8 3 in
      let n = field h 0 8 in
      let t = immediate_text r n in
      let short : length t ≤ 15 = omega (arith, immediate_sum r n, last_sum n, decimal_at_most r, decimal_at_most n) in
      keeps_entry t (imm_table h) (field h 11 2)
      (plain a t (MovImm r n) refl short refl (immediate_joins (quoted "MOV ") (register_word r) (decimal n))
      ▸ plain a t (CmpImm r n) refl short refl (immediate_joins (quoted "CMP ") (register_word r) (decimal n)) ▸ tt)

  -- two registers behind the characters s
  module _ (rd rs : ℕ) where
    pair_line : (s : Text) (i : Instruction) → jump_of a i ≡ None
        → instruction_line a (Some i) ≡ (s ++ (register_word rd ++ (comma ++ (register_word rs ++ [])))) ++ end
        → length (mnemonic i) ≡ 4 → s ≡ mnemonic i → Line a (pair_text rd rs) (Some i)
    pair_line s i still is four named =
        plain a (pair_text rd rs) i still (omega (arith, pair_sum rd rs, decimal_at_most rd, decimal_at_most rs)) four
        (is ∙ pair_joins s (register_word rd) (register_word rs) ∙ ap (λ (w : Text). w ++ pair_text rd rs) named)

  alu_line : Line a (pair_text (field h 0 3) (field h 3 3)) (alu_of h)
  unfolding fill slot_word
  alu_line =
      let rd = field h 0 3 in
      let rs = field h 3 3 in
      keeps_entry (pair_text rd rs) (alu_table h) (field h 6 4)
      (pair_line rd rs (quoted "AND ") (And rs rd) refl refl refl refl
      ▸ pair_line rd rs (quoted "EOR ") (Eor rs rd) refl refl refl refl
      ▸ pair_line rd rs (quoted "ASR ") (Asr rs rd) refl refl refl refl
      ▸ pair_line rd rs (quoted "TST ") (Tst rs rd) refl refl refl refl
      ▸ pair_line rd rs (quoted "NEG ") (Neg rs rd) refl refl refl refl
      ▸ pair_line rd rs (quoted "CMP ") (Cmp rs rd) refl refl refl refl ▸ tt)

  high_line : Line a (pair_text (high_rd h) (high_rs h)) (high_of h)
  unfolding fill slot_word
  high_line =
      let rd = high_rd h in
      let rs = high_rs h in
      let compare = pair_line rd rs (quoted "CMP ") (CmpHigh rs rd) refl refl refl refl in
      keeps_entry (pair_text rd rs) (high_table h) (field h 8 2)
      (pair_line rd rs (quoted "ADD ") (AddHigh rs rd) refl refl refl refl
      ▸ keeps_only (pair_text rd rs) (ltb 0 (field h 6 2)) (Some (CmpHigh rs rd)) compare
      ▸ pair_line rd rs (quoted "MOV ") (MovHigh rs rd) refl refl refl refl ▸ tt)

  registers_line : Line a (registers_text h) (registers_of h)
  registers_line = go (field h 10 3)
    where
      go : (n : ℕ)
          → Line a (cond (eqb n 0) (pair_text (field h 0 3) (field h 3 3)) (pair_text (high_rd h) (high_rs h)))
          (entry (registers_table h) n)
      go zero = alu_line
      go (suc zero) = high_line
      go (suc (suc n)) = no_line a _

  -- a load or store behind the characters s; of STRB and LDRB their space is in the gap
  module _ (rd rb n : ℕ) (low : rd < 8) (base : rb < 8) where
    transfer_line : (s gap : Text) (i : Instruction) → length gap + length (decimal n) ≤ 3 → jump_of a i ≡ None
        → instruction_line a (Some i)
        ≡ (s ++ (register_word rd ++ (quoted ", [" ++
        (register_word rb ++ (quoted ", #" ++ (decimal n ++ quoted "]"))))))
        ++ end
        → length (mnemonic i) ≡ 4
        → s ++ transfer_text rd rb n ≡ mnemonic i ++ (gap ++ transfer_text rd rb n)
        → Line a (gap ++ transfer_text rd rb n) (Some i)
    transfer_line s gap i few still is four named =
        plain a (gap ++ transfer_text rd rb n) i still
        (omega (
          arith,
          length-append gap (transfer_text rd rb n),
          transfer_sum rd rb n,
          place_sum rb n,
          low_digit rd low,
          low_digit rb base,
        ))
        four
        (is ∙ transfer_joins s (register_word rd) (register_word rb) (decimal n) ∙ named)

  memory_at : (rd rb n : ℕ) → rd < 8 → rb < 8 → n < 32 → (k : ℕ)
      → Line a (cond (eqb (k / 2) 0) (transfer_text rd rb (4 * n)) (quoted " " ++ transfer_text rd rb n))
      (entry (Some (Str n rb rd) ∷ Some (Ldr n rb rd) ∷ Some (Strb n rb rd) ∷ Some (Ldrb n rb rd) ∷ []) k)
  unfolding fill slot_word
  memory_at rd rb n low base small zero =
      transfer_line rd rb (4 * n) low base (quoted "STR ") [] (Str n rb rd)
      (omega (arith, three_at_most (4 * n) (omega arith))) refl refl refl refl
  memory_at rd rb n low base small (suc zero) =
      transfer_line rd rb (4 * n) low base (quoted "LDR ") [] (Ldr n rb rd)
      (omega (arith, three_at_most (4 * n) (omega arith))) refl refl refl refl
  memory_at rd rb n low base small (suc (suc zero)) =
      transfer_line rd rb n low base (quoted "STRB ") (quoted " ") (Strb n rb rd)
      (omega (arith, two_at_most n (omega arith))) refl refl refl refl
  memory_at rd rb n low base small (suc (suc (suc zero))) =
      transfer_line rd rb n low base (quoted "LDRB ") (quoted " ") (Ldrb n rb rd)
      (omega (arith, two_at_most n (omega arith))) refl refl refl refl
  memory_at rd rb n low base small (suc (suc (suc (suc k)))) = no_line a _

  memory_line : Line a (memory_text h) (memory_of h)
  memory_line =
      let half : field h 12 1 ≡ field h 11 2 / 2 = omega arith in
      rw half (memory_at (field h 0 3) (field h 3 3) (field h 6 5) (omega arith) (omega arith) (omega arith)
      (field h 11 2))

  add_pc_line : Line a (add_pc_text (field h 8 3) (field h 0 8)) (add_pc_of h)
  unfolding fill slot_word
  add_pc_line =
      let r = field h 8 3 in
      let imm = field h 0 8 in
      let t = add_pc_text r imm in
      let short : length t ≤ 15
      = omega (arith, add_pc_sum r imm, last_sum (4 * imm), low_digit r (omega arith), decimal_at_most (4 * imm)) in
      keeps_only t (eqb (field h 11 2) 0) (Some (AddPc r imm))
      (plain a t (AddPc r imm) refl short refl (add_pc_joins (quoted "ADD ") (register_word r) (decimal (4 * imm))))

  -- a branch, by its condition
  module _ (c offset : ℕ) where
    abbrev aim : Text
    aim = target_text (branch_target_of a offset)

    branch_is : c < 14 → instruction_line a (Some (Branch c offset)) ≡ get_or branch_names c [] ++ aim
    unfolding fill slot_word
    branch_is l =
        branch_joins (condition_word c) (decimal (branch_target_of a offset).0)
        ∙ ap (λ (s : Text). s ++ aim) (sym (branch_name c l))

    branch_at : (b : Bool) → ltb c 14 ≡ b → Line a aim (only b (Some (Branch c offset)))
    branch_at true e =
        let is = branch_is (ltb-true c 14 e) in
        let address = (branch_target_of a offset).0 in
        record {
          line = is;
          room =
              omega (
                arith,
                ap length is,
                length-append (get_or branch_names c []) aim,
                branch_four c (ltb-true c 14 e),
                last_sum address,
                decimal_at_most address,
              );
        }
    branch_at false e = no_line a aim

  branch_line : Line a (target_text (branch_target_of a (field h 0 8))) (branch_of h)
  branch_line =
      keeps_only _ (eqb (field h 12 1) 1) (only (ltb (field h 8 4) 14) (Some (Branch (field h 8 4) (field h 0 8))))
      (branch_at (field h 8 4) (field h 0 8) (ltb (field h 8 4) 14) refl)

  pub instruction_line_is : Line a (operands_of a h) (decode_of h)
  instruction_line_is = go (field h 13 3)
    where
      go : (n : ℕ) → Line a (operands_at a h n) (entry (table h) n)
      go zero = halt_line
      go (suc zero) = imm_line
      go (suc (suc zero)) = registers_line
      go (suc (suc (suc zero))) = memory_line
      go (suc (suc (suc (suc zero)))) = no_line a _
      go (suc (suc (suc (suc (suc zero))))) = add_pc_line
      go (suc (suc (suc (suc (suc (suc zero)))))) = branch_line
      go (suc (suc (suc (suc (suc (suc (suc n))))))) = no_line a _

-- a label's line has at most 8 bytes
pub label_most : (t : Bool) (a : ByteAddress) → length (label_line t a) ≤ 8 * cond t 1 0
label_most true a = omega (arith, label_sum true a refl, decimal_at_most a.0)
label_most false a = omega arith

-- an instruction's 19, both 27
pub instruction_most : (a : ByteAddress) (h : ℕ) → length (instruction_line a (decode_of h)) ≤ 19
instruction_most a h = omega (arith, (instruction_line_is a h).room)

pub lines_most : (t : Bool) (a : ByteAddress) (h : ℕ)
    → length (label_line t a) + length (instruction_line a (decode_of h)) ≤ 27
lines_most t a h = omega (arith, label_most t a, instruction_most a h, one_most t)
  where
    one_most : (t : Bool) → cond t 1 0 ≤ 1
    one_most true = omega arith
    one_most false = omega arith

-- the line of a halfword, by its name
pub line_by_name : (a : ByteAddress) (h : ℕ) {name : Option Text} → name ≡ name_in (decode_of h)
    → instruction_line a (decode_of h) ≡ named_line name (operands_of a h)
line_by_name a h is =
    (instruction_line_is a h).line ∙ ap (λ (n : Option Text). named_line n (operands_of a h)) (sym is)
