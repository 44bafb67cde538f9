-- What single lines and notes say, by what the code asked.
use mathlib.Core.List.{List}
use mathlib.Core.Option.{Option, none, some}
use mathlib.Core.Path.{◌≡◌, refl, ap, sym, ◌∙◌}
use Prim.Native.Nat.{ℕ, min}
use lib.ListN.{set}
use borrow.Author.Tests.{eq-eqb, ne_eqb}
use Rattle.std.specs.Prelude as Std
use Rattle.std.specs.Prelude.{Result, Ok, Err, Some, None, ⊤}
use Rattle.std.specs.Option.{option_or}
use Rattle.std.specs.Result.{result_unwrap_or}
use Rattle.refusals.specs.declared.check.Check.{Check}
use Rattle.refusals.specs.declared.check.Check.TheVariants as check
use Rattle.labels.specs.Table.{probe_of}
use Rattle.labels.specs.declared.table.Entry.{Entry}
use Rattle.labels.specs.declared.table.Probed.{Probed}
use Rattle.labels.specs.declared.table.Probed.TheVariants.{Here, Free}
use Rattle.isa.specs.declared.instruction.Instruction.{Instruction}
use Rattle.isa.specs.declared.instruction.Instruction.TheVariants as instruction
use Rattle.text.specs.Text.{Text}
use Rattle.syntax.specs.Syntax as Syntax
use Rattle.syntax.specs.Syntax.{given}
use Rattle.syntax.specs.declared.parser.Item.{Item}
use Rattle.assembler.specs.Assemble.{instruction_of, instructions_in, in_reach, branch_byte}
use Rattle.assembler.specs.Assembled.{refusal_at}
use Rattle.assembler.specs.Labels.{aim_of}
use Rattle.assembler.specs.Reading.{label_no, field_no, instruction_no, line_no, first_flaw, field_halfword, says_of}
use Rattle.assembler.specs.Reading.{note_of}
use Rattle.assembler.specs.Passes.{Known, items_of, item_in, field_meaning, aimed_meaning}
use Rattle.assembler.specs.declared.reader.Note.{Note}
use Rattle.assembler.specs.declared.reader.Says.TheVariants.{Halfword, Branch}
use Rattle.assembler.specs.declared.refusal.TextRefusal.{TextRefusal}
use Rattle.assembler.proofs.Table.{here_aim, free_aim}

-- the first flaw
pub flaw_kept : (f : Std.Option TextRefusal) (line : ℕ) → f ≡ first_flaw f (Ok tt) line
flaw_kept None line = refl
flaw_kept (Some r) line = refl

pub flaw_or : (f : Std.Option TextRefusal) (c : Check) (line : ℕ)
    → option_or f (Some (refusal_at c line)) ≡ first_flaw f (Err c) line
flaw_or None c line = refl
flaw_or (Some r) c line = refl

-- a label
module _ {text : Text} {table : List Entry} {name : ℕ} {p : Probed} (known : Known text table) (n : name ≡ 0 → ⊥)
    (asked : p ≡ probe_of table name) where
  pub label_again : {at : ℕ} → p ≡ Here at → Err check.Label ≡ label_no (aim_of (items_of text) name)
  label_again e = sym (ap label_no (here_aim known.holds n (sym asked ∙ e)))

  pub label_new : {at : ℕ} → p ≡ Free at → Ok tt ≡ label_no (aim_of (items_of text) name)
  label_new e = sym (ap label_no (free_aim known.holds n (sym asked ∙ e)))

-- an instruction's notes
module _ (x : Item) (i : ℕ) where
  module _ (b : x.row ≡ 17) where
    pub branch_no : Ok tt ≡ instruction_no (item_in x) i
    branch_no = rw (eq-eqb x.row 17 b) refl

    pub branch_note : (notes : List Note) (k : ℕ) {after : List Note} {v : ℕ} → v ≡ min x.values.a 255
        → after ≡ set notes i (record { says = Branch v x.values.b; line = k })
        → after ≡ set notes i (note_of (item_in x) i k)
    unfolding says_of
    branch_note notes k e p =
        p ∙ rw (eq-eqb x.row 17 b)
        (ap (λ (c : ℕ). set notes i (record { says = Branch c x.values.b; line = k })) e)

  module _ (b : x.row ≡ 17 → ⊥) {said : Result ℕ Check}
      (asked : said ≡ field_meaning (instruction_of (item_in x) i 0)) where
    meant : (o : Option Instruction) → result_unwrap_or (field_meaning o) 0 ≡ field_halfword o
    unfolding field_meaning
    meant none = refl
    meant (some j) = refl

    -- whether it has a halfword
    abbrev passes : Result ℕ Check → Result ⊤ Check
    passes (Ok h) = Ok tt
    passes (Err c) = Err c

    meant_no : (o : Option Instruction) → passes (field_meaning o) ≡ field_no o
    unfolding field_meaning
    meant_no none = refl
    meant_no (some j) = refl

    said_no : passes said ≡ instruction_no (item_in x) i
    said_no = ap passes asked ∙ meant_no (instruction_of (item_in x) i 0) ∙ rw (ne_eqb x.row 17 b) refl

    pub other_no : {c : Check} → said ≡ Err c → Err c ≡ instruction_no (item_in x) i
    other_no p = sym (ap passes p) ∙ said_no

    pub other_yes : {h : ℕ} → said ≡ Ok h → Ok tt ≡ instruction_no (item_in x) i
    other_yes p = sym (ap passes p) ∙ said_no

    pub other_note : (notes : List Note) (k : ℕ) {after : List Note} {h : ℕ} → h ≡ result_unwrap_or said 0
        → after ≡ set notes i (record { says = Halfword h; line = k })
        → after ≡ set notes i (note_of (item_in x) i k)
    unfolding says_of
    other_note notes k e p =
        p ∙ rw (ne_eqb x.row 17 b)
        (ap (λ (h : ℕ). set notes i (record { says = Halfword h; line = k }))
        (e ∙ ap (λ (r : Result ℕ Check). result_unwrap_or r 0) asked ∙ meant (instruction_of (item_in x) i 0)))

-- a line's check
module _ (above : List Syntax.Item) (x : Item) {r : Result ⊤ Check} where
  pub line_label : x.row ≡ 0 → r ≡ label_no (aim_of above x.values.a) → r ≡ line_no above (item_in x)
  unfolding line_no
  line_label e p = rw (eq-eqb x.row 0 e) p

  pub line_other : (i : ℕ) → (x.row ≡ 0 → ⊥) → i ≡ instructions_in above → r ≡ instruction_no (item_in x) i
      → r ≡ line_no above (item_in x)
  unfolding line_no
  line_other i e n p = rw (ne_eqb x.row 0 e) (p ∙ ap (instruction_no (item_in x)) n)

-- what a branch says
pub aimed_nowhere : (condition i : ℕ) {o : Std.Option ℕ} → None ≡ o → Err check.Label ≡ aimed_meaning condition i o
aimed_nowhere condition i e = ap (aimed_meaning condition i) e

pub aimed_there : (condition i : ℕ) {number : ℕ} {o : Std.Option ℕ} {r : Result ℕ Check} → Some number ≡ o
    → r ≡ field_meaning (given (in_reach i number) (instruction.Branch condition (branch_byte i number)))
    → r ≡ aimed_meaning condition i o
aimed_there condition i e p = p ∙ ap (aimed_meaning condition i) e
