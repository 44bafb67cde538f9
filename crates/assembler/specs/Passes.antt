-- How the code of the passes holds what the definitions speak of.
use Rattle.std.specs.Prelude as Std
use Rattle.std.specs.Prelude.{Result, Ok, Err, Some, None, ⊤, cond, List, [], ◌∷◌, ◌≡◌, ℕ, zero, suc, ◌≤◌, ltb, length}
use Rattle.std.specs.Prelude.{get_or, set}
use Rattle.std.proofs.Math.Option.{Option, none, some}
use Rattle.refusals.specs.declared.check.Check.{Check}
use Rattle.refusals.specs.declared.check.Check.TheVariants as check
use Rattle.isa.specs.declared.instruction.Instruction.{Instruction}
use Rattle.isa.specs.declared.instruction.Instruction.TheVariants as instruction
use Rattle.isa.specs.Encode.{encode_of}
use Rattle.labels.specs.declared.table.Entry.{Entry}
use Rattle.text.specs.Text.{Text, lines_of}
use Rattle.syntax.specs.Syntax as Syntax
use Rattle.syntax.specs.Syntax.{given}
use Rattle.syntax.specs.declared.parser.Item.{Item}
use Rattle.assembler.specs.Assemble.{Read, Items, NoLine, read_from, instructions_in, in_reach, branch_byte}
use Rattle.assembler.specs.Assemble.{Checked, Code, Fails, halfword_in, halfwords_of}
use Rattle.assembler.specs.Assembled.{refusal_at}
use Rattle.assembler.specs.Labels.{aim_of, Holds}
use Rattle.assembler.specs.Reading.{Noted, blank, flaw_after}
use Rattle.assembler.specs.declared.reader.Counted.{Counted}
use Rattle.assembler.specs.declared.reader.Note.{Note}
use Rattle.assembler.specs.declared.reader.Says.{Says}
use Rattle.assembler.specs.declared.reader.Says.TheVariants.{Halfword, Branch}
use Rattle.assembler.specs.declared.refusal.TextRefusal.{TextRefusal}

-- the items of a text that was read
abbrev pub items_in : Read → List Syntax.Item
items_in (Items xs) = xs
items_in (NoLine k) = []

abbrev pub items_of : Text → List Syntax.Item
items_of text = items_in (read_from 1 (lines_of text))

-- a text whose lines are all lines
abbrev pub AllRead : Text → Type 0
AllRead text = read_from 1 (lines_of text) ≡ Items (items_of text)

-- with the table of its labels
pub record Known (text : Text) (table : List Entry) : Type 0 where
  pub all_read : AllRead text
  pub holds : Holds table (items_of text)

-- and with the notes of its instructions
pub record Ready (text : Text) (table : List Entry) (notes : List Note) (counted : Counted) : Type 0 where
  pub known : Known text table
  pub room : counted.n ≤ length notes
  pub noted : Noted notes [] (items_of text)
  pub count : counted.n ≡ instructions_in (items_of text)
  pub flaw_is : counted.flaw ≡ flaw_after None [] (items_of text)

-- the same of a text whose instructions need not all be noted
pub record Unfolded (text : Text) (table : List Entry) (notes : List Note) (counted : Counted) : Type 0 where
  pub known : Known text table
  pub noted : counted.n ≤ length notes → Noted notes [] (items_of text)
  pub count : counted.n ≡ instructions_in (items_of text)
  pub flaw_is : counted.flaw ≡ flaw_after None [] (items_of text)

-- no row has more than three values
abbrev pub item_in : Item → Syntax.Item
item_in x = record { row = x.row; values = x.values.a ∷ x.values.b ∷ x.values.c ∷ [] }

-- the halfword of a line's instruction, if its values fit
unfoldable pub field_meaning : Option Instruction → Result ℕ Check
field_meaning none = Err check.Value
field_meaning (some i) = Ok (halfword_in (encode_of i))

-- of a branch with a condition, instruction i, whose name is that of instruction j
abbrev pub aimed_meaning : ℕ → ℕ → Std.Option ℕ → Result ℕ Check
aimed_meaning condition i None = Err check.Label
aimed_meaning condition i (Some j) =
    field_meaning (given (in_reach i j) (instruction.Branch condition (branch_byte i j)))

-- of instruction i, by its notes; 0 is no name
abbrev pub noted_meaning : List Syntax.Item → ℕ → Says → Result ℕ Check
noted_meaning items i (Halfword h) = Ok h
noted_meaning items i (Branch condition name) = aimed_meaning condition i (aim_of items name)

abbrev pub Aimed : Says → Type 0
Aimed (Halfword h) = Unit {0}
Aimed (Branch condition name) = name ≡ 0 → ⊥

-- what the notes come to: the halfwords, or the first no
pub data Made : Type 0 where
  Codes : List ℕ → Made
  Breaks : Check → ℕ → Made

abbrev pub made_of : Checked → Made
made_of (Code is) = Codes (halfwords_of is)
made_of (Fails c line) = Breaks c line

abbrev pub making : ℕ → Result ℕ Check → Made → Made
making line (Ok h) (Codes hs) = Codes (h ∷ hs)
making line (Ok h) (Breaks c k) = Breaks c k
making line (Err c) later = Breaks c line

-- a flaw further up, and one at the end
abbrev pub above_as : Std.Option TextRefusal → ℕ → Result ⊤ TextRefusal
above_as None line = Ok tt
above_as (Some f) line = cond (ltb f.line line) (Err f) (Ok tt)

abbrev pub unless_flawed : Result ⊤ TextRefusal → Made → Made
unless_flawed (Ok t) made = made
unless_flawed (Err f) made = Breaks f.check f.line

abbrev pub made_at_end : Std.Option TextRefusal → Made
made_at_end None = Codes []
made_at_end (Some f) = Breaks f.check f.line

-- of n instructions from instruction i on
unfoldable pub make_from : List Syntax.Item → Std.Option TextRefusal → List Note → ℕ → ℕ → Made
make_from items flaw notes zero i = made_at_end flaw
make_from items flaw notes (suc n) i =
    let later = make_from items flaw notes n (suc i) in
    let note = get_or notes i blank in
    unless_flawed (above_as flaw note.line) (making note.line (noted_meaning items i note.says) later)

-- what a pass answers, and what it leaves in the output from halfword i on; what lies past the output's end is not
-- written
abbrev pub translated_as : Made → Result ⊤ TextRefusal
translated_as (Codes hs) = Ok tt
translated_as (Breaks c k) = Err (refusal_at c k)

unfoldable pub put_from : ℕ → List ℕ → List ℕ → List ℕ
put_from i [] out = out
put_from i (h ∷ hs) out = put_from (suc i) hs (set out i h)

abbrev pub Written : Made → ℕ → List ℕ → List ℕ → Type 0
Written (Codes hs) i out after = after ≡ put_from i hs out
Written (Breaks c k) i out after = Unit {0}
