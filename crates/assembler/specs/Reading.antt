-- What the pass over a text answers, and what it leaves: the table of labels, and what it notes of each instruction.
-- Only the contracts of private functions speak of it.
use Rattle.std.specs.Prelude as Std
use Rattle.std.specs.Prelude.{Result, Ok, Err, ⊤, Some, None, Bool, true, false, cond, List, [], ◌∷◌, ◌++◌, ◌≡◌, ℕ, ◌+◌}
use Rattle.std.specs.Prelude.{◌≤◌, min, eqb, length, get_or, set}
use Rattle.std.proofs.Math.Option.{Option, none, some}
use Rattle.refusals.specs.declared.check.Check.{Check}
use Rattle.refusals.specs.declared.check.Check.TheVariants as check
use Rattle.isa.specs.declared.instruction.Instruction.{Instruction}
use Rattle.isa.specs.Encode.{encode_of}
use Rattle.labels.specs.Table.{table_after}
use Rattle.labels.specs.declared.table.Entry.{Entry}
use Rattle.syntax.specs.Syntax.{Item, label_row, branch_row}
use Rattle.syntax.specs.declared.parser.Item as Code
use Rattle.assembler.specs.Assemble.{Read, Items, NoLine, is_label, value_at, instructions_in, instruction_of}
use Rattle.assembler.specs.Assemble.{halfword_in}
use Rattle.assembler.specs.Assembled.{refusal_at}
use Rattle.assembler.specs.Labels.{aim_of, Holds}
use Rattle.assembler.specs.declared.reader.Counted.{Counted}
use Rattle.assembler.specs.declared.reader.Note.{Note}
use Rattle.assembler.specs.declared.reader.Says.{Says}
use Rattle.assembler.specs.declared.reader.Says.TheVariants.{Halfword, Branch}
use Rattle.assembler.specs.declared.refusal.TextRefusal.{TextRefusal}

-- what a line fails whatever branches do: 22 of a label that is defined in the items above, 23 of an
-- instruction that is no branch
abbrev pub label_no : Std.Option ℕ → Result ⊤ Check
label_no None = Ok tt
label_no (Some number) = Err check.Label

abbrev pub field_no : Option Instruction → Result ⊤ Check
field_no none = Err check.Value
field_no (some i) = Ok tt

abbrev pub instruction_no : Item → ℕ → Result ⊤ Check
instruction_no x i = cond (eqb x.row branch_row) (Ok tt) (field_no (instruction_of x i 0))

unfoldable pub line_no : List Item → Item → Result ⊤ Check
line_no above x = cond (is_label x) (label_no (aim_of above (value_at x 0))) (instruction_no x (instructions_in above))

-- the first of those, with its line
abbrev pub first_flaw : Std.Option TextRefusal → Result ⊤ Check → ℕ → Std.Option TextRefusal
first_flaw (Some f) outcome line = Some f
first_flaw None (Ok t) line = None
first_flaw None (Err c) line = Some (refusal_at c line)

unfoldable pub flaw_after : Std.Option TextRefusal → List Item → List Item → Std.Option TextRefusal
flaw_after f above [] = f
flaw_after f above (x ∷ xs) = flaw_after (first_flaw f (line_no above x) (1 + length above)) (above ++ (x ∷ [])) xs

-- what is noted of instruction i on line k: its halfword, or of a branch its condition and the name that it goes to
abbrev pub field_halfword : Option Instruction → ℕ
field_halfword none = 0
field_halfword (some i) = halfword_in (encode_of i)

unfoldable pub says_of : Item → ℕ → Says
says_of x i =
    cond (eqb x.row branch_row) (Branch (min (value_at x 0) 255) (value_at x 1))
    (Halfword (field_halfword (instruction_of x i 0)))

abbrev pub note_of : Item → ℕ → ℕ → Note
note_of x i k = record { says = says_of x i; line = k }

abbrev pub blank : Note
blank = record { says = Halfword 0; line = 0 }

pub record NotedAt (notes : List Note) (x : Item) (i k : ℕ) : Type 0 where
  pub is : get_or notes i blank ≡ note_of x i k
  pub named : x.row ≡ branch_row → value_at x 1 ≡ 0 → ⊥

-- all instructions of the items behind others are noted
abbrev pub Unless : Bool → Type 0 → Type 0
Unless true t = Unit {0}
Unless false t = t

abbrev pub Noted : List Note → List Item → List Item → Type 0
Noted notes above [] = Unit {0}
Noted notes above (x ∷ xs) =
    Unless (is_label x) (NotedAt notes x (instructions_in above) (1 + length above))
    × Noted notes (above ++ (x ∷ [])) xs

-- of a text that was read: its labels are in the table, and its instructions are noted if there is room for them
pub record Gathered (table : List Entry) (notes : List Note) (items : List Item) : Type 0 where
  pub holds : Holds table items
  pub noted : instructions_in items ≤ length notes → Noted notes [] items

abbrev pub read_as : Read → Result Counted TextRefusal
read_as (Items xs) = Ok (record { n = instructions_in xs; flaw = flaw_after None [] xs })
read_as (NoLine k) = Err (refusal_at check.Line k)

abbrev pub Entered : List Entry → List Note → Read → Type 0
Entered table notes (Items xs) = Gathered table notes xs
Entered table notes (NoLine k) = Unit {0}

-- the count of instructions, the table and the notes, after a line of a row
abbrev pub count_after : ℕ → ℕ → ℕ
count_after row i = cond (eqb row 0) i (i + 1)

abbrev pub entries_after : ℕ → List Entry → ℕ → ℕ → List Entry
entries_after row table name number = cond (eqb row 0) (table_after table name number) table

abbrev pub notes_after : ℕ → List Note → ℕ → Note → List Note
notes_after row notes i note = cond (eqb row 0) notes (set notes i note)

-- 0 is no name
pub record Named (x : Code.Item) : Type 0 where
  pub label : x.row ≡ label_row → x.values.a ≡ 0 → ⊥
  pub branch : x.row ≡ branch_row → x.values.b ≡ 0 → ⊥
