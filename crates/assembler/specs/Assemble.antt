-- Assembling ("Change 4"): check 21 of all lines, then 15, then 22 and 23 line by line, then 16.
use Rattle.std.specs.Prelude.{Bool, cond, ◌&&◌, List, [], ◌∷◌, ℕ, suc, ◌+◌, ◌-◌, ◌/◌, ◌%◌, eqb, leb, length, get_or}
use Rattle.std.proofs.Math.Option.{Option, none, some}
use Rattle.isa.specs.declared.instruction.Instruction.{Instruction}
use Rattle.isa.specs.declared.instruction.Instruction.TheVariants.{MovImm, CmpImm, And, Eor, Asr, Tst, Neg, Cmp}
use Rattle.isa.specs.declared.instruction.Instruction.TheVariants.{AddHigh, CmpHigh, MovHigh, Str, Ldr, Strb, Ldrb}
use Rattle.isa.specs.declared.instruction.Instruction.TheVariants.{AddPc, Branch, Halt}
use Rattle.isa.specs.Encode.{encode_of}
use Rattle.image.specs.Format.{most_code}
use Rattle.text.specs.Text.{Text, Lines, remainder, line, lines_of}
use Rattle.syntax.specs.Syntax.{Item, parse, given, label_row, branch_row}
use Rattle.std.specs.Prelude.{Result}
use Rattle.std.specs.Result.{result_unwrap_or}
use Rattle.refusals.specs.declared.check.Check.{Check}
use Rattle.refusals.specs.declared.check.Check.TheVariants as check
use Rattle.refusals.specs.declared.refusal.Refusal.{Refusal}

-- 21: what the lines say from line k on, or the number of the first that is none. What has no line feed is no line
pub data Read : Type 0 where
  Items : List Item → Read
  NoLine : ℕ → Read

abbrev pub reading : ℕ → Option Item → Read → Read
reading k none later = NoLine k
reading k (some x) (Items xs) = Items (x ∷ xs)
reading k (some x) (NoLine n) = NoLine n

unfoldable pub read_from : ℕ → Lines → Read
read_from k (remainder []) = Items []
read_from k (remainder (c ∷ t)) = NoLine k
read_from k (line t ls) = reading k (parse t) (read_from (suc k) ls)

abbrev pub is_label : Item → Bool
is_label x = eqb x.row label_row

abbrev pub value_at : Item → ℕ → ℕ
value_at x k = get_or x.values k 0

-- a label takes no room
abbrev pub instructions_in : List Item → ℕ
instructions_in [] = 0
instructions_in (x ∷ xs) = let later = instructions_in xs in cond (is_label x) later (suc later)

-- 15: the instructions fit an image
abbrev pub check15 : ℕ → Bool
check15 n = leb 1 n && leb n most_code

-- where a name is defined: the line, and the number of the instruction that follows
pub record Definition : Type 0 where
  pub line : ℕ
  pub number : ℕ

-- the first definition of a name in the items from line k on, before which stand i instructions
unfoldable pub definition_from : ℕ → ℕ → ℕ → List Item → Option Definition
definition_from k i name [] = none
definition_from k i name (x ∷ xs) =
    let past = definition_from (suc k) i name xs in
    let pastInstruction = definition_from (suc k) (suc i) name xs in
    cond (is_label x)
    (cond (eqb (value_at x 0) name) (some (record { line = k; number = i })) past)
    pastInstruction

abbrev pub definition_of : ℕ → List Item → Option Definition
definition_of name items = definition_from 1 0 name items

-- an offset that counts in fours
abbrev pub in_fours : ℕ → ℕ → Bool
in_fours most v = eqb (v % 4) 0 && leb v most

-- a branch from instruction i reaches instruction j; its signed byte
abbrev pub in_reach : ℕ → ℕ → Bool
in_reach i j = leb i (j + 128) && leb j (i + 127)

abbrev pub branch_byte : ℕ → ℕ → ℕ
branch_byte i j = (j + 256 - i) % 256

-- 23: the instruction of each row, where its values fit their fields. a, b and c are the values in the order of the
-- line, i is the instruction's number, j its target's
abbrev pub rows : ℕ → ℕ → ℕ → ℕ → ℕ → List (Option Instruction)
rows a b c i j =
    none
    ∷ given (leb b 255) (MovImm a b)
    ∷ given (leb b 255) (CmpImm a b)
    ∷ some (And b a)
    ∷ some (Eor b a)
    ∷ some (Asr b a)
    ∷ some (Tst b a)
    ∷ some (Neg b a)
    ∷ some (Cmp b a)
    ∷ some (AddHigh b a)
    ∷ some (CmpHigh b a)
    ∷ some (MovHigh b a)
    ∷ given (in_fours 124 c) (Str (c / 4) b a)
    ∷ given (in_fours 124 c) (Ldr (c / 4) b a)
    ∷ given (leb c 31) (Strb c b a)
    ∷ given (leb c 31) (Ldrb c b a)
    ∷ given (in_fours 1020 b) (AddPc a (b / 4))
    ∷ given (in_reach i j) (Branch a (branch_byte i j))
    ∷ given (leb a 255) (Halt a)
    ∷ []

abbrev pub instruction_of : Item → ℕ → ℕ → Option Instruction
instruction_of x i j = get_or (rows (value_at x 0) (value_at x 1) (value_at x 2) i j) x.row none

-- what line k says: nothing to put into the code, an instruction, or a no
pub data Said : Type 0 where
  Nothing : Said
  Instructs : Instruction → Said
  Fault : Check → Said

-- 22: a label that is defined further up
abbrev pub label_said : ℕ → Option Definition → Said
label_said k none = Nothing
label_said k (some d) = cond (eqb d.line k) Nothing (Fault check.Label)

-- 23: a value that doesn't fit
abbrev pub field_said : Option Instruction → Said
field_said none = Fault check.Value
field_said (some i) = Instructs i

-- 22: a branch to a name that isn't defined; 23: one that is too far
abbrev pub branch_said : Item → ℕ → Option Definition → Said
branch_said x i none = Fault check.Label
branch_said x i (some d) = field_said (instruction_of x i d.number)

unfoldable pub said_at : List Item → ℕ → ℕ → Item → Said
said_at items k i x =
    let ofLabel = label_said k (definition_of (value_at x 0) items) in
    let ofBranch = branch_said x i (definition_of (value_at x 1) items) in
    cond (is_label x) ofLabel (cond (eqb x.row branch_row) ofBranch (field_said (instruction_of x i 0)))

-- the instructions of the items from line k on, or the first no: its check and line
pub data Checked : Type 0 where
  Code : List Instruction → Checked
  Fails : Check → ℕ → Checked

abbrev pub saying : ℕ → Said → Checked → Checked
saying k Nothing later = later
saying k (Fault c) later = Fails c k
saying k (Instructs i) (Code is) = Code (i ∷ is)
saying k (Instructs i) (Fails c n) = Fails c n

-- `items` are those of the whole text
abbrev pub next_number : Item → ℕ → ℕ
next_number x i = cond (is_label x) i (suc i)

unfoldable pub check_from : List Item → ℕ → ℕ → List Item → Checked
check_from items k i [] = Code []
check_from items k i (x ∷ xs) = saying k (said_at items k i x) (check_from items (suc k) (next_number x i) xs)

-- the halfwords of instructions
abbrev pub halfword_in : Result ℕ Refusal → ℕ
halfword_in e = result_unwrap_or e 0

abbrev pub halfwords_of : List Instruction → List ℕ
halfwords_of [] = []
halfwords_of (i ∷ is) = halfword_in (encode_of i) ∷ halfwords_of is

-- the code, or a refusal: the check that fails, and its line or 0
pub data Assembly : Type 0 where
  Assembles : List ℕ → Assembly
  Refuses : Check → ℕ → Assembly

-- 16: the output has room for the code
abbrev pub with_room : ℕ → Checked → Assembly
with_room size (Fails c k) = Refuses c k
with_room size (Code is) = cond (leb (length is) size) (Assembles (halfwords_of is)) (Refuses check.OutputLength 0)

abbrev pub assemble_read : ℕ → Read → Assembly
assemble_read size (NoLine k) = Refuses check.Line k
assemble_read size (Items xs) = cond (check15 (instructions_in xs)) (with_room size (check_from xs 1 0 xs))
    (Refuses check.CodeLength 0)

-- of a text, into an output of so many halfwords
unfoldable pub assemble_of : Text → ℕ → Assembly
assemble_of text size = assemble_read size (read_from 1 (lines_of text))
