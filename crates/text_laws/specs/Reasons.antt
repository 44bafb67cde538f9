-- Why a text is refused, and what it assembles to ("Change 4"): a sentence for each answer of the assembler, over the
-- text's lines. Lines are counted from 0 here, and a refusal carries the line's number from 1.
use Rattle.std.specs.Prelude.{true, false, List, [], ◌∷◌, ◌++◌, ◌⊎◌, ◌≡◌, ℕ, suc, ◌<◌, ◌≤◌, length, get_or, take, Ok}
use Rattle.std.proofs.Math.Option.{none, some}
use Rattle.refusals.specs.declared.check.Check.{Check}
use Rattle.refusals.specs.declared.check.Check.TheVariants as check
use Rattle.isa.specs.declared.instruction.Instruction.{Instruction}
use Rattle.isa.specs.Encode.{encode_of}
use Rattle.image.specs.Format.{most_code}
use Rattle.text.specs.Text.{Text, feed}
use Rattle.syntax.specs.Syntax.{Item, LineOf, parse, row_count, pattern_at, label_row, branch_row}
use Rattle.assembler.specs.Assemble.{is_label, value_at, instructions_in, instruction_of}

-- a text is lines, each with its line feed and nothing behind the last, that say these items
pub data Says : Text → List Item → Type 0 where
  nothing : Says [] []
  more : {rest : Text} {x : Item} {xs : List Item} (t : Text) → parse t ≡ some x → Says rest xs
      → Says (t ++ (feed ∷ rest)) (x ∷ xs)

-- 21: n lines stand in front of a rest that isn't empty and doesn't begin with a line of any row and its line feed
pub record Unread (text : Text) (n : ℕ) : Type 0 where
  pub front : Text
  pub rest : Text
  pub split : text ≡ front ++ rest
  pub items : List Item
  pub says : Says front items
  pub count : length items ≡ n
  pub goes_on : rest ≡ [] → ⊥
  pub no_line : (t later : Text) (row : ℕ) (vs : List ℕ) → rest ≡ t ++ (feed ∷ later) → row < row_count
      → LineOf (pattern_at row) vs t → ⊥

-- 15: all is lines, but not of 1 to 15,936 instructions
pub record WrongCount (text : Text) : Type 0 where
  pub items : List Item
  pub says : Says text items
  pub wrong : (instructions_in items ≡ 0) ⊎ (most_code < instructions_in items)

-- a text that gets as far as 22
pub record Program (text : Text) (items : List Item) : Type 0 where
  pub says : Says text items
  pub some_code : 1 ≤ instructions_in items
  pub fits_image : instructions_in items ≤ most_code

-- what line n says, and how many instructions stand before it
abbrev pub item_at : List Item → ℕ → Item
item_at items n = get_or items n (record { row = label_row; values = [] })

abbrev pub number_before : List Item → ℕ → ℕ
number_before items n = instructions_in (take n items)

-- line n defines a name
pub record Defines (items : List Item) (n name : ℕ) : Type 0 where
  pub inside : n < length items
  pub is_a_label : is_label (item_at items n) ≡ true
  pub named : value_at (item_at items n) 0 ≡ name

-- and is the first that does
pub record FirstDefines (items : List Item) (n name : ℕ) : Type 0 where
  pub defines : Defines items n name
  pub first : (m : ℕ) → m < n → Defines items m name → ⊥

-- line n is a branch; its second value is the name that it goes to
pub record Branches (items : List Item) (n name : ℕ) : Type 0 where
  pub inside : n < length items
  pub is_branch : (item_at items n).row ≡ branch_row
  pub named : value_at (item_at items n) 1 ≡ name

-- 22 of line n: a name that is defined again, or one that is branched to and not defined on any line
pub data Fault22 (items : List Item) (n : ℕ) : Type 0 where
  again : {name : ℕ} (m : ℕ) → m < n → Defines items m name → Defines items n name → Fault22 items n
  missing : {name : ℕ} → Branches items n name → ((m : ℕ) → Defines items m name → ⊥) → Fault22 items n

-- 23 of line n: a value that doesn't fit its field, or a branch that doesn't reach its name's first definition
pub data Fault23 (items : List Item) (n : ℕ) : Type 0 where
  value : n < length items → is_label (item_at items n) ≡ false → ((item_at items n).row ≡ branch_row → ⊥)
      → instruction_of (item_at items n) (number_before items n) 0 ≡ none → Fault23 items n
  reach : {name : ℕ} (m : ℕ) → Branches items n name → FirstDefines items m name
      → instruction_of (item_at items n) (number_before items n) (number_before items m) ≡ none → Fault23 items n

-- neither
pub record Faultless (items : List Item) (n : ℕ) : Type 0 where
  pub not22 : Fault22 items n → ⊥
  pub not23 : Fault23 items n → ⊥

-- line n is the first with a fault
pub record FirstFault (Fault : List Item → ℕ → Type 0) (text : Text) (n : ℕ) : Type 0 where
  pub items : List Item
  pub program : Program text items
  pub before : (m : ℕ) → m < n → Faultless items m
  pub here : Fault items n

-- 16: no line has a fault, and the output is shorter than the code
pub record TooShort (text : Text) (size : ℕ) : Type 0 where
  pub items : List Item
  pub program : Program text items
  pub faultless : (n : ℕ) → Faultless items n
  pub short : size < instructions_in items

-- a refusal of a text, for an output of so many halfwords: its check, and its line or 0
pub data Reason (text : Text) (size : ℕ) : Check → ℕ → Type 0 where
  unread : {n : ℕ} → Unread text n → Reason text size check.Line (suc n)
  wrong_count : WrongCount text → Reason text size check.CodeLength 0
  label : {n : ℕ} → FirstFault Fault22 text n → Reason text size check.Label (suc n)
  field : {n : ℕ} → FirstFault Fault23 text n → Reason text size check.Value (suc n)
  too_short : TooShort text size → Reason text size check.OutputLength 0

-- the instruction that line n says: by its values, or of a branch by its name's first definition
pub data Instructed (items : List Item) (n : ℕ) (x : Instruction) : Type 0 where
  by_values : n < length items → is_label (item_at items n) ≡ false → ((item_at items n).row ≡ branch_row → ⊥)
      → instruction_of (item_at items n) (number_before items n) 0 ≡ some x → Instructed items n x
  by_name : {name : ℕ} (m : ℕ) → Branches items n name → FirstDefines items m name
      → instruction_of (item_at items n) (number_before items n) (number_before items m) ≡ some x → Instructed items n x

-- a code holds the instructions of a text's lines in their order, each of them encoded, and no more
pub record Assembled (text : Text) (size : ℕ) (code : List ℕ) : Type 0 where
  pub items : List Item
  pub program : Program text items
  pub faultless : (n : ℕ) → Faultless items n
  pub room : instructions_in items ≤ size
  pub count : length code ≡ instructions_in items
  pub halfword : (n : ℕ) (x : Instruction) → Instructed items n x
      → encode_of x ≡ Ok (get_or code (number_before items n) 0)
