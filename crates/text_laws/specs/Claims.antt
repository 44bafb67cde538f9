-- What is claimed of whole texts ("Change 4").
use Rattle.std.specs.Prelude.{true, List, ◌↔◌, ◌≡◌, ℕ, ◌<◌, ◌≤◌, min, leb, length, get_or}
use Rattle.std.proofs.Math.Option.{none, some}
use Rattle.text.specs.Text.{Text, is_number, number_of, decimal, is_name, name_of}
use Rattle.syntax.specs.Syntax.{Item, LineOf, parse, too_large, row_count, pattern_at}
use Rattle.refusals.specs.declared.check.Check.{Check}
use Rattle.refusals.specs.declared.refusal.Refusal.{Refusal}
use Rattle.assembler.specs.Assemble.{instructions_in, assemble_of, Assembles, Refuses, in_fours}
use Rattle.lister.specs.List.{list_of, Lists}
use Rattle.lister.specs.List as List
use Rattle.text_laws.specs.Reasons.{Says, Reason, Assembled}
use Rattle.text_laws.specs.ListReasons.{ListReason}

-- a text that is read as an item is a line of that row, with those values; one that isn't read is a line of no row;
-- a line of a row is read as that row. Only a line of row 10 may be one of row 8 too, and then it is read as that:
-- CMP of two low registers has the ALU's form. So no other line has two rows
pub record SyntaxExact (t : Text) : Type 0 where
  pub read : (x : Item) → parse t ≡ some x → (x.row < row_count) × LineOf (pattern_at x.row) x.values t
  pub unread : parse t ≡ none → (row : ℕ) (vs : List ℕ) → row < row_count → LineOf (pattern_at row) vs t → ⊥
  pub row : (row : ℕ) (vs : List ℕ) → row < row_count → LineOf (pattern_at row) vs t
      → (row ≡ 10 → (us : List ℕ) → LineOf (pattern_at 8) us t → ⊥) → parse t ≡ some (record { row = row; values = vs })

-- what is written for a number is a number of the syntax, and that one
abbrev pub NumbersExact : Type 0
NumbersExact = (n : ℕ) → n < 100000 → (is_number (decimal n) ≡ true) × (number_of (decimal n) ≡ n)

-- a name is kept as a number, and two names are one number only if they are the same
abbrev pub NamesExact : Type 0
NamesExact = (s t : Text) → is_name s ≡ true → is_name t ≡ true → name_of s ≡ name_of t → s ≡ t

-- assembling what the lister wrote gives the code back, for every code that the lister doesn't refuse
abbrev pub ListThenAssemble : Type 0
ListThenAssemble =
    (code : List ℕ) (room size : ℕ) (t : Text) → ((i : ℕ) → get_or code i 0 < 65536)
    → list_of code room ≡ Lists t → length code ≤ size → assemble_of t size ≡ Assembles code

-- a number is capped where no field can tell: what fits and what doesn't is the same
abbrev pub FieldsExact : Type 0
FieldsExact =
    (v most : ℕ) → most ≤ 1020
    → (leb (min v too_large) most ≡ leb v most) × (in_fours most (min v too_large) ≡ in_fours most v)

-- a text is refused exactly for its reason
abbrev pub RefusedExact : Type 0
RefusedExact =
    (text : Text) (size : ℕ) (c : Check) (place : ℕ)
    → (assemble_of text size ≡ Refuses c place) ↔ Reason text size c place

-- and where it isn't, its code is that of its lines
abbrev pub AssembledFully : Type 0
AssembledFully =
    (text : Text) (size : ℕ) (code : List ℕ) → assemble_of text size ≡ Assembles code → Assembled text size code

-- a code that the lister doesn't refuse is written as lines that all say something, with an instruction for each of its
-- halfwords
pub record ListedLines (code : List ℕ) (t : Text) : Type 0 where
  pub items : List Item
  pub says : Says t items
  pub count : instructions_in items ≡ length code

abbrev pub ListsLines : Type 0
ListsLines =
    (code : List ℕ) (room : ℕ) (t : Text) → ((i : ℕ) → get_or code i 0 < 65536) → list_of code room ≡ Lists t
    → ListedLines code t

-- a code is refused by the lister exactly for its reason
abbrev pub ListRefusedExact : Type 0
ListRefusedExact =
    (code : List ℕ) (size : ℕ) (r : Refusal) → (list_of code size ≡ List.Refuses r) ↔ ListReason code size r
