-- Listing ("Change 4"): check 15 of a code, 9 and 13 of each instruction as the judge puts them, then 16.
use Rattle.std.specs.Prelude.{Bool, cond, ◌&&◌, List, [], ◌∷◌, ◌++◌, ℕ, zero, suc, ◌*◌, leb, length, drop}
use Rattle.units.specs.Address.{branch_target_of}
use Rattle.units.specs.declared.address.ByteAddress.{ByteAddress}
use Rattle.refusals.specs.declared.check.Check.TheVariants as check
use Rattle.refusals.specs.declared.refusal.Refusal.{Refusal}
use Rattle.isa.specs.declared.instruction.Instruction.{Instruction}
use Rattle.isa.specs.declared.instruction.Instruction.TheVariants.{MovImm, CmpImm, And, Eor, Asr, Tst, Neg, Cmp}
use Rattle.isa.specs.declared.instruction.Instruction.TheVariants.{AddHigh, CmpHigh, MovHigh, Str, Ldr, Strb, Ldrb}
use Rattle.isa.specs.declared.instruction.Instruction.TheVariants.{AddPc, Branch, Halt}
use Rattle.image.specs.Format.{most_code}
use Rattle.image.specs.Check.{Asked, whole, first_no, rows_below}
use Rattle.image.specs.declared.checker.Layout.{Layout}
use Rattle.targets.specs.Targets.{address_of, decoded_at, targeted}
use Rattle.checks.specs.Questions.{at_address, check9, check13}
use Rattle.text.specs.Text.{Text}
use Rattle.syntax.specs.Syntax.{Item, line_with, label_row}
use Rattle.std.specs.Prelude.{Option, Some, None, Result, Ok, Err, ⊤}

-- an instruction's row, and the values of its slots in the order of the line; offsets in bytes, and of a branch the
-- address that it goes to
abbrev pub item_of : ByteAddress → Instruction → Item
item_of a (MovImm rd imm) = record { row = 1; values = rd ∷ imm ∷ [] }
item_of a (CmpImm rd imm) = record { row = 2; values = rd ∷ imm ∷ [] }
item_of a (And rs rd) = record { row = 3; values = rd ∷ rs ∷ [] }
item_of a (Eor rs rd) = record { row = 4; values = rd ∷ rs ∷ [] }
item_of a (Asr rs rd) = record { row = 5; values = rd ∷ rs ∷ [] }
item_of a (Tst rs rd) = record { row = 6; values = rd ∷ rs ∷ [] }
item_of a (Neg rs rd) = record { row = 7; values = rd ∷ rs ∷ [] }
item_of a (Cmp rs rd) = record { row = 8; values = rd ∷ rs ∷ [] }
item_of a (AddHigh rs rd) = record { row = 9; values = rd ∷ rs ∷ [] }
item_of a (CmpHigh rs rd) = record { row = 10; values = rd ∷ rs ∷ [] }
item_of a (MovHigh rs rd) = record { row = 11; values = rd ∷ rs ∷ [] }
item_of a (Str offset rb rd) = record { row = 12; values = rd ∷ rb ∷ 4 * offset ∷ [] }
item_of a (Ldr offset rb rd) = record { row = 13; values = rd ∷ rb ∷ 4 * offset ∷ [] }
item_of a (Strb offset rb rd) = record { row = 14; values = rd ∷ rb ∷ offset ∷ [] }
item_of a (Ldrb offset rb rd) = record { row = 15; values = rd ∷ rb ∷ offset ∷ [] }
item_of a (AddPc rd imm) = record { row = 16; values = rd ∷ 4 * imm ∷ [] }
item_of a (Branch condition offset) = record { row = 17; values = condition ∷ (branch_target_of a offset).0 ∷ [] }
item_of a (Halt note) = record { row = 18; values = note ∷ [] }

abbrev pub item_line : Item → Text
item_line x = line_with x.row x.values

-- the line of the instruction at an address; an undefined halfword has none
abbrev pub instruction_line : ByteAddress → Option Instruction → Text
instruction_line a (Some i) = item_line (item_of a i)
instruction_line a None = []

-- the label of the instruction at an address, if a branch goes there
abbrev pub label_line : Bool → ByteAddress → Text
label_line isTarget a = cond isTarget (line_with label_row (a.0 ∷ [])) []

-- what is written for instruction i of a code
unfoldable pub lines_at : List ℕ → ℕ → Text
lines_at code i = label_line (targeted code i) (address_of i) ++ instruction_line (address_of i) (decoded_at code i)

-- for the first n instructions, and for all
unfoldable pub listing_below : List ℕ → ℕ → Text
listing_below code zero = []
listing_below code (suc n) = listing_below code n ++ lines_at code n

abbrev pub listing_of : List ℕ → Text
listing_of code = listing_below code (length code)

-- 15: the code fits an image
abbrev pub check15 : List ℕ → Bool
check15 code = leb 1 (length code) && leb (length code) most_code

-- the code stands from address 0 on. Check 13 asks nothing of a window
abbrev pub layout_for : List ℕ → Layout
layout_for code = record { code_bytes = 2 * length code; window_start = 0; window_length = 0 }

-- 9 and 13 of an instruction; 13 is not put where 9 gets a no
abbrev pub instruction_checks : Layout → ByteAddress → Option Instruction → List Asked
instruction_checks layout a None = at_address a check.Defined (check9 None) ∷ []
instruction_checks layout a (Some i) =
    at_address a check.Defined (check9 (Some i)) ∷ at_address a check.Target (check13 layout a i) ∷ []

abbrev pub checks_at : List ℕ → ℕ → List Asked
checks_at code i = instruction_checks (layout_for code) (address_of i) (decoded_at code i)

-- 16: the output has room for the text
abbrev pub check16 : List ℕ → ℕ → Bool
check16 code size = leb (length (listing_of code)) size

-- all that is put, in order
abbrev pub list_checks : List ℕ → ℕ → List Asked
list_checks code size =
    whole check.CodeLength (check15 code)
    ∷ (rows_below (checks_at code) (length code) ++ (whole check.OutputLength (check16 code size) ∷ []))

-- the text, or the refusal
pub data Listing : Type 0 where
  Lists : Text → Listing
  Refuses : Refusal → Listing

abbrev pub listing_as : Text → Result ⊤ Refusal → Listing
listing_as t (Ok tt) = Lists t
listing_as t (Err r) = Refuses r

-- of a code, into an output of so many bytes
unfoldable pub list_of : List ℕ → ℕ → Listing
list_of code size = listing_as (listing_of code) (first_no (list_checks code size))

-- the lister's answer: the length of the text, or the refusal
abbrev pub listed_as : Listing → Result ℕ Refusal
listed_as (Lists t) = Ok (length t)
listed_as (Refuses r) = Err r

-- the output afterwards: the text over its front, or what it was before if the lister refuses
abbrev pub output_after : Listing → Text → Text
output_after (Lists t) out = t ++ drop (length t) out
output_after (Refuses r) out = out
