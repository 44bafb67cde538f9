-- The lister's passes over a code. Only the contracts of private functions speak of it.
use Rattle.std.specs.Prelude.{Bool, List, [], ◌∷◌, ◌++◌, ◌≡◌, ℕ, ◌<◌, ◌≤◌, length}
use Rattle.units.specs.declared.address.ByteAddress.{ByteAddress}
use Rattle.image.specs.Check.{whole, first_no, rows_below}
use Rattle.image.specs.Format.{most_code}
use Rattle.image.specs.declared.checker.Layout.{Layout}
use Rattle.targets.specs.Targets.{targeted, marked_at}
use Rattle.checks.specs.Questions.{check13}
use Rattle.text.specs.Text.{Text}
use Rattle.lister.specs.List.{label_line, instruction_line, checks_at, listing_of, check16, Listing, listing_as}
use Rattle.std.specs.Prelude.{Option, Some, None, Result, Ok, Err, ⊤}
use Rattle.isa.specs.declared.instruction.Instruction.{Instruction}
use Rattle.refusals.specs.Check.{outcome}
use Rattle.refusals.specs.declared.check.Check.{Check}
use Rattle.refusals.specs.declared.check.Check.TheVariants as check
use Rattle.refusals.specs.declared.refusal.Refusal.{Refusal}

-- the first of checks 9 and 13 that the halfword at an address fails, if one does
abbrev pub found_in : Layout → ByteAddress → Option Instruction → Result ⊤ Check
found_in layout a None = Err check.Defined
found_in layout a (Some i) = outcome check.Target (check13 layout a i)

-- what is written for the instruction at an address, be it a target or not
abbrev pub lines_with : Bool → ByteAddress → Option Instruction → Text
lines_with isTarget a d = label_line isTarget a ++ instruction_line a d

-- the code fits an image, and the marks are those of its branch targets
pub record Labelled (code marks : List ℕ) : Type 0 where
  pub fits : length code ≤ most_code
  pub marked : (j : ℕ) → j < most_code → marked_at marks j ≡ targeted code j

-- checks 9 and 13 of a code came to an answer; after a pass its targets are marked
abbrev pub MarkedIf : List ℕ → Result ⊤ Refusal → List ℕ → Type 0
MarkedIf code (Ok tt) marks = Labelled code marks
MarkedIf code (Err r) marks = Unit {0}

pub record CheckedAs (code : List ℕ) (r : Result ⊤ Refusal) (marks : List ℕ) : Type 0 where
  pub is : r ≡ first_no (rows_below (checks_at code) (length code))
  pub marked : MarkedIf code r marks

-- the listing of a code that passes the other checks, into an output of so many bytes
abbrev pub fitted_of : List ℕ → ℕ → Listing
fitted_of code size = listing_as (listing_of code) (first_no (whole check.OutputLength (check16 code size) ∷ []))
