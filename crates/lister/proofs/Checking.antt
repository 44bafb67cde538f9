-- What is put to one instruction, and what it adds to the answer.
use mathlib.Core.Bool.{Bool, true, false, cond}
use mathlib.Core.List.{List}
use mathlib.Core.Path.{◌≡◌, refl, sym, ◌∙◌}
use Prim.Native.Nat.{ℕ, ◌+◌, ◌≤◌, ◌<◌}
use lib.ListN.{length, get_or}
use Rattle.units.specs.declared.address.ByteAddress.{ByteAddress}
use Rattle.refusals.specs.declared.check.Check.TheVariants as check
use Rattle.refusals.specs.Refusal.{refusal_at}
use Rattle.refusals.specs.declared.refusal.Refusal.{Refusal}
use Rattle.isa.specs.Decode.{decode_of}
use Rattle.isa.specs.declared.instruction.Instruction.{Instruction}
use Rattle.image.specs.Check.{first_no, rows_below}
use Rattle.image.specs.Format.{most_code}
use Rattle.image.specs.declared.checker.Layout.{Layout}
use Rattle.image.proofs.Answers.{refused_at, passed_too}
use Rattle.targets.specs.Marks.{MarkedBelow}
use Rattle.targets.specs.Targets.{address_of, decoded_at, targeted}
use Rattle.checks.specs.Questions.{check13, answer_at}
use Rattle.lister.specs.List.{layout_for, instruction_checks, checks_at}
use Rattle.lister.specs.Passes.{found_in, CheckedAs}
use Rattle.std.specs.Prelude.{Option, Some, None, Result, Ok, Err, ⊤}
use Rattle.refusals.specs.Check.{outcome}

-- what the first check that fails says is what the checks come to
row_is : (layout : Layout) (a : ByteAddress) (d : Option Instruction)
    → answer_at a (found_in layout a d) ≡ first_no (instruction_checks layout a d)
unfolding first_no
row_is layout a None = refl
row_is layout a (Some i) = go (check13 layout a i)
  where
    go : (t : Bool) → answer_at a (outcome check.Target t) ≡ cond t (Ok tt) (Err (refusal_at check.Target a))
    go true = refl
    go false = refl

-- the instructions before instruction k have passed, and an answer is what its own checks come to
module _ (code : List ℕ) (k h : ℕ) (layout : Layout) (a : ByteAddress)
    (before : first_no (rows_below (checks_at code) k) ≡ Ok tt) (there : a ≡ address_of k)
    (lies : layout ≡ layout_for code)
    (read : h ≡ get_or code k 0) {r : Result ⊤ Refusal} (is : r ≡ answer_at a (found_in layout a (decode_of h))) where
  answer_is : r ≡ first_no (checks_at code k)
  unfolding decoded_at
  answer_is = is ∙ rw (read, lies, there) (row_is (layout_for code) (address_of k) (decoded_at code k))

  pub turn_refused : {e : Refusal} → r ≡ Err e → k < length code
      → Err e ≡ first_no (rows_below (checks_at code) (length code))
  turn_refused {e} was inside = refused_at (checks_at code) k before r answer_is (length code) e was inside

  pub turn_passed : r ≡ Ok tt → first_no (rows_below (checks_at code) (k + 1)) ≡ Ok tt
  turn_passed was = passed_too (checks_at code) k before r answer_is was

-- all instructions have passed, and the marks are those of them all
pub all_checked : (code : List ℕ) (n : ℕ) (marks : List ℕ) → length code ≤ most_code → n ≡ length code
    → first_no (rows_below (checks_at code) n) ≡ Ok tt → MarkedBelow code n marks → CheckedAs code (Ok tt) marks
unfolding targeted
all_checked code n marks fits e passed below =
    record {
      is = rw e at (sym passed);
      marked = record { fits = fits; marked = λ j l. rw e at (below j l) };
    }
