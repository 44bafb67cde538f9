-- What is claimed of verdicts ("The questions") and of the states along the walk ("Facts the judge carries").
use Rattle.std.specs.Prelude.{true, List, ◌⊎◌, ◌↔◌, ◌≡◌, ℕ, suc, ◌+◌, ◌≤◌, ◌<◌, length, Some, Ok, Err}
use Rattle.refusals.specs.declared.refusal.Refusal.{Refusal}
use Rattle.isa.specs.declared.instruction.Instruction.{Instruction}
use Rattle.isa.specs.declared.instruction.Instruction.TheVariants.{AddHigh}
use Rattle.image.specs.Check.{first_no, check_of}
use Rattle.image.specs.Code.{code_of}
use Rattle.image.specs.declared.checker.Layout.{Layout}
use Rattle.domain.specs.Value.{largest}
use Rattle.domain_laws.specs.Ordered.{Ordered}
use Rattle.targets.specs.Targets.{address_of, decoded_at, targeted}
use Rattle.checks.specs.State.{value, unknown_state, standing_at, transfer_of}
use Rattle.verifier.specs.Verify.{entering, values_at, checks_at, verify_of}
use Rattle.verifier_laws.specs.Passes.{Passes, Reached}

-- a file is fit exactly when checks 2 to 8 accept it, with that layout, and each instruction of its code passes
-- checks 9 to 14
abbrev pub PassesExactly : Type 0
PassesExactly =
    (file : List ℕ) (layout : Layout)
    → (verify_of file ≡ Ok layout)
    ↔ ((check_of file ≡ Ok layout) × ((i : ℕ) → i < length (code_of file) → Passes (code_of file) layout i))

-- an accepted file has an instruction that does not pass: all before it do, and r is the first no of its own checks
pub record RefusedInCode (file : List ℕ) (r : Refusal) : Type 0 where
  pub layout : Layout
  pub accepted : check_of file ≡ Ok layout
  pub index : ℕ
  pub inside : index < length (code_of file)
  pub before : (k : ℕ) → k < index → Passes (code_of file) layout k
  pub no : first_no (checks_at (code_of file) layout index) ≡ Err r

-- a file is refused exactly by the first no: that of checks 2 to 8, or of the first instruction that does not pass
abbrev pub RefusesExactly : Type 0
RefusesExactly =
    (file : List ℕ) (r : Refusal)
    → (verify_of file ≡ Err r) ↔ ((check_of file ≡ Err r) ⊎ RefusedInCode file r)

-- an instruction is a branch target exactly when some branch of the code goes to it
abbrev pub TargetsExactly : Type 0
TargetsExactly = (code : List ℕ) (j : ℕ) → (targeted code j ≡ true) ↔ Reached code j

-- the states along a code: at address 0 and at branch targets only the address is known; elsewhere the state is
-- what the instruction above leaves, be it a branch or not
pub record StatesAlong (code : List ℕ) : Type 0 where
  pub first : values_at code 0 ≡ standing_at (address_of 0) unknown_state
  pub target : (j : ℕ) → Reached code j → values_at code j ≡ standing_at (address_of j) unknown_state
  pub next : (i : ℕ) (instruction : Instruction) → decoded_at code i ≡ Some instruction → (Reached code (suc i) → ⊥)
      → values_at code (suc i) ≡ standing_at (address_of (suc i))
      (transfer_of (address_of i) instruction (values_at code i))

abbrev pub ForgetsAtTargets : Type 0
ForgetsAtTargets = (code : List ℕ) → StatesAlong code

-- every value along the walk of any code has its bounds in order, and they are of 16 bits
abbrev pub LowBelowHigh : Type 0
LowBelowHigh = (code : List ℕ) (i r : ℕ) → Ordered (value (values_at code i) r)

-- so at every ADD of a walk the lower bound is the plain sum, unless the upper sum exceeds 65,535
abbrev pub AddsPlainly : Type 0
AddsPlainly =
    (code : List ℕ) (i rs rd : ℕ) → decoded_at code i ≡ Some (AddHigh rs rd)
    → (value (values_at code i) rd).high + (value (values_at code i) rs).high ≤ largest
    → (value (entering code (suc i)) rd).low ≡ (value (values_at code i) rd).low + (value (values_at code i) rs).low
