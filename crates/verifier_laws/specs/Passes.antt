-- What it is for an instruction to pass, and for one to be branched to.
use Rattle.std.specs.Prelude.{true, List, ◌≡◌, ℕ, suc, ◌<◌, eqb, length, get_or, Some}
use Rattle.units.specs.Address.{instruction_index_of, branch_target_of}
use Rattle.isa.specs.declared.instruction.Instruction.{Instruction}
use Rattle.isa.specs.declared.instruction.Instruction.TheVariants.{Branch}
use Rattle.image.specs.declared.checker.Layout.{Layout}
use Rattle.targets.specs.Targets.{address_of, decoded_at}
use Rattle.isa.specs.Access.{access_of}
use Rattle.checks.specs.State.{value}
use Rattle.checks.specs.Questions.{check10, check11, check12, check13, check14}
use Rattle.verifier.specs.Verify.{values_at}

-- instruction i of a code with a layout gets a yes to checks 9 to 14, in the state before it
pub record Passes (code : List ℕ) (layout : Layout) (i : ℕ) : Type 0 where
  pub instruction : Instruction
  pub passes9 : decoded_at code i ≡ Some instruction
  pub passes10 : check10 (value (values_at code i) (access_of instruction).base) layout (access_of instruction) ≡ true
  pub passes11 : check11 (value (values_at code i) (access_of instruction).base) (access_of instruction) ≡ true
  pub passes12 : check12 instruction ≡ true
  pub passes13 : check13 layout (address_of i) instruction ≡ true
  pub passes14 : check14 (eqb (suc i) (length code)) (get_or code i 0) ≡ true

-- some instruction of the code is a branch whose target is instruction j ("Facts the judge carries": landing places)
pub record Reached (code : List ℕ) (j : ℕ) : Type 0 where
  pub branch : ℕ
  pub inside : branch < length code
  pub condition : ℕ
  pub offset : ℕ
  pub decoded : decoded_at code branch ≡ Some (Branch condition offset)
  pub there : (instruction_index_of (branch_target_of (address_of branch) offset)).0 ≡ j
