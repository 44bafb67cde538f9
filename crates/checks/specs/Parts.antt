-- Checks 10 to 14, each as an outcome: it passes, or it says which has failed. Only the contracts of functions that are
-- no entry points speak of it.
use Rattle.std.specs.Prelude.{true, cond, not, ℕ, eqb, Some, Result, Err, ⊤}
use Rattle.units.specs.declared.address.ByteAddress.{ByteAddress}
use Rattle.refusals.specs.declared.check.Check.{Check}
use Rattle.refusals.specs.declared.check.Check.TheVariants as check
use Rattle.refusals.specs.Check.{outcome}
use Rattle.image.specs.declared.checker.Layout.{Layout}
use Rattle.domain.specs.declared.value.Value.{Value}
use Rattle.isa.specs.Access.{Access}
use Rattle.checks.specs.State.{pc_register}
use Rattle.checks.specs.Questions.{check10, check11, stays_in_code, check14}

-- 10 and 11, of a load or store
abbrev pub access_check : Value → Layout → Access → Result ⊤ Check
access_check base layout access =
    cond (check10 base layout access) (outcome check.Alignment (check11 base access)) (Err check.Access)

-- 12, of an ADD or MOV that writes Rd
abbrev pub write_check : ℕ → Result ⊤ Check
write_check rd = outcome check.PcWrite (not (eqb rd pc_register))

-- 13, of a branch to an address
abbrev pub target_check : Layout → ByteAddress → Result ⊤ Check
target_check layout target = outcome check.Target (stays_in_code layout (Some target))

-- 14, of the last halfword
abbrev pub last_check : ℕ → Result ⊤ Check
last_check h = outcome check.LastHalt (check14 true h)
