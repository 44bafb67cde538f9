-- What the checks of a halfword find: the first of checks 9 to 13 that fails, if one does. Only the contracts of
-- private functions speak of it.
use Rattle.std.specs.Prelude.{Bool, cond, Option, Some, None, Result, Err, ⊤}
use Rattle.units.specs.declared.address.ByteAddress.{ByteAddress}
use Rattle.refusals.specs.declared.check.Check.{Check}
use Rattle.refusals.specs.declared.check.Check.TheVariants as check
use Rattle.refusals.specs.Check.{outcome}
use Rattle.isa.specs.declared.instruction.Instruction.{Instruction}
use Rattle.image.specs.declared.checker.Layout.{Layout}
use Rattle.isa.specs.Access.{access_of}
use Rattle.checks.specs.State.{State, value}
use Rattle.checks.specs.Questions.{check10, check11, check12, check13}

-- of an instruction, whose checks come out so
abbrev pub first_of : Bool → Bool → Bool → Bool → Result ⊤ Check
first_of t10 t11 t12 t13 =
    cond t10
    (cond t11 (cond t12 (outcome check.Target t13) (Err check.PcWrite)) (Err check.Alignment))
    (Err check.Access)

-- of the halfword at an address, decoded as given, in a state
abbrev pub found_in : State → Layout → ByteAddress → Option Instruction → Result ⊤ Check
found_in s layout a None = Err check.Defined
found_in s layout a (Some i) =
    first_of (check10 (value s (access_of i).base) layout (access_of i))
    (check11 (value s (access_of i).base) (access_of i))
    (check12 i)
    (check13 layout a i)
