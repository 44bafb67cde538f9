-- What a visit to a halfword gives. Only the contracts of private functions speak of it.
use Rattle.std.specs.Prelude.{◌≡◌, Option, Result, ⊤}
use Rattle.units.specs.declared.address.ByteAddress.{ByteAddress}
use Rattle.refusals.specs.declared.check.Check.{Check}
use Rattle.isa.specs.declared.instruction.Instruction.{Instruction}
use Rattle.image.specs.declared.checker.Layout.{Layout}
use Rattle.checks.specs.State.{State, after_of}
use Rattle.verifier.specs.Found.{found_in}

-- the halfword at an address, decoded as d, has been visited: r is the first of checks 9 to 13 that fails in the
-- state before, if one does, and the state after is what it leaves
pub record Visited (layout : Layout) (a : ByteAddress) (d : Option Instruction) (before after : State)
    (r : Result ⊤ Check) : Type 0 where
  pub found : r ≡ found_in before layout a d
  pub state : after ≡ after_of a d before
