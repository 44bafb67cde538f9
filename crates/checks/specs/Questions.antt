-- Checks 9 to 14 of an instruction ("The questions"). `base` is the abstract value of its base register before
-- it; the layout has c, the code's length in bytes, and w and l, the window's start and length.
use Rattle.std.specs.Prelude.{Bool, true, false, cond, not, ◌&&◌, List, [], ◌∷◌, ℕ, ◌+◌, eqb, leb, ltb}
use Rattle.refusals.specs.declared.check.Check.{Check}
use Rattle.refusals.specs.declared.check.Check.TheVariants as check
use Rattle.refusals.specs.Refusal.{refusal_at}
use Rattle.units.specs.declared.address.ByteAddress.{ByteAddress}
use Rattle.isa.specs.declared.instruction.Instruction.{Instruction}
use Rattle.isa.specs.declared.instruction.Instruction.TheVariants.{MovImm, CmpImm, And, Eor, Asr, Tst, Neg, Cmp}
use Rattle.isa.specs.declared.instruction.Instruction.TheVariants.{AddHigh, CmpHigh, MovHigh, Str, Ldr, Strb, Ldrb}
use Rattle.isa.specs.declared.instruction.Instruction.TheVariants.{AddPc, Branch, Halt}
use Rattle.image.specs.Check.{Asked}
use Rattle.image.specs.declared.checker.Layout.{Layout}
use Rattle.domain.specs.declared.value.Value.{Value}
use Rattle.targets.specs.Jumps.{jump_of}
use Rattle.isa.specs.Access.{Access, access_of}
use Rattle.checks.specs.State.{State, pc_register, value}
use Rattle.std.specs.Prelude.{Option, Some, None, Result, Ok, Err, ⊤}
use Rattle.refusals.specs.declared.refusal.Refusal.{Refusal}

-- 9: the halfword is an instruction
abbrev pub check9 : Option Instruction → Bool
check9 (Some i) = true
check9 None = false

-- 10: the data of a load or store is in the window, whatever number its base register is. The sums are of
-- unbounded numbers: an address that would wrap is past the window
abbrev pub check10 : Value → Layout → Access → Bool
check10 base layout access =
    cond (eqb access.size 0) true
    (leb layout.window_start (base.low + access.offset)
    && leb (base.high + access.offset + access.size) (layout.window_start + layout.window_length))

-- 11: the base of a load or store of a halfword is known to be a multiple of 4. (Its offset always is.)
abbrev pub check11 : Value → Access → Bool
check11 base access = cond (eqb access.size 2) (leb 2 base.zeros) true

-- 12: it does not write R15. Only ADD and MOV with high registers could
abbrev pub check12 : Instruction → Bool
check12 (MovImm rd imm) = true
check12 (CmpImm rd imm) = true
check12 (And rs rd) = true
check12 (Eor rs rd) = true
check12 (Asr rs rd) = true
check12 (Tst rs rd) = true
check12 (Neg rs rd) = true
check12 (Cmp rs rd) = true
check12 (AddHigh rs rd) = not (eqb rd pc_register)
check12 (CmpHigh rs rd) = true
check12 (MovHigh rs rd) = not (eqb rd pc_register)
check12 (Str offset rb rd) = true
check12 (Ldr offset rb rd) = true
check12 (Strb offset rb rd) = true
check12 (Ldrb offset rb rd) = true
check12 (AddPc rd imm) = true
check12 (Branch condition offset) = true
check12 (Halt note) = true

-- the address that a jump goes to is below c
abbrev pub stays_in_code : Layout → Option ByteAddress → Bool
stays_in_code layout (Some a) = ltb a.0 layout.code_bytes
stays_in_code layout None = true

-- 13: a branch goes to an address of the code. One that leads below address 0 comes round to a high address,
-- which is never below c
abbrev pub check13 : Layout → ByteAddress → Instruction → Bool
check13 layout a i = stays_in_code layout (jump_of a i)

-- 14: the last halfword h of the code is HALT, with any note, so it is below 256 (Change 1)
abbrev pub check14 : Bool → ℕ → Bool
check14 is_last h = cond is_last (ltb h 256) true

-- a check of the instruction at an address
abbrev pub at_address : ByteAddress → Check → Bool → Asked
at_address a check test = record { passed = test; otherwise = refusal_at check a }

-- what is put to an instruction, in order
abbrev pub defined_checks : Value → Layout → ByteAddress → Bool → ℕ → Instruction → List Asked
defined_checks base layout a is_last h i =
    at_address a check.Access (check10 base layout (access_of i))
    ∷ at_address a check.Alignment (check11 base (access_of i))
    ∷ at_address a check.PcWrite (check12 i)
    ∷ at_address a check.Target (check13 layout a i)
    ∷ at_address a check.LastHalt (check14 is_last h)
    ∷ []

-- what is put to the halfword h at an address, decoded as given; where it is undefined, nothing after check 9
abbrev pub halfword_checks : State → Layout → ByteAddress → Bool → ℕ → Option Instruction → List Asked
halfword_checks s layout a is_last h None = at_address a check.Defined (check9 None) ∷ []
halfword_checks s layout a is_last h (Some i) =
    at_address a check.Defined (check9 (Some i)) ∷ defined_checks (value s (access_of i).base) layout a is_last h i

-- what the checks of the instruction at an address come to, where the first that fails, if one does, is known
abbrev pub answer_at : ByteAddress → Result ⊤ Check → Result ⊤ Refusal
answer_at a (Ok passed) = Ok passed
answer_at a (Err check) = Err (refusal_at check a)
