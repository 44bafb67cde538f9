-- The questions that can refuse ("The questions", "Change 4"), each by a name and by its number in the papers.
use Rattle.std.specs.Prelude.{ℕ, Bool, cond, Result, Ok, Err, ⊤}
use Rattle.refusals.specs.declared.check.Check.{Check}
use Rattle.refusals.specs.declared.check.Check.TheVariants.{MemorySize, FileLength, Mark, Sum, Numbering, Filling}
use Rattle.refusals.specs.declared.check.Check.TheVariants.{SameWindow, Window, Defined, Access, Alignment, PcWrite}
use Rattle.refusals.specs.declared.check.Check.TheVariants.{Target, LastHalt, CodeLength, OutputLength, Fields}
use Rattle.refusals.specs.declared.check.Check.TheVariants.{Line, Label, Value}

abbrev pub check_number : Check → ℕ
check_number MemorySize = 1
check_number FileLength = 2
check_number Mark = 3
check_number Sum = 4
check_number Numbering = 5
check_number Filling = 6
check_number SameWindow = 7
check_number Window = 8
check_number Defined = 9
check_number Access = 10
check_number Alignment = 11
check_number PcWrite = 12
check_number Target = 13
check_number LastHalt = 14
check_number CodeLength = 15
check_number OutputLength = 16
check_number Fields = 17
check_number Line = 21
check_number Label = 22
check_number Value = 23

-- a check whose test comes out so: it passes, or it is the one that has failed
abbrev pub outcome : Check → Bool → Result ⊤ Check
outcome check test = cond test (Ok tt) (Err check)
