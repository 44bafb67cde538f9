-- So far the first i halfwords of the code are there.
use Rattle.std.proofs.Common.{◌≡◌, take}
use Rattle.image.specs.Code.{code_of}
use Rattle.list.proofs.code.read_code.Given as goal

abbrev pub invariant-loop-i : goal.invariant-loop-i
invariant-loop-i l = l.code.items ≡ take l.i (code_of l.file)
