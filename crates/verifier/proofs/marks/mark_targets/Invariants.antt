-- So far the branches of the blocks before block k are marked, and of the first n instructions of that.
use Rattle.std.proofs.Common.{length, ◌+◌, ◌*◌}
use Rattle.image.specs.Code.{code_of}
use Rattle.image.specs.Format.{block_code}
use Rattle.targets.specs.Marks.{MarkedBelow}
use Rattle.verifier.specs.Position.{before_block}
use Rattle.verifier.proofs.marks.mark_targets.Given as goal

abbrev pub invariant-loop-k : goal.invariant-loop-k
invariant-loop-k l =
    MarkedBelow (code_of l.code.file.now) (before_block l.k (length (code_of l.code.file.now))) l.marks

abbrev pub invariant-loop-n : goal.invariant-loop-n
invariant-loop-n l = MarkedBelow (code_of l.code.file.now) (block_code * l.k + l.n) l.marks
