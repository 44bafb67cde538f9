-- So far no check has failed but 14, and the state is the definition's.
use Rattle.std.proofs.Common.{length, ◌+◌, ◌*◌}
use Rattle.image.specs.Code.{code_of}
use Rattle.image.specs.Format.{block_code}
use Rattle.verifier.specs.Position.{before_block}
use Rattle.verifier.specs.Progress.{Walked}
use Rattle.verifier.proofs.verifier.walk.Given as goal

abbrev pub invariant-loop-k : goal.invariant-loop-k
invariant-loop-k l =
    Walked (code_of l.code.file.now) l.code.layout (before_block l.k (length (code_of l.code.file.now))) l.state

abbrev pub invariant-loop-n : goal.invariant-loop-n
invariant-loop-n l = Walked (code_of l.code.file.now) l.code.layout (block_code * l.k + l.n) l.state
