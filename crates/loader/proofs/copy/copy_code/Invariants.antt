-- So far the first k blocks are copied, or the whole code.
use Rattle.std.proofs.Common.{◌*◌, min}
use Rattle.loader.specs.Copy.{IsCopied}
use Rattle.loader.proofs.copy.copy_code.Given as goal

abbrev pub invariant-loop-k : goal.invariant-loop-k
invariant-loop-k l = IsCopied l.file (min (249 * l.k) l.all) l.fn.memory l.memory
