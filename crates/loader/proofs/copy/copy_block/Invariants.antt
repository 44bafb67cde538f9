-- So far the first i bytes of the block's code are copied.
use Rattle.std.proofs.Common.{◌≡◌, ◌+◌, ◌*◌, take, drop}
use Rattle.loader.specs.Copy.{with_part}
use Rattle.loader.proofs.copy.copy_block.Given as goal

abbrev pub invariant-loop-i : goal.invariant-loop-i
invariant-loop-i l = record {
  memory : l.memory ≡ with_part l.to (take l.i (drop l.from l.file)) l.fn.memory;
  to : l.to ≡ 2 * (249 * l.k);
  from : l.from ≡ 512 * l.k + 12;
}
