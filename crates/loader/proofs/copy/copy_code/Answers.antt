-- Each turn copies one block more, or what is left of the code.
use Rattle.std.proofs.Common.{◌*◌, ◌<◌, arith}
use Rattle.loader.proofs.Copied.{block_inside, copied_none, copied_more}
use Rattle.loader.proofs.copy.copy_code.Goals as goal

pub loop-k-init : goal.loop-k-init
loop-k-init c = copied_none _ _ _

pub copy_block-requires-clause-in_file : goal.copy_block-requires-clause-in_file
copy_block-requires-clause-in_file c =
    block_inside c.args.file.now c.loop-k.k _ c.args.count.0 c.requires.by_index (omega arith) c.min-n.ensures

pub loop-k-preserved : goal.loop-k-preserved
loop-k-preserved c =
    let a = c.args in
    let at = c.loop-k in
    let left : 249 * at.k < a.count.0 = omega arith in
    let there = block_inside a.file.now at.k _ a.count.0 c.requires.by_index left c.min-n.ensures in
    copied_more a.file.now a.memory.now at.memory _ at.k _ a.count.0 left c.min-n.ensures (omega arith) there
    at.invariant c.copy_block.ensures
