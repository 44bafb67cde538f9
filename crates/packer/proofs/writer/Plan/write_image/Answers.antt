use Rattle.std.proofs.Common.{◌*◌, arith}
use Rattle.packer.proofs.Overwriting.{same_all}
use Rattle.packer.proofs.Images.{image_length, block_long, block_put}
use Rattle.packer.proofs.writer.Plan.write_image.Goals as goal

pub loop-k-preserved : goal.loop-k-preserved
loop-k-preserved c =
    let p = c.args.self in
    let at = c.loop-k in
    let size = block_long p.code.now p.w p.l at.k (omega arith) in
    rw c.write_block.ensures (block_put at.out _ at.k (omega arith) size at.invariant)

pub returns : goal.returns
returns c =
    let p = c.args.self in
    let size = image_length p.code.now p.w p.l in
    same_all (512 * c.loop-k.k) _ _ (omega arith) (omega arith) c.loop-k.invariant
