use Rattle.std.proofs.Common.{refl, arith}
use Rattle.packer.proofs.Images.{written_none, body_header, written_more}
use Rattle.packer.proofs.writer.Plan.write_header.Goals as goal

pub loop-j-init : goal.loop-j-init
loop-j-init c = written_none _ _ _ _ _

pub loop-j-preserved : goal.loop-j-preserved
loop-j-preserved c =
    let at = c.loop-j in
    written_more _ _ _ _ at.j _ _ _ _ _ c.requires (omega arith) at.invariant refl c.put_halfword.ensures _
    (omega arith) (body_header _ _ _ _ _ _ c.loop-j-test.true c.header_halfword-h.ensures) c.add_to_sum-sum.ensures
