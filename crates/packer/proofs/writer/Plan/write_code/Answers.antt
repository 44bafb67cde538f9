use Rattle.std.proofs.Common.{◌≡◌, ◌+◌, sym, arith}
use Rattle.packer.proofs.Images.{body_code, written_more}
use Rattle.packer.proofs.writer.Plan.write_code.Goals as goal

pub loop-i-preserved : goal.loop-i-preserved
loop-i-preserved c =
    let at = c.loop-i in
    let next : 6 + (at.i + 1) ≡ 6 + at.i + 1 = omega arith in
    rw next
    (written_more _ _ _ _ (6 + at.i) _ _ _ _ _ c.requires.there (omega arith) at.invariant (omega arith)
    c.put_halfword.ensures _ (omega arith) (sym (body_code _ _ _ _ at.i)) c.add_to_sum-sum.ensures)
