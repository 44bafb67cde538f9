use Rattle.std.proofs.Common.{◌≡◌, refl, arith}
use Rattle.packer.proofs.Images.{written_zero}
use Rattle.packer.proofs.writer.Plan.write_zeros.Goals as goal

pub loop-j-preserved : goal.loop-j-preserved
loop-j-preserved c =
    let at = c.loop-j in
    record {
      past_code = omega arith;
      within = omega arith;
      written = λ sum so.
          written_zero _ _ _ _ at.j _ _ _ _ _ c.requires (omega arith) (at.invariant.written sum so) refl
          c.put_halfword.ensures at.invariant.past_code (omega arith) refl;
    }

pub returns : goal.returns
returns c sum so =
    let at = c.loop-j in
    let all : at.j ≡ 255 = omega arith in
    rw all at (at.invariant.written sum so)
