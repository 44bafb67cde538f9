-- Header, code and zeros are written one after the other; their sum gives the last halfword.
use Rattle.std.proofs.Common.{refl, arith}
use Rattle.packer.proofs.Images.{written_all}
use Rattle.packer.proofs.writer.Plan.write_block.Goals as goal

pub returns-in-Some : goal.returns-in-Some
returns-in-Some c =
    let zeros = c.write_zeros.ensures _ c.write_code-sum.ensures in
    written_all _ _ _ _ 255 510 _ _ _ _ c.requires.there (omega arith) zeros refl c.put_halfword.ensures refl
    (omega arith) (omega arith) (omega arith)
