-- A file is cut into rows as long as a block.
use Rattle.std.proofs.Common.{arith}
use Rattle.image.proofs.Blocks.{block_row}
use Rattle.image.proofs.file.Blocks.block.Goals as goal

pub returns : goal.returns
returns c = block_row c.args.self.file.now _ c.args.k c.as_chunks.ensures.front (omega arith)
