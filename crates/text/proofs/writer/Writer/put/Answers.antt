-- One byte is set.
use Rattle.text.proofs.Writing.{grew_byte}
use Rattle.text.proofs.writer.Writer.put.Goals as goal

pub returns : goal.returns
returns c = grew_byte _ _
