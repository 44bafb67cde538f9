-- The word takes the place of as many bytes.
use Rattle.std.proofs.Common.{rules}
use Rattle.text.proofs.Writing.{grew_word}
use Rattle.text.proofs.writer.Writer.put_all.Goals as goal

pub returns : goal.returns
returns c = grew_word _ _ _ c.requires (search rules)
