-- The mark, and the number behind it.
use Rattle.text.proofs.Writing.{◌then◌}
use Rattle.lister.proofs.operands.put_note.Goals as goal

pub returns : goal.returns
returns c = c.put_all.ensures then c.put_last.ensures
