-- The number, and the line feed behind it.
use Rattle.text.proofs.Writing.{◌then◌}
use Rattle.lister.proofs.operands.put_last.Goals as goal

pub returns : goal.returns
returns c = c.put_decimal.ensures then c.put.ensures
