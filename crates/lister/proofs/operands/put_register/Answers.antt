-- The letter, and the number behind it.
use Rattle.text.proofs.Writing.{◌then◌}
use Rattle.lister.proofs.operands.put_register.Goals as goal

pub returns : goal.returns
returns c = c.put.ensures then c.put_decimal.ensures
