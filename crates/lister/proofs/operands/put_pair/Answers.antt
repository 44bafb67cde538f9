-- One register behind the other.
use Rattle.text.proofs.Writing.{◌then◌}
use Rattle.lister.proofs.operands.put_pair.Goals as goal

pub returns : goal.returns
returns c = c.put_register.ensures then c.put_all.ensures then c.put_register-2.ensures then c.put.ensures
