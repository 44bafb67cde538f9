-- The register, and the place behind it.
use Rattle.text.proofs.Writing.{◌then◌}
use Rattle.lister.proofs.operands.put_transfer.Goals as goal

pub returns : goal.returns
returns c = c.put_register.ensures then c.put_all.ensures then c.put_place.ensures
