-- The register, PC and the number.
use Rattle.text.proofs.Writing.{◌then◌}
use Rattle.lister.proofs.operands.put_add_pc.Goals as goal

pub returns : goal.returns
returns c =
    c.put_register.ensures then c.put_all.ensures then c.put_all-2.ensures then c.put.ensures then c.put_last.ensures
