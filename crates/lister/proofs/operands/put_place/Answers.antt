-- Brackets around the register and the number.
use Rattle.text.proofs.Writing.{◌then◌}
use Rattle.lister.proofs.operands.put_place.Goals as goal

pub returns : goal.returns
returns c =
    c.put.ensures then c.put_register.ensures then c.put_all.ensures then c.put-2.ensures
    then c.put_decimal.ensures then c.put_all-2.ensures
