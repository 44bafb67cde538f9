-- The digits are written one behind the other, the highest first.
use Rattle.text.proofs.Writing.{◌then◌}
use Rattle.text.proofs.writer.Writer.put_digits.Goals as goal

pub returns : goal.returns
returns c =
    c.put_digit.ensures then c.put_digit-2.ensures then c.put_digit-3.ensures then c.put_digit-4.ensures
    then c.put.ensures
