-- A number below the power has no such digit.
use Rattle.text.proofs.Writing.{no_digit}
use Rattle.text.proofs.writer.Writer.put_digit.Goals as goal

pub returns-else-n-unit : goal.returns-else-n-unit
returns-else-n-unit c = no_digit _ _ _ c.if-n-unit.false
