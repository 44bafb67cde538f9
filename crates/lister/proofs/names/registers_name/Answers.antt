-- Bits 12 to 10 pick the format.
use Rattle.std.proofs.Common.{arith}
use Rattle.isa.specs.Decode.{registers_table}
use Rattle.lister.proofs.Naming.{no_name}
use Rattle.lister.proofs.names.registers_name.Goals as goal

pub returns-in_default : goal.returns-in_default
returns-in_default c = no_name (registers_table c.args.h) c.bits.ensures (omega arith)
