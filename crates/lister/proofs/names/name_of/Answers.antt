-- The top three bits pick the format.
use Rattle.std.proofs.Common.{arith}
use Rattle.isa.specs.Decode.{table}
use Rattle.isa.proofs.Table.{past}
use Rattle.lister.proofs.Naming.{no_name}
use Rattle.lister.proofs.names.name_of.Goals as goal

pub returns-in_default : goal.returns-in_default
returns-in_default c =
    no_name (table c.args.h) c.bits.ensures
    (past (Unit {0}) 7 c.bits.result (
      (
        (((((tt, λ q. omega arith), λ q. omega arith), λ q. omega arith), λ q. omega arith), λ q. omega arith),
        λ q. omega arith,
      ),
      λ q. omega arith,
    ))
