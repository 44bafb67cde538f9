-- The operations past the table's end are undefined.
use Rattle.std.proofs.Common.{arith}
use Rattle.units.specs.Field.{field}
use Rattle.isa.specs.Decode.{alu_table}
use Rattle.isa.proofs.Table.{entry_past}
use Rattle.verifier.proofs.Walk.{not_known}
use Rattle.verifier.proofs.state.State.visit_alu.Goals as goal

pub returns-in_default : goal.returns-in_default
returns-in_default c layout a =
    let h = c.args.h in
    not_known (entry_past (alu_table h) (field h 6 4) (omega arith))
