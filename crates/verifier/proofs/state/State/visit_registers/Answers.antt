-- Three bits pick the table's entry.
use Rattle.std.proofs.Common.{◌≡◌, arith}
use Rattle.units.specs.Field.{field}
use Rattle.isa.specs.Decode.{registers_table}
use Rattle.isa.proofs.Table.{entry_past}
use Rattle.verifier.proofs.Walk.{not_known}
use Rattle.verifier.proofs.state.State.visit_registers.Goals as goal

pub returns-in-0 : goal.returns-in-0
returns-in-0 c layout a =
    let alu : field c.args.h 10 3 ≡ 0 = omega arith in
    simp alu (c.visit_alu.ensures layout a)

pub returns-in-1 : goal.returns-in-1
returns-in-1 c layout a =
    let high : field c.args.h 10 3 ≡ 1 = omega arith in
    simp high (c.visit_high.ensures layout a)

pub returns-in_default : goal.returns-in_default
returns-in_default c layout a =
    let h = c.args.h in
    not_known (entry_past (registers_table h) (field h 10 3) (omega arith))
