-- The top bits tell the format, and with it the other fields that decoding looks at.
use Rattle.std.proofs.Common.{◌≡◌, arith, rules}
use Rattle.units.specs.Field.{field}
use Rattle.verifier.proofs.Jumps.{is_undefined}
use Rattle.verifier.proofs.Walk.{not_known}
use Rattle.verifier.proofs.state.State.visit_straight.Goals as goal

pub returns-then-bits-eq-REGISTER_FORMAT : goal.returns-then-bits-eq-REGISTER_FORMAT
returns-then-bits-eq-REGISTER_FORMAT c =
    let registers : field c.args.h 13 3 ≡ 2 = omega arith in
    simp registers (c.visit_registers.ensures _ _)

pub returns-then-bits-eq-MEMORY_FORMAT : goal.returns-then-bits-eq-MEMORY_FORMAT
returns-then-bits-eq-MEMORY_FORMAT c =
    let memory : field c.args.h 13 3 ≡ 3 = omega arith in
    simp memory (c.visit_memory.ensures _)

pub returns-in_default : goal.returns-in_default
returns-in_default c =
    let a = c.args in
    not_known
    (is_undefined a.a a.h (search rules) c.requires _ c.bits-3.ensures (omega arith) (omega arith)
    ((((tt {0}, omega arith), omega arith), omega arith), omega arith))

pub returns-in-0 : goal.returns-in-0
returns-in-0 c =
    let format : field c.args.h 13 3 ≡ 0 = omega arith in
    simp format (c.visit_halt.ensures _ _ _)
