-- The top three bits pick the format's text.
use Rattle.std.proofs.Common.{◌≡◌, ap, arith, length}
use Rattle.text.proofs.Writing.{grew_as}
use Rattle.lister.specs.Lines.{target_text, operands_of}
use Rattle.lister.proofs.Formats.{operands_rest}
use Rattle.lister.proofs.operands.put_operands.Goals as goal

pub put_target-requires : goal.put_target-requires
put_target-requires c =
    let target : operands_of c.args.a c.args.h ≡ target_text c.branch_target.result =
    rw (c.branch_target.ensures, c.bits-in_default.ensures)
    (operands_rest c.args.a c.args.h c.bits.ensures {B = Unit {0}}
    (((((tt, λ q. omega arith), λ q. omega arith), λ q. omega arith), λ q. omega arith), λ q. omega arith)) in
    omega (arith, ap length target)

pub returns-in_default : goal.returns-in_default
returns-in_default c =
    let target : operands_of c.args.a c.args.h ≡ target_text c.branch_target.result =
    rw (c.branch_target.ensures, c.bits-in_default.ensures)
    (operands_rest c.args.a c.args.h c.bits.ensures {B = Unit {0}}
    (((((tt, λ q. omega arith), λ q. omega arith), λ q. omega arith), λ q. omega arith), λ q. omega arith)) in
    grew_as target c.put_target.ensures
