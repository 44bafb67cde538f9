-- The fields share no bit, so that they are joined.
use Rattle.std.proofs.Common.{ap, rules, Ok}
use borrow.Author.Tests.{lt-ltb}
use Rattle.isa.proofs.Below.{below_is}
use Rattle.isa.proofs.Joined.{imm_joined}
use Rattle.isa.proofs.encoder.imm_form.Goals as goal

pub returns : goal.returns
returns c =
    let a = c.args in
    let d = below_is c.below.ensures c.in_ok-d.was in
    let imm = c.ranges.imm.fits in
    rw d.1 (simp (lt-ltb _ _ d.0, lt-ltb _ _ imm) (ap Ok (imm_joined a.op a.rd a.imm (search rules) d.0 imm)))
