-- The fields share no bit, so that they are joined.
use Rattle.std.proofs.Common.{ap, rules, Ok}
use borrow.Author.Tests.{lt-ltb}
use Rattle.isa.proofs.Below.{below_is}
use Rattle.isa.proofs.Joined.{high_joined}
use Rattle.isa.proofs.encoder.high_form.Goals as goal

pub returns : goal.returns
returns c =
    let a = c.args in
    let s = below_is c.below.ensures c.in_ok-s.was in
    let d = below_is c.below-2.ensures c.in_ok-d.was in
    rw (s.1, d.1) (simp (lt-ltb _ _ s.0, lt-ltb _ _ d.0) (ap Ok (high_joined a.op a.rs a.rd (search rules) s.0 d.0)))
