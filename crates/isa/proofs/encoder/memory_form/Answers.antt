-- The fields share no bit, so that they are joined.
use Rattle.std.proofs.Common.{ap, rules, Ok}
use borrow.Author.Tests.{lt-ltb}
use Rattle.isa.proofs.Below.{below_is}
use Rattle.isa.proofs.Joined.{memory_joined}
use Rattle.isa.proofs.encoder.memory_form.Goals as goal

pub returns : goal.returns
returns c =
    let a = c.args in
    let o = below_is c.below.ensures c.in_ok-o.was in
    let b = below_is c.below-2.ensures c.in_ok-b.was in
    let d = below_is c.below-3.ensures c.in_ok-d.was in
    rw (o.1, b.1, d.1) (simp (lt-ltb _ _ o.0, lt-ltb _ _ b.0, lt-ltb _ _ d.0)
    (ap Ok (memory_joined a.op a.offset a.rb a.rd (search rules) o.0 b.0 d.0)))
