-- The operation's two bits, asked one by one, pick the table's entry.
use Rattle.std.proofs.Common.{◌≡◌, ℕ, ◌+◌, ◌*◌, ap, ◌∙◌, arith}
use Rattle.units.specs.Field.{field}
use Rattle.isa.specs.Decode.{entry, high_table, high_of}
use Rattle.verifier.proofs.Walk.{as_known}
use Rattle.verifier.proofs.state.State.visit_high.Goals as goal

-- the operation's upper bit picks the table's entry: the lower one is asked before, and 0
picks : (h k : ℕ) → field h 8 1 ≡ 0 → field h 9 1 ≡ k → high_of h ≡ entry (high_table h) (2 * k)
picks h k lower upper =
    let parts : field h 8 2 ≡ field h 8 1 + 2 * field h 9 1 = omega arith in
    let both : field h 8 2 ≡ 2 * k = omega arith in
    ap (entry (high_table h)) both

pub returns-then-bits-eq1-2 : goal.returns-then-bits-eq1-2
returns-then-bits-eq1-2 c layout a =
    let rd_is = c.high_rd-rd.ensures in
    as_known (picks c.args.h 1 (omega arith) (omega arith))
    (record {
      found = c.check_write.ensures ∙ simp rd_is;
      state = c.set.ensures ∙ simp (rd_is, c.get-s.ensures, c.high_rs.ensures);
    })

pub returns : goal.returns
returns c layout a =
    let rd_is = c.high_rd-rd.ensures in
    as_known (picks c.args.h 0 (omega arith) (omega arith))
    (record {
      found = c.check_write-2.ensures ∙ simp rd_is;
      state =
          c.set-2.ensures
          ∙ simp (c.add.ensures, c.get-d.ensures, rd_is, c.get-s.ensures, c.high_rs.ensures);
    })
