-- The letter, the number and the colon; where there is no label, nothing is written.
use Rattle.std.proofs.Common.{arith}
use Rattle.text.proofs.Writing.{grew_as, grew_none, ◌then◌}
use Rattle.lister.proofs.Lines.{label_is, label_sum, no_label}
use Rattle.lister.proofs.writer.put_label.Goals as goal

pub put_decimal-requires : goal.put_decimal-requires
put_decimal-requires c =
    omega (arith, label_sum c.args.marked c.args.a c.if-marked.true, c.put.ensures.place, c.put.ensures.kept)

pub put_all-requires : goal.put_all-requires
put_all-requires c =
    let number = c.put_decimal.ensures in
    omega (
      arith,
      label_sum c.args.marked c.args.a c.if-marked.true,
      c.put.ensures.place,
      c.put.ensures.kept,
      number.place,
      number.kept,
    )

pub returns-then-marked : goal.returns-then-marked
returns-then-marked c =
    grew_as (label_is c.args.marked c.args.a c.if-marked.true)
    (c.put.ensures then c.put_decimal.ensures then c.put_all.ensures)

pub returns-else-marked : goal.returns-else-marked
returns-else-marked c = grew_none _ _ (no_label c.args.marked c.args.a c.if-marked.false)
