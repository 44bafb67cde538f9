-- The name's characters, and the operands behind them; a halfword with no name has no line.
use Rattle.std.proofs.Common.{ap, arith, length, length-append, sym, ◌∙◌}
use Rattle.text.proofs.Writing.{grew_as, grew_none, ◌then◌}
use Rattle.lister.specs.Lines.{operands_of}
use Rattle.lister.proofs.Lines.{line_by_name}
use Rattle.lister.proofs.writer.put_instruction.Goals as goal

pub put_all-requires : goal.put_all-requires
put_all-requires c =
    let line = line_by_name c.args.a c.args.h (sym c.in-Some.is ∙ c.name_of.ensures) in
    omega (arith, ap length line, length-append c.in-Some.name (operands_of c.args.a c.args.h))

pub put_operands-requires : goal.put_operands-requires
put_operands-requires c =
    let line = line_by_name c.args.a c.args.h (sym c.in-Some.is ∙ c.name_of.ensures) in
    omega (
      arith,
      ap length line,
      length-append c.in-Some.name (operands_of c.args.a c.args.h),
      c.put_all.ensures.place,
      c.put_all.ensures.kept,
    )

pub returns-in-Some : goal.returns-in-Some
returns-in-Some c =
    grew_as (line_by_name c.args.a c.args.h (sym c.in-Some.is ∙ c.name_of.ensures))
    (c.put_all.ensures then c.put_operands.ensures)

pub returns-in_default : goal.returns-in_default
returns-in_default c =
    grew_none _ _ (line_by_name c.args.a c.args.h (sym c.in_default.is ∙ c.name_of.ensures))
