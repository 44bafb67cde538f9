-- The checks in their order, each by its law.
use Rattle.std.proofs.Common.{arith}
use Rattle.std.proofs.lemmas.Result.{err_from_is_err_and}
use Rattle.assembler.proofs.Assembling.{too_few, too_many, line_fails, no_room, code_done}
use Rattle.assembler.proofs.assembler.write_code.Goals as goal
use Rattle.assembler.proofs.assembler.write_code.Goals.{then-size-lt1-via-then-size-lt1}
use Rattle.assembler.proofs.assembler.write_code.Goals.{then-size-lt1-via-else-size-lt1+then-size-gt-MOST_CODE}

pub returns-then-size-lt1 : goal.returns-then-size-lt1
returns-then-size-lt1 c =
    rw c.refused.ensures (elim c.then-size-lt1.branch [
      | then-size-lt1-via-then-size-lt1 w ↦ too_few c.requires c.args.out.now w.if-size-lt1.true
      | then-size-lt1-via-else-size-lt1+then-size-gt-MOST_CODE w ↦
          too_many c.requires c.args.out.now w.if-size-gt-MOST_CODE.true
    ])

pub returns-in_err-check_lines : goal.returns-in_err-check_lines
returns-in_err-check_lines c =
    let p = err_from_is_err_and c.from_residual.result c.from_residual.ensures.1 in
    rw (p.1, p.2)
    (line_fails c.requires c.args.out.now (omega arith) (omega arith) c.in_err-check_lines.ensures)

pub returns-then-out-size : goal.returns-then-out-size
returns-then-out-size c =
    rw c.refused-then-out-size.ensures
    (no_room c.requires c.args.out.now (omega arith) (omega arith) (omega arith) c.in_ok-check_lines.ensures)

pub returns : goal.returns
returns c =
    code_done c.requires c.args.out.now (omega arith) (omega arith) (omega arith) c.in_ok-translate.ensures.value
    c.in_ok-translate.ensures.written
