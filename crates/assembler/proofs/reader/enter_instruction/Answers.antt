-- A branch is noted by its condition and name, another instruction by its halfword.
use Rattle.std.proofs.lemmas.Result.{err_from_is_err_and}
use Rattle.assembler.proofs.Sayings.{branch_no, branch_note, other_no, other_yes, other_note}
use Rattle.assembler.proofs.reader.enter_instruction.Goals as goal

pub returns-then-item-eq17 : goal.returns-then-item-eq17
returns-then-item-eq17 c =
    let x = c.args.item in
    let b = c.if-item-eq17.true in
    (branch_no x c.args.i b, branch_note x c.args.i b c.args.notes.now c.args.k c.narrow.ensures c.put.ensures)

pub returns-in_err-halfword : goal.returns-in_err-halfword
returns-in_err-halfword c =
    let x = c.args.item in
    let i = c.args.i in
    let b = c.if-item-eq17.false in
    let asked = c.field_of-halfword.ensures in
    let p = err_from_is_err_and c.from_residual.result c.from_residual.ensures.1 in (
      rw (p.1, p.2) (other_no x i b asked c.in_err-halfword.was),
      other_note x i b asked c.args.notes.now c.args.k c.unwrap_or.ensures c.put-2.ensures,
    )

pub returns : goal.returns
returns c =
    let x = c.args.item in
    let i = c.args.i in
    let b = c.if-item-eq17.false in
    let asked = c.field_of-halfword.ensures in (
      other_yes x i b asked c.in_ok-halfword.was,
      other_note x i b asked c.args.notes.now c.args.k c.unwrap_or.ensures c.put-2.ensures,
    )
