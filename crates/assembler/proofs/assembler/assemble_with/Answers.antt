-- A line that is none is 21.
use Rattle.std.proofs.Common.{length}
use Rattle.std.proofs.lemmas.Result.{err_from_is_err_and}
use Rattle.assembler.proofs.Assembling.{no_line}
use Rattle.assembler.proofs.assembler.assemble_with.Goals as goal

pub returns-in_err-counted : goal.returns-in_err-counted
returns-in_err-counted c =
    let p = err_from_is_err_and c.from_residual.result c.from_residual.ensures.1 in
    rw (p.1, p.2) (no_line c.args.text.now c.args.out.now (length c.args.notes.now) c.in_err-counted.ensures.0)
