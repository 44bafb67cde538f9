-- The checks are put in order, and the text is written only where they all pass.
use Rattle.std.specs.Prelude.{not}
use Rattle.std.proofs.Common.{ap}
use Rattle.std.proofs.lemmas.Result.{err_from_is_err_and}
use Rattle.lister.proofs.Outcomes.{refused, no_program, no_instruction, all_instructions}
use Rattle.lister.proofs.lister.list.Goals as goal

pub returns-then-not-is_program : goal.returns-then-not-is_program
returns-then-not-is_program c =
    refused _ _
    (no_program _ _ _ c.is_program.ensures (ap not c.if-not-is_program.true) c.new.ensures)

pub returns-in_err-check_code : goal.returns-in_err-check_code
returns-in_err-check_code c =
    let p = err_from_is_err_and c.from_residual.result c.from_residual.ensures.1 in
    rw (p.1, p.2) (refused _ _
    (no_instruction _ _ _ c.is_program.ensures (ap not c.if-not-is_program.false) _ c.check_code.ensures.is
    c.in_err-check_code.was))

pub returns : goal.returns
returns c =
    rw (all_instructions _ _ _ c.is_program.ensures (ap not c.if-not-is_program.false) _ c.check_code.ensures.is
    c.in_ok-check_code.was) c.write_listing.ensures
