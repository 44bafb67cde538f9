-- The first refusal stands.
use Rattle.std.proofs.Common.{refl}
use Rattle.std.proofs.lemmas.Result.{err_from_is_err_and}
use Rattle.image.specs.Check.{first_no, rows_below}
use Rattle.image.proofs.Answers.{refused_at, passed_too}
use Rattle.image.proofs.file.Blocks.check.Goals as goal

pub loop-k-init : goal.loop-k-init
unfolding first_no rows_below
loop-k-init c = refl

pub returns-in_err-check_block : goal.returns-in_err-check_block
returns-in_err-check_block c =
    let p = err_from_is_err_and c.from_residual.result c.from_residual.ensures.1 in
    rw (p.1, p.2) (search (refused_at, c.in_err-check_block.was))

pub loop-k-preserved : goal.loop-k-preserved
loop-k-preserved c = search (passed_too, c.in_ok-check_block.was)
