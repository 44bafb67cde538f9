-- Each part answers for its checks, and the first no stands.
use Rattle.std.proofs.lemmas.Result.{err_from_is_err_and}
use Rattle.image.proofs.Answers.{told}
use Rattle.image.proofs.Verdicts.{refused_block, rest8}
use Rattle.image.proofs.checker.check.Goals as goal

pub returns-in_err-check : goal.returns-in_err-check
returns-in_err-check c =
    let p = err_from_is_err_and c.from_residual.result c.from_residual.ensures.1 in
    rw (p.1, p.2) (search (refused_block, told, c.in_err-check.was))

pub returns : goal.returns
returns c = search (rest8, told, c.in_ok-check.was)
