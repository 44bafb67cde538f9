-- Check 14 is the last one.
use Rattle.std.proofs.Common.{◌∙◌, arith}
use Rattle.std.proofs.lemmas.Result.{err_from_is_err_and}
use Rattle.image.proofs.Valid.{code_in_file}
use Rattle.verifier.proofs.Walk.{ended, fit, verdict_is}
use Rattle.verifier.proofs.verifier.check_end.Goals as goal

pub code_at-requires : goal.code_at-requires
code_at-requires c =
    code_in_file _ _ c.args.code.accepted _ (omega arith)

pub returns-in_err-answer_at : goal.returns-in_err-answer_at
returns-in_err-answer_at c =
    let p = err_from_is_err_and c.from_residual.result c.from_residual.ensures.1 in
    rw (p.1, p.2)
    (verdict_is _ _ _
    (ended _ c.args.code.accepted c.count.ensures c.code_at.ensures c.check_last-found.ensures c.from.ensures
    c.answer_at.ensures c.requires
    ∙ c.in_err-answer_at.was))

pub returns : goal.returns
returns c =
    fit _ _
    (ended _ c.args.code.accepted c.count.ensures c.code_at.ensures c.check_last-found.ensures c.from.ensures
    c.answer_at.ensures c.requires
    ∙ c.in_ok-answer_at.was)
