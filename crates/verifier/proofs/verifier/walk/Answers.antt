-- Each turn is at an instruction of the code, in the definition's state, and what the visit tells decides.
use Rattle.std.proofs.Common.{replicate, ap, ◌∙◌, arith}
use Rattle.std.proofs.lemmas.Result.{err_from_is_err_and}
use Rattle.checks.specs.State.{register_count}
use Rattle.verifier.proofs.Position.{none_before, next_number, behind}
use Rattle.verifier.proofs.Walk.{walked_first, decided}
use Rattle.verifier.proofs.verifier.walk.Goals as goal

pub loop-k-init : goal.loop-k-init
loop-k-init c =
    rw (none_before _) (walked_first (c.all-state.ensures ∙ ap (replicate register_count) c.unknown.ensures))

pub returns-in_err-answer_at : goal.returns-in_err-answer_at
returns-in_err-answer_at c =
    let decides =
    decided _ c.loop-n.invariant (omega arith) c.args.code.fits c.instruction-h.ensures.number
    c.instruction-h.ensures.halfword c.mark_targets.ensures c.arrive.ensures c.from-a.ensures c.visit.ensures
    c.answer_at.ensures in
    let p = err_from_is_err_and c.from_residual.result c.from_residual.ensures.1 in
    rw (p.1, p.2) (decides.fails _ c.in_err-answer_at.was)

pub loop-n-preserved : goal.loop-n-preserved
loop-n-preserved c =
    let decides =
    decided _ c.loop-n.invariant (omega arith) c.args.code.fits c.instruction-h.ensures.number
    c.instruction-h.ensures.halfword c.mark_targets.ensures c.arrive.ensures c.from-a.ensures c.visit.ensures
    c.answer_at.ensures in
    rw (next_number _ _) (decides.passes c.in_ok-answer_at.was)

pub check_end-requires : goal.check_end-requires
check_end-requires c =
    rw (behind _ _ c.args.code.accepted c.loop-k.k (omega arith)) at c.loop-k.invariant.passed
