-- Each turn marks what one more instruction branches to, and the blocks are the whole code.
use Rattle.std.proofs.Common.{arith}
use Rattle.targets.specs.Targets.{targeted_below, targeted}
use Rattle.targets.proofs.Marking.{mark_next}
use Rattle.verifier.proofs.Position.{none_before, next_number, behind}
use Rattle.verifier.proofs.marks.mark_targets.Goals as goal

pub loop-k-init : goal.loop-k-init
unfolding targeted_below
loop-k-init c = rw (none_before _) (λ j l. c.requires j)

pub loop-n-preserved : goal.loop-n-preserved
loop-n-preserved c =
    let marked = rw c.instruction-h.ensures.number at c.mark_target.ensures in
    rw (next_number _ _) (mark_next _ _ _ _ c.instruction-h.ensures.halfword marked c.loop-n.invariant)

pub returns : goal.returns
unfolding targeted
returns c j l = rw (behind _ _ c.args.code.accepted c.loop-k.k (omega arith)) at (c.loop-k.invariant j l)
