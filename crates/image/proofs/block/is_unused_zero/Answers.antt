-- One unused halfword more.
use Rattle.std.proofs.Common.{◌≡◌, ap, ◌∙◌, ◌+◌, ◌-◌, add-one, refl, arith}
use Rattle.image.specs.Block.{halfword}
use Rattle.image.specs.Check.{unused_zero}
use Rattle.image.proofs.Answers.{zero_more}
use Rattle.image.proofs.block.is_unused_zero.Goals as goal

pub loop-n-init : goal.loop-n-init
unfolding unused_zero
loop-n-init c = refl

pub loop-n-preserved : goal.loop-n-preserved
loop-n-preserved c =
    let head = c.loop-n in
    let place : 6 + c.args.used + head.n ≡ 6 + (c.args.used + head.n) = omega arith in
    rw add-one (zero_more _ _ _ head.all _ head.invariant (c.field-all.ensures ∙ ap (halfword c.args.block.now) place))

pub returns : goal.returns
returns c =
    let at = c.loop-n in
    let all : at.n ≡ 249 - c.args.used = omega arith in
    at.invariant ∙ ap (unused_zero c.args.block.now c.args.used) all
