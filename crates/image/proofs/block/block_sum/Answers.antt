-- When all calls are made, the order has made no difference.
use Rattle.std.proofs.Common.{◌≡◌, refl, ap, ap₂, ◌∙◌, arith}
use Rattle.sums.specs.Sum.{added_to, sum_down_to}
use Rattle.sums.proofs.Sums.{down_next, down_below}
use Rattle.image.specs.Block.{sum_from_back}
use Rattle.image.proofs.block.block_sum.Goals as goal

pub loop-j-init : goal.loop-j-init
unfolding sum_down_to
loop-j-init c = refl

pub loop-j-preserved : goal.loop-j-preserved
loop-j-preserved c =
    let at = c.loop-j in
    c.add_to_sum-sum.ensures ∙ ap₂ added_to at.invariant c.field.ensures
    ∙ down_next _ at.j 256 (omega arith) (omega arith)

pub returns : goal.returns
returns c =
    let at = c.loop-j in
    let all : at.j ≡ 0 = omega arith in
    at.invariant ∙ ap (sum_from_back c.args.block.now) all ∙ down_below _ _
