-- The sum of a block from the back: laws of sums, read of a block's halfwords.
use mathlib.Core.Path.{ap}
use Prim.Native.Nat.{ℕ}
use lib.Dec.{eqb}
use Rattle.sums.proofs.Sums.{down_plain, down_below}
use Rattle.image.specs.Check.{check4}
use Rattle.image_laws.specs.Claims.{BackwardSum, SameSum, CheckByCalls}

pub backward_sum : BackwardSum
backward_sum block n inside = down_plain _ _ _

pub same_sum : SameSum
same_sum block = down_below _ _

pub check_by_calls : CheckByCalls
unfolding check4
check_by_calls block = ap (λ (sum : ℕ). eqb sum 0) (same_sum block)
