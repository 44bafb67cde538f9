-- The length of what is written for an instruction is added to the sum.
use Rattle.std.proofs.Common.{refl, arith}
use Rattle.lister.specs.List.{listing_below}
use Rattle.lister.proofs.Listing.{measured_more, measured_small}
use Rattle.lister.proofs.writer.Marked.measure.Goals as goal

pub loop-k-init : goal.loop-k-init
unfolding listing_below
loop-k-init c = refl

pub overflow_add-n : goal.overflow_add-n
overflow_add-n c =
    omega (
      arith,
      measured_small _ _ c.args.self.labelled _ c.loop-k-test.true _ _ c.loop-k.invariant c.lines_length-n.ensures,
    )

pub loop-k-preserved : goal.loop-k-preserved
loop-k-preserved c =
    measured_more _ _ c.args.self.labelled _ c.loop-k-test.true _ _ c.loop-k.invariant c.lines_length-n.ensures
