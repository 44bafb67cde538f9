-- What is written for an instruction stands behind what was written before.
use Rattle.std.proofs.Common.{refl, rules}
use Rattle.lister.specs.List.{listing_below}
use Rattle.text.proofs.Writing.{grew_none}
use Rattle.lister.proofs.Listing.{lines_fit, lines_next}
use Rattle.lister.proofs.writer.Marked.write.Goals as goal

pub loop-k-init : goal.loop-k-init
unfolding listing_below
loop-k-init c = grew_none _ _ refl

pub put_lines-requires-clause-h_in_bounds : goal.put_lines-requires-clause-h_in_bounds
put_lines-requires-clause-h_in_bounds c =
    lines_fit _ _ c.args.self.labelled _ c.loop-k-test.true c.loop-k.invariant (search rules)

pub loop-k-preserved : goal.loop-k-preserved
loop-k-preserved c = lines_next _ _ c.args.self.labelled _ c.loop-k-test.true c.loop-k.invariant c.put_lines.ensures
