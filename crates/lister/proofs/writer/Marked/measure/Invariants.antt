-- Before each turn the sum is the length of what is written for the instructions so far.
use Rattle.std.proofs.Common.{length, ◌≡◌}
use Rattle.lister.specs.List.{listing_below}
use Rattle.lister.proofs.writer.Marked.measure.Given as goal

abbrev pub invariant-loop-k : goal.invariant-loop-k
invariant-loop-k l = l.n ≡ length (listing_below l.self.code.now l.k)
