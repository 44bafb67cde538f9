-- Before each turn what is written for the instructions so far stands at the front of the output.
use Rattle.text.specs.Writes.{Grew}
use Rattle.lister.specs.List.{listing_below}
use Rattle.lister.proofs.writer.Marked.write.Given as goal

abbrev pub invariant-loop-k : goal.invariant-loop-k
invariant-loop-k l = Grew (listing_below l.self.code.now l.k) l.initial.text l.text
