-- `|` with a power of two sets one bit of one word.
use Rattle.std.proofs.Common.{◌/◌, ◌%◌, ◌<◌, length, arith}
use Rattle.targets.proofs.Bits.{shl_one, marked_set}
use Rattle.targets.proofs.marks.Marks.mark.Goals as goal

pub returns : goal.returns
returns c =
    let i = c.args.i.0 in
    let inside : i / 64 < length c.args.self.now = rw (← c.self.view_is) (omega arith) in
    λ j. rw (shl_one (i % 64) (omega arith), c.self.view_is) (marked_set c.args.self.now i j inside)
