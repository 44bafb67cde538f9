-- So far the place is where line k starts, counted from 0.
use Rattle.std.proofs.Common.{◌≡◌, ◌≤◌, length}
use Rattle.pack.specs.Shown.{line_start}
use Rattle.pack.proofs.source.line_of.Given as goal

abbrev pub invariant-loop-k : goal.invariant-loop-k
invariant-loop-k l = (l.at ≡ line_start l.k l.text) × (l.at ≤ length l.text)
