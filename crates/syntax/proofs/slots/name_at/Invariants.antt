-- What was read so far is the front of a name.
use Rattle.std.proofs.Common.{length, ◌+◌, ◌≤◌, ◌≡◌}
use Rattle.std.specs.Prelude.{min}
use Rattle.syntax.proofs.Names.{Naming}
use Rattle.syntax.proofs.slots.name_at.Given as goal

abbrev pub invariant-loop-i : goal.invariant-loop-i
invariant-loop-i l =
    (l.i ≤ l.limit) × (l.limit ≡ min (l.at + 8) (length l.text)) × Naming l.text l.at l.value l.i
