-- The digits so far have the value so far.
use Rattle.std.proofs.Common.{length, ◌≤◌}
use Rattle.syntax.specs.Syntax.{too_large}
use Rattle.syntax.specs.Spots.{Digits}
use Rattle.syntax.proofs.slots.digits_from.Given as goal

abbrev pub invariant-loop-i : goal.invariant-loop-i
invariant-loop-i l = (l.i ≤ length l.text) × (l.value ≤ too_large) × Digits l.text l.at l.first l.value l.i
