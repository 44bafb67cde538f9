-- The name is looked for among the items that are left (`Scan`).
use Rattle.std.proofs.Common.{◌-◌, length}
use Rattle.assembler.proofs.Scanning.{Scan}
use Rattle.assembler.proofs.definitions.scan.Given as goal

abbrev pub invariant-loop-at : goal.invariant-loop-at
invariant-loop-at l = Scan l.text l.name l.at l.i

abbrev pub decreases-loop-at : goal.decreases-loop-at
decreases-loop-at l = length l.text - l.at
