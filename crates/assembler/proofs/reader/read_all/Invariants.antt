-- What was read before, the table and the notes of it, go on line by line (`Walked`).
use Rattle.std.proofs.Common.{◌-◌, length}
use Rattle.assembler.proofs.Walk.{Walked, Sized}
use Rattle.assembler.proofs.reader.read_all.Given as goal

abbrev pub invariant-loop-at : goal.invariant-loop-at
invariant-loop-at l =
    Walked l.text l.table l.notes l.at l.k l.i l.flaw × Sized l.table l.notes l.initial.table l.initial.notes

abbrev pub decreases-loop-at : goal.decreases-loop-at
decreases-loop-at l = length l.text - l.at
