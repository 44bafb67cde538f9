-- Before each turn the instructions so far have passed, and what they branch to is marked.
use Rattle.std.proofs.Common.{◌≡◌, Ok}
use Rattle.image.specs.Check.{first_no, rows_below}
use Rattle.targets.specs.Marks.{MarkedBelow}
use Rattle.lister.specs.List.{checks_at}
use Rattle.lister.proofs.checker.check_code.Given as goal

abbrev pub invariant-loop-k : goal.invariant-loop-k
invariant-loop-k l = (first_no (rows_below (checks_at l.code) l.k) ≡ Ok tt) × MarkedBelow l.code l.k l.marks
