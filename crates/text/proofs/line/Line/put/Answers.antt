-- Zeros stay behind the byte.
use Rattle.std.proofs.Common.{rules}
use Rattle.text.proofs.Writing.{zeros_behind_byte}
use Rattle.text.proofs.line.Line.put.Goals as goal

pub invariant_of-self : goal.invariant_of-self
invariant_of-self c = (search rules, zeros_behind_byte _ _ _ (search rules) c.self.invariant.1)
