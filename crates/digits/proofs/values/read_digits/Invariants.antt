-- What is left of the text adds to the number so far what the whole adds to 0.
use Rattle.std.proofs.Common.{◌≡◌, drop}
use Rattle.digits.specs.Digits.{grown_over}
use Rattle.digits.proofs.values.read_digits.Given as goal

abbrev pub invariant-loop-b : goal.invariant-loop-b
invariant-loop-b l = grown_over l.radix l.most l.n (drop l.b-index l.text) ≡ grown_over l.radix l.most 0 l.text
