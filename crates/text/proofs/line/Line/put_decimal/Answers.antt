-- The digits stand behind what counted before.
use Rattle.std.proofs.Common.{◌++◌, ap, rules, ◌∙◌, arith}
use Rattle.text.specs.Text.{Text, decimal}
use Rattle.text.proofs.Writing.{grew_front, zeros_behind}
use Rattle.text.proofs.line.Line.put_decimal.Goals as goal

pub invariant_of-self : goal.invariant_of-self
invariant_of-self c = (search rules, zeros_behind (search rules) c.put_decimal.ensures c.self.invariant.1)

pub returns : goal.returns
returns c =
    grew_front (search rules) c.put_decimal.ensures ∙ ap (λ (s : Text). s ++ decimal c.args.n) c.self.view_is
