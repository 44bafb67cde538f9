-- A digit goes on with the number; another character, or the end of the text, stops it.
use Rattle.std.proofs.Common.{arith, sym, ◌∙◌}
use Rattle.syntax.proofs.Digits.{digits_start, digits_more}
use Rattle.syntax.proofs.slots.digits_from.Goals as goal

pub loop-i-init : goal.loop-i-init
loop-i-init c = (c.requires.0, c.requires.1, digits_start _ _ _ c.requires.0 c.requires.1)

pub loop-i-preserved : goal.loop-i-preserved
loop-i-preserved c = (
  omega arith,
  omega (arith, c.with_digit-value.ensures),
  digits_more _ _ _ _ _ c.loop-i.invariant.2 (omega arith)
      (sym c.is_digit.ensures ∙ c.if-not-is_digit.false) _ c.with_digit-value.ensures,
)
