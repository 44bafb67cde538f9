-- No digit, a zero, or another digit and those behind it.
use Rattle.std.proofs.Common.{ℕ, sym, ap, subst, ◌∙◌, ◌+◌, ◌-◌, arith}
use Rattle.text.specs.Text.{is_digit}
use Rattle.syntax.specs.Spots.{Digits}
use Rattle.syntax.proofs.Digits.{number_none, number_read}
use Rattle.syntax.proofs.slots.number_at.Goals as goal

pub returns-then-not-is_digit : goal.returns-then-not-is_digit
returns-then-not-is_digit c =
    number_none c.args.text.now c.args.at
    (sym (ap is_digit c.byte_at-first.ensures) ∙ sym c.is_digit.ensures ∙ c.if-not-is_digit.true)

pub returns : goal.returns
returns c =
    let t = c.args.text.now in
    let at = c.args.at in
    let there = sym c.is_digit.ensures ∙ c.if-not-is_digit.false in
    number_read t at c.digits_from.result.value c.digits_from.result.stop c.requires
    (sym (ap is_digit c.byte_at-first.ensures) ∙ there)
    (λ q. omega arith)
    (subst (λ (x : ℕ). Digits t (at + 1) (x - 48) c.digits_from.result.value c.digits_from.result.stop)
    c.byte_at-first.ensures c.digits_from.ensures.0)
    c.digits_from.ensures.1
