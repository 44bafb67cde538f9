-- No R, no digit behind it, one digit that is no 1, a 1 alone, or a number from 10 to 15.
use Rattle.std.proofs.Common.{sym, ap, ◌∙◌, ◌+◌, arith, get_or}
use Rattle.text.specs.Text.{is_digit}
use Rattle.syntax.proofs.Digits.{digit_low}
use Rattle.syntax.proofs.Registers.{register_other, register_no_digit, register_short, register_one, register_teen}
use Rattle.syntax.proofs.slots.register_at.Goals as goal
use Rattle.syntax.proofs.slots.register_at.Goals.{then-e-lt48-via-then-e-lt48, then-e-lt48-via-else-e-lt48+then-e-gt53}

pub returns-then-byte_at-ne82 : goal.returns-then-byte_at-ne82
returns-then-byte_at-ne82 c =
    register_other c.args.text.now c.args.at (λ q. c.if-byte_at-ne82.true (c.byte_at.ensures ∙ q))

pub returns-then-not-is_digit : goal.returns-then-not-is_digit
returns-then-not-is_digit c =
    register_no_digit c.args.text.now c.args.at (sym c.byte_at.ensures ∙ c.if-byte_at-ne82.false)
    (sym (ap is_digit c.byte_at-d.ensures) ∙ sym c.is_digit.ensures ∙ c.if-not-is_digit.true)

pub returns-then-d-ne49 : goal.returns-then-d-ne49
returns-then-d-ne49 c =
    register_short c.args.text.now c.args.at c.requires (sym c.byte_at.ensures ∙ c.if-byte_at-ne82.false)
    c.byte_at-d.result c.byte_at-d.ensures (sym c.is_digit.ensures ∙ c.if-not-is_digit.false) c.if-d-ne49.true

pub returns-then-e-lt48 : goal.returns-then-e-lt48
returns-then-e-lt48 c =
    register_one c.args.text.now c.args.at c.requires (sym c.byte_at.ensures ∙ c.if-byte_at-ne82.false)
    (sym c.byte_at-d.ensures ∙ c.if-d-ne49.false)
    (elim c.then-e-lt48.branch [
      | then-e-lt48-via-then-e-lt48 w ↦
          λ q. omega (
            arith,
            c.byte_at-e.ensures,
            w.if-e-lt48.true,
            digit_low (get_or c.args.text.now (c.args.at + 2) 0) q,
          )
      | then-e-lt48-via-else-e-lt48+then-e-gt53 w ↦ λ q. omega (arith, c.byte_at-e.ensures, w.if-e-gt53.true)
    ])

pub returns : goal.returns
returns c =
    register_teen c.args.text.now c.args.at c.requires (sym c.byte_at.ensures ∙ c.if-byte_at-ne82.false)
    c.byte_at-e.result c.byte_at-e.ensures (sym c.byte_at-d.ensures ∙ c.if-d-ne49.false) (omega arith) (omega arith)
