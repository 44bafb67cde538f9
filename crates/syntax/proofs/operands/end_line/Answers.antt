-- The line feed is there or not.
use Rattle.std.proofs.Common.{[], refl, sym, ap, ◌∙◌, arith}
use Rattle.syntax.specs.Parser.{fit_at, line_end}
use Rattle.syntax.proofs.Steps.{byte_goes, byte_stops}
use Rattle.syntax.proofs.operands.end_line.Goals as goal

pub returns-then-byte_at-ne10 : goal.returns-then-byte_at-ne10
returns-then-byte_at-ne10 c =
    ap (line_end c.args.row c.args.a c.args.b c.args.c)
    (sym (byte_stops 10 [] c.args.text.now c.args.at refl (λ q. c.if-byte_at-ne10.true (c.byte_at.ensures ∙ q))))

pub returns : goal.returns
unfolding fit_at
returns c =
    ap (line_end c.args.row c.args.a c.args.b c.args.c)
    (sym (byte_goes 10 [] c.args.text.now c.args.at refl (omega arith)
    (sym c.byte_at.ensures ∙ c.if-byte_at-ne10.false)))
