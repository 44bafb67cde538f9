-- A name, a colon and the end of the line.
use Rattle.std.proofs.Common.{sym, ◌∙◌}
use Rattle.syntax.proofs.Heads.{no_colon, label_ends}
use Rattle.syntax.proofs.parser.label.Goals as goal

pub returns-then-byte_at-ne58 : goal.returns-then-byte_at-ne58
returns-then-byte_at-ne58 c =
    no_colon _ _ _ _ c.in_ok-name.ensures (λ q. c.if-byte_at-ne58.true (c.byte_at.ensures ∙ q))

pub returns : goal.returns
returns c =
    label_ends _ _ _ _ c.in_ok-name.ensures
    (sym c.byte_at.ensures ∙ c.if-byte_at-ne58.false) _ c.end_line.ensures
