-- A space, a #, a number and the end of the line.
use Rattle.std.proofs.Common.{sym, ◌∙◌}
use Rattle.syntax.proofs.Heads.{no_hash, no_note, note_ends}
use Rattle.syntax.proofs.parser.note.Goals as goal

pub returns-then-not-two_at : goal.returns-then-not-two_at
returns-then-not-two_at c = no_hash c.args.text.now c.args.at (sym c.two_at.ensures ∙ c.if-not-two_at.true)

pub returns-in_err-n : goal.returns-in_err-n
returns-in_err-n c =
    rw c.from_residual.ensures
    (no_note c.args.text.now c.args.at (sym c.two_at.ensures ∙ c.if-not-two_at.false) c.in_err-n.ensures)

pub returns : goal.returns
returns c =
    note_ends c.args.text.now c.args.at (sym c.two_at.ensures ∙ c.if-not-two_at.false) _ _ c.in_ok-n.ensures
    _ c.end_line.ensures
