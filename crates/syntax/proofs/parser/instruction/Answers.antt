-- The name has the row, and what stands behind it decides.
use Rattle.std.proofs.Common.{sym, ◌∙◌}
use Rattle.syntax.proofs.Heads.{has_row, too_short, four_read, by_note, by_no_space, by_space, by_operands}
use Rattle.syntax.proofs.parser.instruction.Goals as goal

pub returns-in_err-name : goal.returns-in_err-name
returns-in_err-name c = rw c.from_residual.ensures (too_short _ _ c.requires.1 c.in_err-name.ensures.cases)

pub returns-in_err-row : goal.returns-in_err-row
returns-in_err-row c =
    rw c.from_residual-in_err-row.ensures
    (has_row c.in_err-row.ensures _ _ (four_read _ _ _ c.in_ok-name.ensures.cases c.type_inv.text)
    c.requires.1)

pub returns-then-row-eq18 : goal.returns-then-row-eq18
returns-then-row-eq18 c =
    let f = four_read _ _ _ c.in_ok-name.ensures.cases c.type_inv.text in
    by_note _ _ _ (has_row c.in_ok-row.ensures _ _ f c.requires.1) c.if-row-eq18.true _ c.note.ensures

pub operands-requires : goal.operands-requires
operands-requires c =
    let f = four_read _ _ _ c.in_ok-name.ensures.cases c.type_inv.text in
    (f.inside, (has_row c.in_ok-row.ensures _ _ f c.requires.1).counted)

pub returns-then-row-lt14 : goal.returns-then-row-lt14
returns-then-row-lt14 c =
    let f = four_read _ _ _ c.in_ok-name.ensures.cases c.type_inv.text in
    by_operands _ _ _ (has_row c.in_ok-row.ensures _ _ f c.requires.1) c.if-row-lt14.true _ c.operands.ensures

pub returns-then-byte_at-ne32 : goal.returns-then-byte_at-ne32
returns-then-byte_at-ne32 c =
    let f = four_read _ _ _ c.in_ok-name.ensures.cases c.type_inv.text in
    by_no_space _ _ _ (has_row c.in_ok-row.ensures _ _ f c.requires.1) c.if-row-lt14.false c.if-row-eq18.false
    (λ q. c.if-byte_at-ne32.true (c.byte_at.ensures ∙ q))

pub returns : goal.returns
returns c =
    let f = four_read _ _ _ c.in_ok-name.ensures.cases c.type_inv.text in
    by_space _ _ _ (has_row c.in_ok-row.ensures _ _ f c.requires.1) c.if-row-lt14.false c.if-row-eq18.false
    (sym c.byte_at.ensures ∙ c.if-byte_at-ne32.false) _ c.operands-2.ensures
