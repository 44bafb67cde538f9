-- A label changes the table, and an instruction the notes.
use Rattle.assembler.specs.Passes.{items_of}
use Rattle.assembler.proofs.Rowwise.{entries_label, entries_other, notes_label, notes_other}
use Rattle.assembler.proofs.Sayings.{line_label, line_other}
use Rattle.assembler.proofs.reader.enter.Goals as goal

pub returns-then-item-eq0 : goal.returns-then-item-eq0
returns-then-item-eq0 c =
    let put = c.enter_label.ensures in
    let b = c.if-item-eq0.true in (
      line_label (items_of c.args.above.now) c.args.item b put.0,
      entries_label _ _ _ _ b put.1,
      notes_label _ _ _ _ b,
    )

pub returns : goal.returns
returns c =
    let put = c.enter_instruction.ensures in
    let b = c.if-item-eq0.false in (
      line_other (items_of c.args.above.now) c.args.item c.args.i b c.requires.i_value put.0,
      entries_other _ _ _ _ b,
      notes_other _ _ _ _ b put.1,
    )
