-- The line is written behind the label, and both are those that the mark and the address say.
use Rattle.std.proofs.Common.{sym}
use Rattle.isa.specs.Decode.{decode_of}
use Rattle.text.proofs.Writing.{grew_as, ◌then◌}
use Rattle.lister.proofs.Listing.{lines_told}
use Rattle.lister.proofs.writer.put_lines.Goals as goal

pub returns : goal.returns
returns c =
    let told =
    lines_told c.args.marks.now c.args.i _ c.from-a.ensures _ c.is_marked.ensures (decode_of c.args.h) in
    grew_as (sym told) (c.put_label.ensures then c.put_instruction.ensures)
