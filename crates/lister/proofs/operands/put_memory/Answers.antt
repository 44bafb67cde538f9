-- B tells how the offset counts, and whether the space is still to be written.
use Rattle.text.proofs.Writing.{grew_as, ◌then◌}
use Rattle.lister.proofs.Formats.{of_byte}
use Rattle.lister.proofs.operands.put_memory.Goals as goal

pub returns-else-bits-eq0 : goal.returns-else-bits-eq0
returns-else-bits-eq0 c =
    grew_as
    (of_byte c.args.h c.bits.ensures c.bits-rd.ensures c.bits-rb.ensures c.bits-offset.ensures c.if-bits-eq0.false)
    (c.put.ensures then c.put_transfer-else-bits-eq0.ensures)
