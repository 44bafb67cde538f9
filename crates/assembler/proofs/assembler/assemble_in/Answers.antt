-- The table of labels is empty at first.
use Rattle.assembler.proofs.Table.{empty_holds}
use Rattle.assembler.proofs.assembler.assemble_in.Goals as goal

pub assemble_with-requires : goal.assemble_with-requires
assemble_with-requires g c = empty_holds _ c.requires.0
