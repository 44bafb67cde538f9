-- The table is right where it knows.
use Rattle.assembler.proofs.Scanning.{found_there}
use Rattle.assembler.proofs.definitions.definition_of.Goals as goal

pub returns-in-Defined : goal.returns-in-Defined
returns-in-Defined c = found_there c.requires.known c.requires.named c.lookup.ensures c.in-Defined.is
