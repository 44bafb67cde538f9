-- Where the test fails, so does the definition's.
use borrow.Author.Tests.{lt-leb}
use Rattle.assembler.proofs.Rows.{unfit}
use Rattle.assembler.proofs.fields.limited.Goals as goal

pub returns : goal.returns
returns c = unfit _ _ (lt-leb _ _ c.if-v-most.false)
