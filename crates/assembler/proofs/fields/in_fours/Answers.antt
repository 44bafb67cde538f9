-- What is no multiple of 4 does not fit.
use Rattle.assembler.proofs.Rows.{unfit, no_fours}
use Rattle.assembler.proofs.fields.in_fours.Goals as goal

pub returns : goal.returns
returns c = unfit _ _ (no_fours _ _ c.if-v-eq0.false)
