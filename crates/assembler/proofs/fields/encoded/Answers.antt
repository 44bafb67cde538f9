-- The encoder's answer, or 0.
use Rattle.assembler.proofs.Rows.{encoded_is}
use Rattle.assembler.proofs.fields.encoded.Goals as goal

pub returns : goal.returns
returns c = encoded_is c.args.i c.encode.ensures c.unwrap_or.ensures
