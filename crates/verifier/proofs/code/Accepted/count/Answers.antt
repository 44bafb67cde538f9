-- The layout says how many bytes the code has.
use Rattle.verifier.proofs.Accepted.{count_is}
use Rattle.verifier.proofs.code.Accepted.count.Goals as goal

pub returns : goal.returns
returns c = count_is _ _ c.args.self.accepted _ c.count.ensures
