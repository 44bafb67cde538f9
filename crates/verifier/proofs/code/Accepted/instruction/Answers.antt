-- The instruction stands in the file, and no number of it is large.
use Rattle.std.proofs.Common.{◌∙◌}
use Rattle.verifier.proofs.Position.{position_inside, halfword_is}
use Rattle.verifier.proofs.code.Accepted.instruction.Goals as goal

pub halfword_at-h-requires : goal.halfword_at-h-requires
halfword_at-h-requires c =
    position_inside _ _ c.args.self.accepted c.args.k c.args.n c.requires.in_code c.requires.in_block

pub returns-clause-halfword : goal.returns-clause-halfword
returns-clause-halfword c =
    c.halfword_at-h.ensures
    ∙ halfword_is _ _ c.args.self.accepted c.args.k c.args.n c.requires.in_code c.requires.in_block
