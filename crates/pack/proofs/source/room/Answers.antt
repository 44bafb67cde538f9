-- An array has as many bytes as it repeats. The lemma is told all that it could look for: a length as large as
-- this one is not to be counted.
use Rattle.std.proofs.Common.{ℕ}
use Rattle.std.proofs.lemmas.List.{length-replicate}
use Rattle.pack.proofs.source.room.Goals as goal

pub returns : goal.returns
returns c = length-replicate {0} {A = ℕ} 524289 0
