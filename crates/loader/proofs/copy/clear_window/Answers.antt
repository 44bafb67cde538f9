-- What comes back of the part is zeros, as many as it was long.
use Rattle.std.proofs.Common.{rules}
use Rattle.loader.proofs.Copied.{part_cleared}
use Rattle.loader.proofs.copy.clear_window.Goals as goal

pub returns : goal.returns
returns c =
    let a = c.args in
    part_cleared a.memory.now _ a.start a.end (search rules) (search rules) c.clear.ensures
