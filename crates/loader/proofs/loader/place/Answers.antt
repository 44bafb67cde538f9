-- The code of a fit file lies in the file, and code and window lie in memory.
use Rattle.std.proofs.Common.{arith, rules}
use Rattle.loader.proofs.Fit.{window_fits, code_there, placed}
use Rattle.loader.proofs.loader.place.Goals as goal

pub copy_code-requires-clause-by_index : goal.copy_code-requires-clause-by_index
copy_code-requires-clause-by_index c =
    code_there _ _ c.requires _ c.count.ensures

pub clear_window-requires : goal.clear_window-requires
clear_window-requires c =
    let fits = window_fits _ _ c.requires in
    let long = c.copy_code.ensures.long in
    omega arith

pub returns : goal.returns
returns c =
    placed c.args.file.now c.args.layout c.requires _ c.count.ensures
    (λ p. omega (arith, c.type_inv.file p)) c.args.memory.now _ _ (search rules) c.copy_code.ensures
    c.clear_window.ensures
