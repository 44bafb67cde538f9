-- The upper byte of a halfword tells the branches.
use Rattle.std.proofs.Common.{sym, ap, ◌∙◌, arith}
use Rattle.targets.specs.Targets.{jump_at}
use Rattle.targets.proofs.Jumps.{is_branch, no_branch}
use Rattle.targets.proofs.branch.jump.Goals as goal
use Rattle.std.specs.Prelude.{Some}

pub returns-then-upper-lt-FIRST_BRANCH : goal.returns-then-upper-lt-FIRST_BRANCH
returns-then-upper-lt-FIRST_BRANCH c = sym (no_branch c.args.a c.args.h (λ low high. omega arith))

pub returns : goal.returns
returns c =
    let d = is_branch c.args.h (omega arith) (omega arith) in
    ap Some (rw c.bits.ensures at c.branch_target.ensures) ∙ ap (jump_at c.args.a) (sym d)
