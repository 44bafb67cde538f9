-- A memory of another size is refused, and no step is made.
use Rattle.std.proofs.Common.{refl}
use Rattle.runner.proofs.Turns.{run_refused}
use Rattle.runner.proofs.Traffic.{refused_told}
use Rattle.runner.proofs.lent.run_lent.Goals as goal

pub returns-in_default : goal.returns-in_default
returns-in_default c =
    let ran = run_refused _ _ _ _ _ c.in_default.ensures.cases c.new.ensures in
    record { count_after = ran; log_after = refused_told _ _ _ c.args.log.now _ refl ran }
