-- The first turn, each further one, and the two ways in which a run ends: by its last step, and spent.
use Rattle.std.proofs.Common.{◌≡◌, arith}
use Rattle.runner.proofs.Loop.{first_turn, next_turn, spent_run, ended_run}
use Rattle.runner.proofs.lent.run_within.Goals as goal

pub loop-count-init : goal.loop-count-init
loop-count-init c = first_turn c.requires

pub loop-count-preserved : goal.loop-count-preserved
loop-count-preserved c =
    let step = c.fetch_and_execute-e in
    next_turn c.loop-count.invariant step.result c.loop-count-test.true step.ensures c.in-Completed.is

pub returns-in_default : goal.returns-in_default
returns-in_default c =
    let step = c.fetch_and_execute-e in
    let done =
    ended_run c.loop-count.invariant c.args.s c.told-memory c.new-k.ensures step.new.regs step.result
    c.loop-count-test.true step.ensures c.in_default.not-Completed c.ended.ensures in
    record { count_after = done.0; log_after = done.1 }

pub returns : goal.returns
returns c =
    let all : c.args.budget ≡ c.loop-count.count =
    omega (arith, c.loop-count-test.false, c.loop-count.auto.count-end) in
    let done = spent_run c.loop-count.invariant c.args.s c.told-memory c.new-k.ensures all c.ended-2.ensures in
    record { count_after = done.0; log_after = done.1 }
