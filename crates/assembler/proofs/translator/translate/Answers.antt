-- Each instruction takes a turn, and the pass ends at the first that fails.
use Rattle.std.proofs.Common.{arith}
use Rattle.std.proofs.lemmas.Result.{err_from_is_err_and}
use Rattle.assembler.proofs.Translating.{first_turn, has_name, all_done, flaw_left, flaw_above, instruction_fails}
use Rattle.assembler.proofs.Translating.{next_turn}
use Rattle.assembler.proofs.translator.translate.Goals as goal

pub loop-i-init : goal.loop-i-init
loop-i-init c = first_turn c.requires

pub returns-in_err-above : goal.returns-in_err-above
returns-in_err-above c =
    let p = err_from_is_err_and c.from_residual.result c.from_residual.ensures.1 in
    let q = flaw_above _ _ _ _ _ c.loop-i.invariant c.loop-i-test.true c.in_err-above.ensures in
    rw (p.1, p.2) (record { value = q.0; written = q.1 })

pub said_of-requires-clause-named : goal.said_of-requires-clause-named
said_of-requires-clause-named c = has_name c.requires _ c.loop-i-test.true

pub returns-in-Err : goal.returns-in-Err
returns-in-Err c =
    let q = instruction_fails _ _ _ _ _ c.loop-i.invariant c.loop-i-test.true c.in_ok-above.ensures c.in-Err.ensures in
    record { value = q.0; written = q.1 }

pub loop-i-preserved : goal.loop-i-preserved
loop-i-preserved c =
    next_turn _ _ _ _ _ c.loop-i.invariant c.loop-i-test.true c.in_ok-above.ensures c.in-Ok.ensures c.put.auto.room
    c.put.ensures

pub returns-in-Some : goal.returns-in-Some
returns-in-Some c =
    let q = flaw_left _ _ _ _ _ c.loop-i.invariant (omega (arith, c.loop-i.invariant.few)) c.in-Some.is in
    record { value = q.0; written = q.1 }

pub returns-in-None : goal.returns-in-None
returns-in-None c =
    let q = all_done _ _ _ _ _ c.loop-i.invariant (omega (arith, c.loop-i.invariant.few)) c.in-None.is in
    record { value = q.0; written = q.1 }
