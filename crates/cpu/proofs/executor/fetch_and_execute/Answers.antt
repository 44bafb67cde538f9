-- The checks are made in the definition's order.
use Rattle.cpu.specs.Traffic.{step_traffic}
use Rattle.cpu.proofs.Fetch.{odd, even}
use Rattle.cpu.proofs.executor.fetch_and_execute.Goals as goal

pub returns-then-k-ne0 : goal.returns-then-k-ne0
unfolding step_traffic
returns-then-k-ne0 c =
    let leads =
    odd c.args.regs.now c.args.memory.now c.args.log.now c.args.k c.args.step c.told-regs c.told-memory
    c.if-k-ne0.true c.stopped.ensures in
    (leads.result, leads.logs)

pub returns : goal.returns
unfolding step_traffic
returns c =
    let leads =
    even c.args.regs.now c.args.memory.now c.args.log.now c.args.k c.args.step c.told-regs c.told-memory
    c.if-k-ne0.false c.halfword_at-h.ensures c.execute.ensures in
    (leads.result, leads.logs)
