-- A misaligned address stops before anything changes; another gives the halfword.
use Rattle.cpu.proofs.Access.{ldr_stops, ldr_completes}
use Rattle.cpu.proofs.instructions.ldr.Goals as goal

pub returns-then-a-ne0 : goal.returns-then-a-ne0
returns-then-a-ne0 c =
    ldr_stops c.args.regs.now c.args.memory.now c.args.log.now c.args.k c.args.step c.args.h
    c.bits.ensures c.effective_address-a.ensures c.if-a-ne0.true c.stopped.ensures

pub returns : goal.returns
returns c =
    ldr_completes c.args.regs.now c.args.memory.now c.args.log.now c.args.k c.args.step c.args.h
    c.bits.ensures c.effective_address-a.ensures c.if-a-ne0.false
    c.bits-2.ensures c.halfword_at-x.ensures
    c.put.ensures c.write_low.ensures c.completed.ensures
