-- A misaligned address stops before anything changes; another takes the halfword.
use Rattle.cpu.proofs.Access.{str_stops, str_completes}
use Rattle.cpu.proofs.instructions.str.Goals as goal

pub returns-then-a-ne0 : goal.returns-then-a-ne0
returns-then-a-ne0 c =
    str_stops c.args.regs.now c.args.memory.now c.args.log.now c.args.k c.args.step c.args.h
    c.bits.ensures c.effective_address-a.ensures c.if-a-ne0.true c.stopped.ensures

pub returns : goal.returns
returns c =
    str_completes c.args.regs.now c.args.memory.now c.args.log.now c.args.k c.args.step c.args.h
    c.bits.ensures c.effective_address-a.ensures c.told-regs c.if-a-ne0.false
    c.bits-2.ensures c.put_halfword.ensures
    c.put.ensures c.advanced.ensures c.completed.ensures
