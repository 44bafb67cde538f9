-- The low byte of Rd goes to the address.
use Rattle.cpu.proofs.Access.{strb_completes}
use Rattle.cpu.proofs.instructions.strb.Goals as goal

pub returns : goal.returns
returns c =
    strb_completes c.args.regs.now c.args.memory.now c.args.log.now c.args.k c.args.step c.args.h
    c.bits.ensures c.effective_address-a.ensures c.told-regs
    c.bits-2.ensures c.store_byte.ensures
    c.put.ensures c.advanced.ensures c.completed.ensures
