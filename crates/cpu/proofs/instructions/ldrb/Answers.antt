-- The byte at the address goes to Rd.
use Rattle.cpu.proofs.Access.{ldrb_completes}
use Rattle.cpu.proofs.instructions.ldrb.Goals as goal

pub returns : goal.returns
returns c =
    ldrb_completes c.args.regs.now c.args.memory.now c.args.log.now c.args.k c.args.step c.args.h
    c.bits.ensures c.effective_address-a.ensures
    c.bits-2.ensures c.load_byte-x.ensures
    c.put.ensures c.write_low.ensures c.completed.ensures
