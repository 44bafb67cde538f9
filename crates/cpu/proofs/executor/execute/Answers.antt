-- The upper ten bits tell the operations on registers; of any other halfword `execute_other` does what is left to say.
use Rattle.std.proofs.Common.{◌≡◌, ℕ, ◌/◌, ◌<◌, List, refl, arith, lit<, rules}
use Rattle.std.specs.Prelude.{Option}
use Rattle.isa.specs.Decode.{decode_of}
use Rattle.alu.specs.declared.control.Control.{Control}
use Rattle.cpu.specs.declared.held.Executed.{Executed}
use Rattle.cpu.specs.declared.machine.Machine.{Machine}
use Rattle.cpu.specs.declared.outcome.Outcome.TheVariants.{Completed}
use Rattle.traffic.specs.declared.log.Log.{Log}
use Rattle.cpu.specs.Step.{execute_of}
use Rattle.cpu.specs.Held.{held, told_decoded, Leads}
use Rattle.cpu.proofs.Access.{Gave}
use Rattle.cpu.proofs.Dispatch.{is_alu, is_high, is_low_add, is_low_mov, is_cmp, is_other}
use Rattle.cpu.proofs.Formats.{quiet, arm, leads_as}
use Rattle.cpu.proofs.executor.execute.Goals as goal
use Rattle.isa.specs.declared.instruction.Instruction.{Instruction}

-- an arm: an operation on registers leaves memory and log alone
registers : (regs memory : List ℕ) (log : Log) (k : Control) (step h : ℕ) → h < 65536
    → {known : Option Instruction} {regs' : List ℕ} {e : Executed} {k' : Control} {m : Machine}
    → (h < 65536 → decode_of h ≡ known)
    → told_decoded known (held regs k) memory step log ≡ quiet m memory log → held regs' k' ≡ m → Gave e k' Completed
    → Leads regs' e memory log (told_decoded (decode_of h) (held regs k) memory step log)
registers regs memory log k step h fits is does holds gave = arm (held regs k) memory log step (is fits) does gave holds

pub returns-in-256 : goal.returns-in-256
unfolding execute_of
returns-in-256 c =
    registers c.args.regs.now c.args.memory.now c.args.log.now c.args.k c.args.step c.args.h (search rules)
    (λ fits. is_alu _ fits 0 (lit< tt) c.in-256.is) refl c.and.ensures c.completed.ensures

pub returns-in-257 : goal.returns-in-257
unfolding execute_of
returns-in-257 c =
    registers c.args.regs.now c.args.memory.now c.args.log.now c.args.k c.args.step c.args.h (search rules)
    (λ fits. is_alu _ fits 1 (lit< tt) c.in-257.is) refl c.eor.ensures c.completed-in-257.ensures

pub returns-in-258 : goal.returns-in-258
unfolding execute_of
returns-in-258 c =
    registers c.args.regs.now c.args.memory.now c.args.log.now c.args.k c.args.step c.args.h (search rules)
    (λ fits. is_alu _ fits 2 (lit< tt) c.in-258.is) refl c.asr.ensures c.completed-in-258.ensures

pub returns-in-259 : goal.returns-in-259
unfolding execute_of
returns-in-259 c =
    registers c.args.regs.now c.args.memory.now c.args.log.now c.args.k c.args.step c.args.h (search rules)
    (λ fits. is_alu _ fits 3 (lit< tt) c.in-259.is) refl c.tst.ensures c.completed-in-259.ensures

pub returns-in-260 : goal.returns-in-260
unfolding execute_of
returns-in-260 c =
    registers c.args.regs.now c.args.memory.now c.args.log.now c.args.k c.args.step c.args.h (search rules)
    (λ fits. is_alu _ fits 4 (lit< tt) c.in-260.is) refl c.neg.ensures c.completed-in-260.ensures

pub returns-in-261 : goal.returns-in-261
unfolding execute_of
returns-in-261 c =
    registers c.args.regs.now c.args.memory.now c.args.log.now c.args.k c.args.step c.args.h (search rules)
    (λ fits. is_alu _ fits 5 (lit< tt) c.in-261.is) refl c.cmp.ensures c.completed-in-261.ensures

pub returns-in-272 : goal.returns-in-272
unfolding execute_of
returns-in-272 c =
    registers c.args.regs.now c.args.memory.now c.args.log.now c.args.k c.args.step c.args.h (search rules)
    (λ fits. is_low_add _ fits c.in-272.is) refl c.add_low.ensures c.completed-in-272.ensures

pub returns-in-273 : goal.returns-in-273
unfolding execute_of
returns-in-273 c =
    registers c.args.regs.now c.args.memory.now c.args.log.now c.args.k c.args.step c.args.h (search rules)
    (λ fits. is_high _ fits 0 1 (lit< tt) (lit< tt) c.in-273.is) refl c.add_high.ensures c.completed-in-273.ensures

pub returns-in-274 : goal.returns-in-274
unfolding execute_of
returns-in-274 c =
    registers c.args.regs.now c.args.memory.now c.args.log.now c.args.k c.args.step c.args.h (search rules)
    (λ fits. is_high _ fits 0 2 (lit< tt) (lit< tt) c.in-274.is) refl c.add_high-in-274.ensures
    c.completed-in-274.ensures

pub returns-in-275 : goal.returns-in-275
unfolding execute_of
returns-in-275 c =
    registers c.args.regs.now c.args.memory.now c.args.log.now c.args.k c.args.step c.args.h (search rules)
    (λ fits. is_high _ fits 0 3 (lit< tt) (lit< tt) c.in-275.is) refl c.add_high-in-275.ensures
    c.completed-in-275.ensures

pub returns-in-277 : goal.returns-in-277
unfolding execute_of
returns-in-277 c =
    registers c.args.regs.now c.args.memory.now c.args.log.now c.args.k c.args.step c.args.h (search rules)
    (λ fits. is_cmp _ fits 1 (lit< tt) (lit< tt) c.in-277.is) refl c.cmp_high.ensures c.completed-in-277.ensures

pub returns-in-278 : goal.returns-in-278
unfolding execute_of
returns-in-278 c =
    registers c.args.regs.now c.args.memory.now c.args.log.now c.args.k c.args.step c.args.h (search rules)
    (λ fits. is_cmp _ fits 2 (lit< tt) (lit< tt) c.in-278.is) refl c.cmp_high-in-278.ensures c.completed-in-278.ensures

pub returns-in-279 : goal.returns-in-279
unfolding execute_of
returns-in-279 c =
    registers c.args.regs.now c.args.memory.now c.args.log.now c.args.k c.args.step c.args.h (search rules)
    (λ fits. is_cmp _ fits 3 (lit< tt) (lit< tt) c.in-279.is) refl c.cmp_high-in-279.ensures c.completed-in-279.ensures

pub returns-in-280 : goal.returns-in-280
unfolding execute_of
returns-in-280 c =
    registers c.args.regs.now c.args.memory.now c.args.log.now c.args.k c.args.step c.args.h (search rules)
    (λ fits. is_low_mov _ fits c.in-280.is) refl c.mov_low.ensures c.completed-in-280.ensures

pub returns-in-281 : goal.returns-in-281
unfolding execute_of
returns-in-281 c =
    registers c.args.regs.now c.args.memory.now c.args.log.now c.args.k c.args.step c.args.h (search rules)
    (λ fits. is_high _ fits 2 1 (lit< tt) (lit< tt) c.in-281.is) refl c.mov_high.ensures c.completed-in-281.ensures

pub returns-in-282 : goal.returns-in-282
unfolding execute_of
returns-in-282 c =
    registers c.args.regs.now c.args.memory.now c.args.log.now c.args.k c.args.step c.args.h (search rules)
    (λ fits. is_high _ fits 2 2 (lit< tt) (lit< tt) c.in-282.is) refl c.mov_high-in-282.ensures
    c.completed-in-282.ensures

pub returns-in-283 : goal.returns-in-283
unfolding execute_of
returns-in-283 c =
    registers c.args.regs.now c.args.memory.now c.args.log.now c.args.k c.args.step c.args.h (search rules)
    (λ fits. is_high _ fits 2 3 (lit< tt) (lit< tt) c.in-283.is) refl c.mov_high-in-283.ensures
    c.completed-in-283.ensures

pub returns-in_default : goal.returns-in_default
returns-in_default c =
    leads_as (held c.args.regs.now c.args.k) c.args.memory.now c.args.log.now c.args.step
    (is_other c.args.h (search rules) (c.args.h / 64) refl (λ p. omega (arith, p)) (λ p. omega (arith, p))
    (λ p. omega (arith, p)))
    c.execute_other.ensures
