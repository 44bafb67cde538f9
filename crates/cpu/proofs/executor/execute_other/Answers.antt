-- The top five bits tell the format, and with it the other fields that decoding looks at.
use Rattle.std.proofs.Common.{◌≡◌, ℕ, ◌/◌, ◌<◌, false, eqb, List, sym, refl, ◌∙◌, arith, lit<, rules}
use Rattle.std.specs.Prelude.{Option}
use Rattle.units.specs.Field.{field}
use Rattle.isa.specs.Decode.{decode_of}
use Rattle.isa.proofs.Formats.{is_halt, is_imm, is_memory, is_add_pc}
use Rattle.alu.specs.declared.control.Control.{Control}
use Rattle.cpu.specs.declared.held.Executed.{Executed}
use Rattle.cpu.specs.declared.machine.Machine.{Machine}
use Rattle.cpu.specs.declared.outcome.Outcome.TheVariants.{Completed}
use Rattle.traffic.specs.declared.log.Log.{Log}
use Rattle.cpu.specs.Step.{execute_of}
use Rattle.cpu.specs.Held.{held, Told, told_decoded, Leads, other_else}
use Rattle.cpu.proofs.Access.{Gave}
use Rattle.cpu.proofs.Dispatch.{as_decoded, is_branch_or_none}
use Rattle.cpu.proofs.Formats.{quiet, leads_as, arm}
use Rattle.cpu.proofs.executor.execute_other.Goals as goal
use Rattle.isa.specs.declared.instruction.Instruction.{Instruction}

module _ (regs memory : List ℕ) (log : Log) (k : Control) (step h : ℕ) where
  -- what a halfword of this meaning would do
  abbrev done : Option Instruction → Told
  done d = told_decoded d (held regs k) memory step log

  module _ (fits : h < 65536) {x : ℕ} (told : x ≡ field h 11 5) (n : ℕ) (is : x ≡ n) (other : eqb (n / 4) 2 ≡ false)
    where
      -- what the top five bits tell, where they are no operation's on registers
      means : {known : Option Instruction} → (h < 65536 → field h 11 5 ≡ n → decode_of h ≡ known) → other_else h ≡ known
      means decoded = as_decoded h n (sym told ∙ is) other ∙ decoded fits (sym told ∙ is)

      -- an instruction on registers, one on memory, and what leaves both alone
      registers : {known : Option Instruction} {regs' : List ℕ} {e : Executed} {k' : Control} {m : Machine}
          → (h < 65536 → field h 11 5 ≡ n → decode_of h ≡ known) → done known ≡ quiet m memory log → held regs' k' ≡ m
          → Gave e k' Completed → Leads regs' e memory log (done (other_else h))
      registers decoded does holds gave = arm (held regs k) memory log step (means decoded) does gave holds

      accesses : {known : Option Instruction} {regs' memory' : List ℕ} {log' : Log} {e : Executed}
          → (h < 65536 → field h 11 5 ≡ n → decode_of h ≡ known) → Leads regs' e memory' log' (done known)
          → Leads regs' e memory' log' (done (other_else h))
      accesses decoded leads = leads_as (held regs k) memory log step (means decoded) leads

pub returns-in-0 : goal.returns-in-0
returns-in-0 c =
    accesses c.args.regs.now c.args.memory.now c.args.log.now c.args.k c.args.step c.args.h
    (search rules) c.bits.ensures 0 c.in-0.is refl (is_halt _)
    (c.execute_halt.ensures c.args.regs.now c.args.memory.now c.args.log.now c.args.step c.told-regs)

pub returns-in-4 : goal.returns-in-4
unfolding execute_of
returns-in-4 c =
    registers c.args.regs.now c.args.memory.now c.args.log.now c.args.k c.args.step c.args.h
    (search rules) c.bits.ensures 4 c.in-4.is refl (λ fits. is_imm _ fits 0 (lit< tt))
    refl c.mov_imm.ensures c.completed.ensures

pub returns-in-5 : goal.returns-in-5
unfolding execute_of
returns-in-5 c =
    registers c.args.regs.now c.args.memory.now c.args.log.now c.args.k c.args.step c.args.h
    (search rules) c.bits.ensures 5 c.in-5.is refl (λ fits. is_imm _ fits 1 (lit< tt))
    refl c.cmp_imm.ensures c.completed-in-5.ensures

pub returns-in-12 : goal.returns-in-12
unfolding execute_of
returns-in-12 c =
    accesses c.args.regs.now c.args.memory.now c.args.log.now c.args.k c.args.step c.args.h
    (search rules) c.bits.ensures 12 c.in-12.is refl (λ fits. is_memory _ fits 0 (lit< tt))
    c.str.ensures

pub returns-in-13 : goal.returns-in-13
unfolding execute_of
returns-in-13 c =
    accesses c.args.regs.now c.args.memory.now c.args.log.now c.args.k c.args.step c.args.h
    (search rules) c.bits.ensures 13 c.in-13.is refl (λ fits. is_memory _ fits 1 (lit< tt))
    c.ldr.ensures

pub returns-in-14 : goal.returns-in-14
unfolding execute_of
returns-in-14 c =
    accesses c.args.regs.now c.args.memory.now c.args.log.now c.args.k c.args.step c.args.h
    (search rules) c.bits.ensures 14 c.in-14.is refl (λ fits. is_memory _ fits 2 (lit< tt))
    c.strb.ensures

pub returns-in-15 : goal.returns-in-15
unfolding execute_of
returns-in-15 c =
    accesses c.args.regs.now c.args.memory.now c.args.log.now c.args.k c.args.step c.args.h
    (search rules) c.bits.ensures 15 c.in-15.is refl (λ fits. is_memory _ fits 3 (lit< tt))
    c.ldrb.ensures

pub returns-in-20 : goal.returns-in-20
unfolding execute_of
returns-in-20 c =
    registers c.args.regs.now c.args.memory.now c.args.log.now c.args.k c.args.step c.args.h
    (search rules) c.bits.ensures 20 c.in-20.is refl (is_add_pc _)
    refl c.add_pc.ensures c.completed-in-20.ensures

pub returns-in_default : goal.returns-in_default
returns-in_default c =
    leads_as (held c.args.regs.now c.args.k) c.args.memory.now c.args.log.now c.args.step
    (is_branch_or_none c.args.h (search rules) c.bits.result c.bits.ensures
    (λ e. omega (arith, e)) (λ e. omega (arith, e)) (λ e. omega (arith, e)) (λ e. omega (arith, e))
    (λ e. omega (arith, e)) (λ e. omega (arith, e)) (λ e. omega (arith, e)) (λ e. omega (arith, e)))
    (c.execute_branch.ensures c.args.regs.now c.args.memory.now c.args.log.now c.args.step c.told-regs)
