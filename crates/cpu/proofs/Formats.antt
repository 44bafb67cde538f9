-- How the function of a halfword's format ends.
use Rattle.std.proofs.Common.{◌≡◌, ℕ, ◌+◌, ◌<◌, ◌≤◌, Bool, true, false, List, sym, refl, ◌∙◌, set-set, le-ltb, lt-ltb}
use Rattle.std.specs.Prelude.{Option, None}
use Rattle.units.specs.Address.{branch_target_of}
use Rattle.units.specs.Field.{field}
use Rattle.isa.specs.Decode.{halt_of}
use Rattle.alu.specs.declared.control.Control.{Control}
use Rattle.cpu.specs.declared.held.Executed.{Executed}
use Rattle.cpu.specs.declared.machine.Machine.{Machine}
use Rattle.cpu.specs.declared.outcome.Outcome.TheVariants.{Completed, Halted, Stopped}
use Rattle.cpu.specs.declared.outcome.Stop.TheVariants as stop
use Rattle.traffic.specs.declared.log.Log.{Log}
use Rattle.alu.specs.Alu.{condition_of}
use Rattle.cpu.specs.Step.{completed, branch_of as branchStep, execute_of}
use Rattle.alu.specs.Control.{flags_in}
use Rattle.cpu.specs.Held.{held, branched, Told, told_decoded, Whole, Leads, Beside, branch_else}
use Rattle.cpu.proofs.Ends.{pc_is, moved_on}
use Rattle.cpu.proofs.Access.{Gave, leads, stays}
use Rattle.cpu.proofs.Dispatch.{is_branch}
use Rattle.isa.specs.declared.instruction.Instruction.{Instruction}

-- a completed step that touched no data
abbrev pub quiet : Machine → List ℕ → Log → Told
quiet m memory log = record { result = completed m memory; log = log }

-- what a halfword does whose meaning is known
module _ (first : Machine) (memory : List ℕ) (log : Log) (step : ℕ) where
  pub leads_as : {d known : Option Instruction} {regs memory' : List ℕ} {log' : Log} {e : Executed}
      → d ≡ known
      → Leads regs e memory' log' (told_decoded known first memory step log)
      → Leads regs e memory' log' (told_decoded d first memory step log)
  leads_as is done = rw is done

  -- an instruction that leaves memory and log alone
  pub arm : {d known : Option Instruction} {regs : List ℕ} {e : Executed} {k : Control} {m : Machine} → d ≡ known
      → told_decoded known first memory step log ≡ quiet m memory log → Gave e k Completed → held regs k ≡ m
      → Leads regs e memory log (told_decoded d first memory step log)
  arm {regs = regs} is does gave holds = rw (is, does) (leads regs memory log gave holds)

-- a halfword that means nothing
pub none : (d : Option Instruction) (k : Control) (e : Executed) → d ≡ None → Gave e k (Stopped stop.Undefined)
    → Beside e k d
none d k e is gave regs memory log step whole = rw is (stays regs memory log gave)

pub halts : (h : ℕ) (k : Control) → h < 256 → Beside (record { control = k; outcome = Halted }) k (halt_of h)
unfolding execute_of
halts h k is regs memory log step whole = simp (lt-ltb h 256 is) (record { result = refl; logs = refl })

pub no_halt : (h : ℕ) (k : Control) (e : Executed) → 256 ≤ h → Gave e k (Stopped stop.Undefined)
    → Beside e k (halt_of h)
no_halt h k e other gave = none (halt_of h) k e (simp (le-ltb h 256 other)) gave

-- what a branch leaves beside the registers is what it does
pub branch_holds : (n offset : ℕ) (regs : List ℕ) (k : Control) {k' : Control} {test : Bool} → Whole regs
    → test ≡ condition_of n (flags_in k) → k' ≡ branched test offset k
    → held regs k' ≡ branchStep n offset (held regs k)
unfolding branchStep
branch_holds n offset regs k {test = test} whole asked is = rw is (go test refl)
  where
    go : (t : Bool) → test ≡ t → held regs (branched test offset k) ≡ branchStep n offset (held regs k)
    go true e =
        simp (
          e,
          sym asked ∙ e,
          pc_is regs k.pc whole,
          set-set regs 15 k.pc (branch_target_of (record { 0 = k.pc }) offset).0,
        )
    go false e = simp (e, sym asked ∙ e, moved_on regs k.pc whole)

-- a branch, by its upper byte
pub branch_arm : (h : ℕ) → h < 65536 → (n : ℕ) → n < 14 → field h 8 8 ≡ 208 + n → (k : Control)
    → {test : Bool} {k' : Control} {e : Executed} → test ≡ condition_of n (flags_in k)
    → k' ≡ branched test (field h 0 8) k → Gave e k' Completed → Beside e k (branch_else h)
unfolding execute_of
branch_arm h fits n small byte k asked is gave regs memory log step whole =
    arm (held regs k) memory log step (is_branch h fits n small byte) refl gave
    (branch_holds n (field h 0 8) regs k whole asked is)
