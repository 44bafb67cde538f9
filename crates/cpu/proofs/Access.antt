-- Loads and stores, and how any instruction ends: what their parts put together.
use Rattle.std.proofs.Common.{◌≡◌, ℕ, ◌+◌, ◌*◌, ◌%◌, List, get_or, set, refl, ap, ◌∙◌, eq-eqb, ne_eqb}
use Rattle.units.specs.Address.{wrap}
use Rattle.units.specs.Field.{field}
use Rattle.units.specs.Bytes.{byte_at, halfword_at, with_byte, with_halfword}
use Rattle.alu.specs.declared.control.Control.{Control}
use Rattle.cpu.specs.declared.held.Executed.{Executed}
use Rattle.cpu.specs.declared.machine.Machine.{Machine}
use Rattle.cpu.specs.declared.outcome.Outcome.{Outcome}
use Rattle.cpu.specs.declared.outcome.Outcome.TheVariants.{Completed, Stopped}
use Rattle.cpu.specs.declared.outcome.Stop.{Stop}
use Rattle.cpu.specs.declared.outcome.Stop.TheVariants.{Misaligned}
use Rattle.cpu.specs.Machine.{advanced, written, with_note}
use Rattle.isa.specs.declared.instruction.Instruction.{Instruction}
use Rattle.isa.specs.declared.instruction.Instruction.TheVariants.{Str, Ldr, Strb, Ldrb}
use Rattle.traffic.specs.declared.data.Traffic.TheVariants.{ReadByte, ReadHalfword, WroteByte, WroteHalfword}
use Rattle.traffic.specs.declared.log.Log.{Log}
use Rattle.traffic.specs.Log.{with_access}
use Rattle.cpu.specs.Step.{step_result, stopped, execute_of, ldr_of, ldrb_of, str_of, strb_of}
use Rattle.alu.specs.Control.{flags_in, moved}
use Rattle.cpu.specs.Held.{held, bare, told_of, Whole, Leads}
use Rattle.cpu.proofs.Ends.{lows, goes}

-- a control, and an ending beside it
abbrev pub Gave : Executed → Control → Outcome → Type 0
Gave e k outcome = (e.control ≡ k) × (e.outcome ≡ outcome)

-- a machine that is held, an ending beside it, and a log
pub leads : (regs memory : List ℕ) (log : Log) {e : Executed} {k : Control} {outcome : Outcome} {m : Machine}
    → Gave e k outcome → held regs k ≡ m
    → Leads regs e memory log (record { result = step_result m memory outcome; log = log })
leads regs memory log {outcome = outcome} gave holds =
    record {
      result = rw (gave.0, gave.1) (ap (λ (n : Machine). step_result (with_note 0 n) memory outcome) holds);
      logs = refl;
    }

-- nothing has changed
pub stays : (regs memory : List ℕ) (log : Log) {e : Executed} {k : Control} {why : Stop} → Gave e k (Stopped why)
    → Leads regs e memory log (record { result = stopped why (held regs k) memory; log = log })
stays regs memory log gave = leads regs memory log gave refl

-- a load or store that a halfword tells, with its fields: the distance, the base register and the other one
module _ (regs memory : List ℕ) (log : Log) (k : Control) (step h : ℕ) where
  -- the base register is as the array has it
  base_is : get_or (set regs 15 k.pc) (field h 3 3) 0 ≡ get_or regs (field h 3 3) 0
  base_is = (lows regs k.pc h).0

  -- what a step leads to that executes an instruction with these fields
  abbrev Does : (ℕ → ℕ → ℕ → Instruction) → List ℕ → Executed → List ℕ → Log → Type 0
  Does i regs' e memory' log' =
      Leads regs' e memory' log' (told_of (i (field h 6 5) (field h 3 3) (field h 0 3)) (held regs k) memory step log)

  -- what a load has written, by the number of its register and what it found
  abbrev Wrote : List ℕ → Control → ℕ → ℕ → Type 0
  Wrote regs' k' rd x = held regs' k' ≡ bare (written (set regs 15 k.pc) rd x) (flags_in k)

  wrote_as : (regs' : List ℕ) (k' : Control) {rd x y : ℕ} → rd ≡ field h 0 3 → x ≡ y → Wrote regs' k' rd x
      → Wrote regs' k' (field h 0 3) y
  wrote_as regs' k' is found holds = rw (← is, ← found) holds

  -- a store leaves the registers as they are, and the PC moves on
  stored : {k' : Control} → Whole regs → k' ≡ moved (wrap (k.pc + 2)) k
      → held regs k' ≡ bare (advanced (set regs 15 k.pc)) (flags_in k)
  stored whole is = goes regs k whole is (refl, refl)

  -- and takes what the array has
  value_is : {rd : ℕ} → rd ≡ field h 0 3 → get_or (set regs 15 k.pc) (field h 0 3) 0 ≡ get_or regs rd 0
  value_is is = (lows regs k.pc h).1 ∙ rw is

  module _ {n : ℕ} (distance : n ≡ field h 6 5) where
    module _ {a : ℕ} (address : a ≡ wrap (get_or regs (field h 3 3) 0 + 4 * n)) where
      pub ldr_stops : {e : Executed} → (a % 4 ≡ 0 → ⊥) → Gave e k (Stopped Misaligned) → Does Ldr regs e memory log
      unfolding execute_of ldr_of
      ldr_stops odd gave =
          simp (base_is, ← distance, ← address, ne_eqb (a % 4) 0 odd) (stays regs memory log gave)

      pub str_stops : {e : Executed} → (a % 4 ≡ 0 → ⊥) → Gave e k (Stopped Misaligned) → Does Str regs e memory log
      unfolding execute_of str_of
      str_stops odd gave =
          simp (base_is, ← distance, ← address, ne_eqb (a % 4) 0 odd) (stays regs memory log gave)

      pub ldr_completes : a % 4 ≡ 0 → {rd x : ℕ} → rd ≡ field h 0 3 → x ≡ halfword_at memory a
          → {e : Executed} {regs' : List ℕ} {log' : Log} {k' : Control}
          → log' ≡ with_access step (ReadHalfword (record { 0 = a })) → Wrote regs' k' rd x → Gave e k' Completed
          → Does Ldr regs' e memory log'
      unfolding execute_of ldr_of
      ldr_completes even is found {regs' = regs'} {log' = log'} {k' = k'} logs wrote gave =
          simp (base_is, ← distance, ← address, eq-eqb (a % 4) 0 even, ← logs)
          (leads regs' memory log' gave (wrote_as regs' k' is found wrote))

      pub str_completes : Whole regs → a % 4 ≡ 0 → {rd : ℕ} → rd ≡ field h 0 3
          → {e : Executed} {memory' : List ℕ} {log' : Log} {k' : Control}
          → memory' ≡ with_halfword memory a (get_or regs rd 0)
          → log' ≡ with_access step (WroteHalfword (record { 0 = a })) → k' ≡ moved (wrap (k.pc + 2)) k
          → Gave e k' Completed → Does Str regs e memory' log'
      unfolding execute_of str_of
      str_completes whole even is {memory' = memory'} {log' = log'} puts logs moves gave =
          simp (base_is, value_is is, ← distance, ← address, eq-eqb (a % 4) 0 even, ← puts, ← logs)
          (leads regs memory' log' gave (stored whole moves))

    module _ {a : ℕ} (address : a ≡ wrap (get_or regs (field h 3 3) 0 + n)) where
      pub ldrb_completes : {rd x : ℕ} → rd ≡ field h 0 3 → x ≡ byte_at memory a
          → {e : Executed} {regs' : List ℕ} {log' : Log} {k' : Control}
          → log' ≡ with_access step (ReadByte (record { 0 = a })) → Wrote regs' k' rd x → Gave e k' Completed
          → Does Ldrb regs' e memory log'
      unfolding execute_of ldrb_of
      ldrb_completes is found {regs' = regs'} {log' = log'} {k' = k'} logs wrote gave =
          simp (base_is, ← distance, ← address, ← logs)
          (leads regs' memory log' gave (wrote_as regs' k' is found wrote))

      pub strb_completes : Whole regs → {rd : ℕ} → rd ≡ field h 0 3
          → {e : Executed} {memory' : List ℕ} {log' : Log} {k' : Control}
          → memory' ≡ with_byte memory a (get_or regs rd 0)
          → log' ≡ with_access step (WroteByte (record { 0 = a })) → k' ≡ moved (wrap (k.pc + 2)) k
          → Gave e k' Completed → Does Strb regs e memory' log'
      unfolding execute_of strb_of
      strb_completes whole is {memory' = memory'} {log' = log'} puts logs moves gave =
          simp (base_is, value_is is, ← distance, ← address, ← puts, ← logs)
          (leads regs memory' log' gave (stored whole moves))
