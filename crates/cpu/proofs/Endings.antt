-- How a step may end: it completes, it sets the note at HALT, or it leaves everything as it was.
use Rattle.std.proofs.Common.{◌≡◌, ℕ, ◌*◌, ◌%◌, Bool, true, false, cond, eqb, ◌⊎◌, List, length, sym, refl, ap, ◌∙◌}
use Rattle.std.proofs.Common.{inl, inr, ⊎_elim, arith}
use Rattle.std.specs.Prelude.{Option, Some, None}
use Rattle.units.specs.Address.{memory_bytes}
use Rattle.units.specs.Bytes.{halfword_at, with_halfword}
use Rattle.units.proofs.Cases.{clash}
use Rattle.refusals.specs.declared.check.Check.TheVariants as check
use Rattle.refusals.specs.Refusal.{refusal}
use Rattle.refusals.specs.declared.refusal.Refusal.{Refusal}
use Rattle.isa.specs.declared.instruction.Instruction.{Instruction}
use Rattle.isa.specs.declared.instruction.Instruction.TheVariants.{MovImm, CmpImm, And, Eor, Asr, Tst, Neg, Cmp}
use Rattle.isa.specs.declared.instruction.Instruction.TheVariants.{AddHigh, CmpHigh, MovHigh, Str, Ldr, Strb, Ldrb}
use Rattle.isa.specs.declared.instruction.Instruction.TheVariants.{AddPc, Branch, Halt}
use Rattle.isa.proofs.Halts.{halt_own}
use Rattle.cpu.specs.declared.machine.Machine.{Machine}
use Rattle.cpu.specs.declared.outcome.Outcome.TheVariants.{Completed, Halted, Stopped, Refused}
use Rattle.cpu.specs.declared.outcome.Stop.{Stop}
use Rattle.cpu.specs.declared.outcome.Stop.TheVariants as stop
use Rattle.cpu.specs.Machine.{pc, flags, updated, with_note, advanced, written, reg}
use Rattle.cpu.specs.Step.{StepResult, step_result, completed, stopped, effective_address, aligned, ldr_of, str_of}
use Rattle.cpu.specs.Step.{strb_of, execute_of, execute_decoded, fetched, low_byte, fetch_and_execute, step_of}

-- what holds of both arms of a test holds of the test's
pub cond_keeps : {A : Type 0} (Q : A → Type 0) (test : Bool) (x y : A) → Q x → Q y → Q (cond test x y)
cond_keeps Q true x y p q = p
cond_keeps Q false x y p q = q

-- endings differ
pub halted_not_completed : Halted ≡ Completed → ⊥
halted_not_completed e = clash (cc)

pub stopped_not_completed : (why : Stop) → Stopped why ≡ Completed → ⊥
stopped_not_completed why e = clash (cc)

pub refused_not_completed : (q : Refusal) → Refused q ≡ Completed → ⊥
refused_not_completed q e = clash (cc)

pub stopped_not_halted : (why : Stop) → Stopped why ≡ Halted → ⊥
stopped_not_halted why e = clash (cc)

pub refused_not_halted : (q : Refusal) → Refused q ≡ Halted → ⊥
refused_not_halted q e = clash (cc)

-- a step ends by HALT with that note, or it changes nothing and ends otherwise
abbrev pub Halts : ℕ → Machine → List ℕ → StepResult → Type 0
Halts note m memory r = r ≡ step_result (with_note note m) memory Halted

abbrev pub Stays : Machine → List ℕ → StepResult → Type 0
Stays m memory r = (r.state ≡ record { machine = m; memory = memory }) × (r.outcome ≡ Halted → ⊥)

abbrev pub Ending : ℕ → Machine → List ℕ → StepResult → Type 0
Ending note m memory r = (r.outcome ≡ Completed) ⊎ (Halts note m memory r ⊎ Stays m memory r)

execute_whole : (note : ℕ) (i : Instruction) (m : Machine) (memory : List ℕ) → ((own : ℕ) → i ≡ Halt own → own ≡ note)
    → Ending note m memory (execute_of i m memory)
unfolding execute_of str_of ldr_of strb_of
execute_whole note (MovImm rd imm) m memory own = inl refl
execute_whole note (CmpImm rd imm) m memory own = inl refl
execute_whole note (And rs rd) m memory own = inl refl
execute_whole note (Eor rs rd) m memory own = inl refl
execute_whole note (Asr rs rd) m memory own = inl refl
execute_whole note (Tst rs rd) m memory own = inl refl
execute_whole note (Neg rs rd) m memory own = inl refl
execute_whole note (Cmp rs rd) m memory own = inl refl
execute_whole note (AddHigh rs rd) m memory own = inl refl
execute_whole note (CmpHigh rs rd) m memory own = inl refl
execute_whole note (MovHigh rs rd) m memory own = inl refl
execute_whole note (Str offset rb rd) m memory own =
    cond_keeps (Ending note m memory) (aligned (effective_address m rb (4 * offset)))
    (completed (updated m (advanced m.regs) (flags m))
    (with_halfword memory (effective_address m rb (4 * offset)) (reg m rd)))
    (stopped stop.Misaligned m memory) (inl refl) (inr (inr (refl, stopped_not_halted stop.Misaligned)))
execute_whole note (Ldr offset rb rd) m memory own =
    cond_keeps (Ending note m memory) (aligned (effective_address m rb (4 * offset)))
    (completed
    (updated m (written m.regs rd (halfword_at memory (effective_address m rb (4 * offset)))) (flags m)) memory)
    (stopped stop.Misaligned m memory) (inl refl) (inr (inr (refl, stopped_not_halted stop.Misaligned)))
execute_whole note (Strb offset rb rd) m memory own = inl refl
execute_whole note (Ldrb offset rb rd) m memory own = inl refl
execute_whole note (AddPc rd imm) m memory own = inl refl
execute_whole note (Branch condition offset) m memory own = inl refl
execute_whole note (Halt own) m memory is =
    inr (inl (ap (λ (n : ℕ). step_result (with_note n m) memory Halted) (is own refl)))

module _ (m : Machine) (memory : List ℕ) where
  abbrev low : ℕ
  low = low_byte (record { machine = m; memory = memory })

  decoded_whole : (d : Option Instruction) → fetched m memory ≡ d → Ending low m memory (execute_decoded d m memory)
  unfolding fetched
  decoded_whole (Some i) e =
      execute_whole low i m memory
      (λ own is. let halt = halt_own (halfword_at memory (pc m)) own (e ∙ ap Some is) in omega (arith, halt))
  decoded_whole None e = inr (inr (refl, stopped_not_halted stop.Undefined))

  pub how_ends : Ending low m memory (step_of m memory)
  unfolding step_of fetch_and_execute
  how_ends =
      cond_keeps (Ending low m memory) (eqb (length memory) memory_bytes)
      (fetch_and_execute m memory) (step_result m memory (Refused (refusal check.MemorySize)))
      (cond_keeps (Ending low m memory) (eqb (pc m % 2) 0)
      (execute_decoded (fetched m memory) m memory) (stopped stop.OddPc m memory)
      (decoded_whole (fetched m memory) refl) (inr (inr (refl, stopped_not_halted stop.OddPc))))
      (inr (inr (refl, refused_not_halted (refusal check.MemorySize))))

  -- a step that ends by HALT has set the note, and nothing else
  pub halted_step : (step_of m memory).outcome ≡ Halted → Halts low m memory (step_of m memory)
  halted_step e =
      ⊎_elim (λ c. absurd (halted_not_completed (sym e ∙ c))) (⊎_elim (λ halts. halts) (λ stays. absurd (stays.1 e)))
      how_ends
