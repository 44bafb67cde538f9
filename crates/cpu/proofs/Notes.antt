-- No instruction looks at the note. A step from another note ends as it did, with the same registers, flags and memory,
-- and the note is that other one unless HALT has left its own.
use Rattle.std.proofs.Common.{◌≡◌, ℕ, ◌*◌, ◌%◌, Bool, true, false, cond, eqb, List, length, sym, refl, ap, ◌∙◌, ap₂}
use Rattle.std.specs.Prelude.{Option, Some, None}
use Rattle.units.specs.Address.{memory_bytes}
use Rattle.isa.specs.declared.instruction.Instruction.{Instruction}
use Rattle.isa.specs.declared.instruction.Instruction.TheVariants.{MovImm, CmpImm, And, Eor, Asr, Tst, Neg, Cmp}
use Rattle.isa.specs.declared.instruction.Instruction.TheVariants.{AddHigh, CmpHigh, MovHigh, Str, Ldr, Strb, Ldrb}
use Rattle.isa.specs.declared.instruction.Instruction.TheVariants.{AddPc, Branch, Halt}
use Rattle.cpu.specs.declared.machine.Machine.{Machine}
use Rattle.cpu.specs.declared.outcome.Outcome.{Outcome}
use Rattle.cpu.specs.declared.outcome.Outcome.TheVariants.{Completed, Halted, Stopped, Refused}
use Rattle.cpu.specs.Machine.{with_note, pc}
use Rattle.cpu.specs.Held.{unnoted}
use Rattle.cpu.specs.Traffic.{decoded_traffic, when_completed, step_traffic}
use Rattle.cpu.specs.Step.{State, StepResult, step_result, effective_address, aligned, execute_of, execute_decoded}
use Rattle.cpu.specs.Step.{fetched, fetch_and_execute, step_of, mov_imm_of, cmp_imm_of, and_of, eor_of, asr_of, tst_of}
use Rattle.cpu.specs.Step.{neg_of, cmp_of, add_high_of, cmp_high_of, mov_high_of, str_of, ldr_of, strb_of, ldrb_of}
use Rattle.cpu.specs.Step.{add_pc_of}
use Rattle.cpu.specs.Step.{branch_of}

-- HALT's own note stays
abbrev pub keeping : Outcome → ℕ → Machine → Machine
keeping Completed n m = with_note n m
keeping Halted n m = m
keeping (Stopped why) n m = with_note n m
keeping (Refused r) n m = with_note n m

-- a step's result with that note
abbrev pub relabelled : ℕ → StepResult → StepResult
relabelled n r = step_result (keeping r.outcome n r.state.machine) r.state.memory r.outcome

either : (test : Bool) (n : ℕ) (x y x' y' : StepResult) → x' ≡ relabelled n x → y' ≡ relabelled n y
    → cond test x' y' ≡ relabelled n (cond test x y)
either true n x y x' y' p q = p
either false n x y x' y' p q = q

module _ (n : ℕ) (m : Machine) (memory : List ℕ) where
  execute_note : (i : Instruction) → execute_of i (with_note n m) memory ≡ relabelled n (execute_of i m memory)
  unfolding execute_of mov_imm_of cmp_imm_of and_of eor_of asr_of tst_of neg_of cmp_of add_high_of cmp_high_of
      mov_high_of str_of ldr_of
      strb_of ldrb_of add_pc_of branch_of
  execute_note (MovImm rd imm) = refl
  execute_note (CmpImm rd imm) = refl
  execute_note (And rs rd) = refl
  execute_note (Eor rs rd) = refl
  execute_note (Asr rs rd) = refl
  execute_note (Tst rs rd) = refl
  execute_note (Neg rs rd) = refl
  execute_note (Cmp rs rd) = refl
  execute_note (AddHigh rs rd) = refl
  execute_note (CmpHigh rs rd) = refl
  execute_note (MovHigh rs rd) = refl
  execute_note (Str offset rb rd) = either (aligned (effective_address m rb (4 * offset))) n _ _ _ _ refl refl
  execute_note (Ldr offset rb rd) = either (aligned (effective_address m rb (4 * offset))) n _ _ _ _ refl refl
  execute_note (Strb offset rb rd) = refl
  execute_note (Ldrb offset rb rd) = refl
  execute_note (AddPc rd imm) = refl
  execute_note (Branch condition offset) = refl
  execute_note (Halt note) = refl

  decoded_note : (d : Option Instruction)
      → execute_decoded d (with_note n m) memory ≡ relabelled n (execute_decoded d m memory)
  decoded_note (Some i) = execute_note i
  decoded_note None = refl

  pub step_note : step_of (with_note n m) memory ≡ relabelled n (step_of m memory)
  unfolding step_of fetch_and_execute fetched
  step_note =
      either (eqb (length memory) memory_bytes) n _ _ _ _
      (either (eqb (pc m % 2) 0) n _ _ _ _ (decoded_note (fetched m memory)) refl) refl

-- nor does it count in what is touched
pub traffic_note : (n : ℕ) (m : Machine) (memory : List ℕ) → step_traffic (with_note n m) memory ≡ step_traffic m memory
unfolding step_traffic fetched
traffic_note n m memory =
    ap₂ when_completed (ap (λ (r : StepResult). r.outcome) (step_note n m memory)) (decoded (fetched m memory))
  where
    decoded : (d : Option Instruction) → decoded_traffic d (with_note n m) ≡ decoded_traffic d m
    decoded (Some i) = refl
    decoded None = refl

-- so a machine with note 0 keeps that unless HALT sets it
pub bare_step : (m : Machine) (memory : List ℕ) → ((step_of (with_note 0 m) memory).outcome ≡ Halted → ⊥)
    → step_of (with_note 0 m) memory ≡ unnoted (step_of (with_note 0 m) memory)
bare_step m memory other =
    let labelled = step_note 0 m memory in
    let ended : (step_of m memory).outcome ≡ Halted
    → ⊥ = λ e. other (ap (λ (r : StepResult). r.outcome) labelled ∙ e) in
    labelled ∙ (kept (step_of m memory).outcome (step_of m memory).state ended ∙ ap unnoted (sym labelled))
  where
    kept : (o : Outcome) (s : State) → (o ≡ Halted → ⊥)
        → step_result (keeping o 0 s.machine) s.memory o
        ≡ unnoted (step_result (keeping o 0 s.machine) s.memory o)
    kept Completed s other = refl
    kept Halted s other = absurd (other refl)
    kept (Stopped why) s other = refl
    kept (Refused r) s other = refl
