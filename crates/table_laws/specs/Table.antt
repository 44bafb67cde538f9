-- The starred rows of the bench table, in its order.
use Rattle.std.specs.Prelude.{Bool, true, false, List, [], ◌∷◌, ◌++◌, ◌≡◌, ℕ, ◌%◌, length, replicate}
use Rattle.refusals.specs.declared.check.Check.TheVariants as check
use Rattle.refusals.specs.Refusal.{refusal_at}
use Rattle.units.specs.Address.{memory_bytes}
use Rattle.units.specs.Bytes.{halfword_at}
use Rattle.isa.specs.Decode.{decode_of}
use Rattle.isa.specs.declared.instruction.Instruction.TheVariants.{CmpHigh, Halt}
use Rattle.alu.specs.Flags.{Flags}
use Rattle.cpu.specs.Machine.{pc, machine, with_note}
use Rattle.cpu.specs.Step.{StepResult, step_result, completed, stopped, step_of}
use Rattle.cpu.specs.declared.machine.Machine.{Machine}
use Rattle.cpu.specs.declared.outcome.Outcome.TheVariants.{Halted}
use Rattle.cpu.specs.declared.outcome.Stop.TheVariants.{Undefined}
use Rattle.packer.specs.Pack.{image_of}
use Rattle.verifier.specs.Verify.{verify_of}
use Rattle.std.specs.Prelude.{Some, None, Ok, Err}

-- a machine with R0, R1, the PC, the flags and the note given, and zeros elsewhere
abbrev pub machine_with : ℕ → ℕ → ℕ → Flags → ℕ → Machine
machine_with r0 r1 at f note = machine (r0 ∷ r1 ∷ (replicate 13 0 ++ (at ∷ []))) f note

abbrev pub nzcv : Bool → Bool → Bool → Bool → Flags
nzcv n z c v = record { n = n; z = z; c = c; v = v }

-- a memory in which the PC stands on the halfword h; its other bytes are any
pub record StandsOn (h : ℕ) (m : Machine) (memory : List ℕ) : Type 0 where
  pub size : length memory ≡ memory_bytes
  pub there : halfword_at memory (pc m) ≡ h

-- a step on h completes, makes one machine of the other, and leaves memory alone
abbrev pub Gives : ℕ → Machine → Machine → Type 0
Gives h before after = (memory : List ℕ) → StandsOn h before memory → step_of before memory ≡ completed after memory

-- what a step on h does, whatever the machine
abbrev pub Does : ℕ → (Machine → List ℕ → StepResult) → Type 0
Does h result = (m : Machine) (memory : List ℕ) → pc m % 2 ≡ 0 → StandsOn h m memory → step_of m memory
    ≡ result m memory

-- h is HALT with a note (Change 1), and a step on it sets that and changes nothing else
abbrev pub HaltsWith : ℕ → ℕ → Type 0
HaltsWith h note = (decode_of h ≡ Some (Halt note))
    × Does h (λ m memory. step_result (with_note note m) memory Halted)

-- h is no instruction, and a step on it is stop 19, which changes nothing
abbrev pub NoInstruction : ℕ → Type 0
NoInstruction h = (decode_of h ≡ None) × Does h (stopped Undefined)

-- the code P, whose first halfword is given
abbrev pub code_p : ℕ → List ℕ
code_p first = first ∷ 0x4008 ∷ 0x2280 ∷ 0x4412 ∷ 0x4410 ∷ 0x6001 ∷ 0x0000 ∷ []

-- the instructions' rows hold with any flags and any note before, and the note stays: NEG R0, R1 is 0x4108, CMP R0,
-- #1 is 0x2801, ADD R0, R1 is 0x4408, ASR R0, R1 is 0x4088
pub record StarredRows : Type 0 where
  pub row_0000 : HaltsWith 0x0000 0
  pub row_0001 : HaltsWith 0x0001 1
  pub row_4500 : NoInstruction 0x4500
  pub row_4540 : decode_of 0x4540 ≡ Some (CmpHigh 8 0)
  pub row_DE00 : NoInstruction 0xDE00
  pub neg_8000 : (f : Flags) (note : ℕ) → Gives 0x4108 (machine_with 0 0x8000 0 f note)
      (machine_with 0x8000 0x8000 2 (nzcv true false false true) note)
  pub neg_0 : (f : Flags) (note : ℕ) → Gives 0x4108 (machine_with 5 0 0 f note)
      (machine_with 0 0 2 (nzcv false true true false) note)
  pub cmp_8000_1 : (f : Flags) (note : ℕ) → Gives 0x2801 (machine_with 0x8000 0 0 f note)
      (machine_with 0x8000 0 2 (nzcv false false true true) note)
  pub add_FFFF_1 : (f : Flags) (note : ℕ) → Gives 0x4408 (machine_with 0xFFFF 1 0 f note)
      (machine_with 0 1 2 (nzcv false true true false) note)
  pub asr_by_16 : (f : Flags) (note : ℕ) → Gives 0x4088 (machine_with 0x8000 16 0 f note)
      (machine_with 0xFFFF 16 2 (nzcv true false true f.v) note)
  pub asr_by_0100 : (f : Flags) (note : ℕ) → Gives 0x4088 (machine_with 0x8000 0x0100 0 f note)
      (machine_with 0x8000 0x0100 2 (nzcv true false f.c f.v) note)
  pub row_A001 : (f : Flags) (note : ℕ) → Gives 0xA001 (machine_with 0 0 6 f note) (machine_with 8 0 8 f note)
  pub p_256 : verify_of (image_of (code_p 0x21FC) 256 256)
      ≡ Ok (record { code_bytes = 14; window_start = 256; window_length = 256 })
  pub p_252 : verify_of (image_of (code_p 0x21FC) 256 252) ≡ Err (refusal_at check.Access (record { 0 = 10 }))
  pub p_21FD : verify_of (image_of (code_p 0x21FD) 256 256) ≡ Err (refusal_at check.Alignment (record { 0 = 10 }))
