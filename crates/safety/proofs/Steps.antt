-- Where a step of a checked instruction leads.
use mathlib.Core.Bool.{Bool, true, false, cond, not}
use mathlib.Core.List.{List}
use mathlib.Core.Logic.{◌⊎◌, inl, inr}
use mathlib.Core.Path.{◌≡◌, refl}
use Prim.Native.Nat.{ℕ, ◌+◌, ◌-◌, ◌*◌, ◌/◌, ◌%◌, ◌^◌, ◌≤◌, ◌<◌, zero-le}
use native.Mathlib.Nat.{le_refl, le_of_suc-le-suc, zero-add}
use native.Mathlib.Omega.{arith}
use borrow.Author.Tests.{eq-eqb, eqb-false, not-true, lt-leb}
use lib.Dec.{eqb, ltb}
use lib.ListN.{length, set}
use lib.Pow.{shr_le}
use Rattle.units.specs.Address.{wrap, branch_target_of, pc_sum}
use Rattle.units.specs.declared.address.ByteAddress.{ByteAddress}
use Rattle.isa.specs.declared.instruction.Instruction.{Instruction}
use Rattle.isa.specs.declared.instruction.Instruction.TheVariants.{MovImm, CmpImm, And, Eor, Asr, Tst, Neg, Cmp}
use Rattle.isa.specs.declared.instruction.Instruction.TheVariants.{AddHigh, CmpHigh, MovHigh, Str, Ldr, Strb, Ldrb}
use Rattle.isa.specs.declared.instruction.Instruction.TheVariants.{AddPc, Branch, Halt}
use Rattle.domain.specs.declared.value.Value.{Value}
use Rattle.domain.specs.Value as domain
use Rattle.domain_laws.specs.Holds.{Holds}
use Rattle.domain_laws.proofs.Sound.{unknown_sound, exactly_sound, byte_sound, neg_sound, asr_sound, add_sound}
use Rattle.domain_laws.proofs.Sound.{and_sound, eor_sound}
use Rattle.targets.specs.Jumps.{jump_of}
use Rattle.isa.specs.Access.{access_of}
use Rattle.checks.specs.Questions.{check12}
use Rattle.checks.specs.State.{State, value, transfer_of}
use Rattle.cpu.specs.declared.machine.Machine.{Machine}
use Rattle.cpu.specs.declared.outcome.Outcome.TheVariants.{Completed}
use Rattle.alu.specs.Flags.{Flags}
use Rattle.cpu.specs.Machine.{reg, pc, flags, updated, advanced, written}
use Rattle.alu.specs.Alu.{negative, shift_of, condition_of}
use Rattle.cpu.specs.Step.{StepResult, completed, effective_address, execute_of, add_high_of, add_pc_of, and_of, asr_of}
use Rattle.cpu.specs.Step.{branch_of, cmp_imm_of, cmp_of, cmp_high_of, eor_of, ldr_of, ldrb_of, mov_imm_of}
use Rattle.cpu.specs.Step.{mov_high_of, neg_of}
use Rattle.cpu.specs.Step.{str_of, strb_of, tst_of}
use Rattle.cpu_laws.specs.Sizes.{Registers, Bytes}
use Rattle.cpu.specs.Traffic.{data_address}
use Rattle.cpu_laws.proofs.Sizes.{shift_small, halfword_small}
use Rattle.safety.proofs.Registers.{HoldsBelow, Moved, jumped, on, wrote}
use Rattle.isa_laws.proofs.Narrow.{Narrow}
use Rattle.std.specs.Prelude.{Some}

-- ---- an arithmetic shift gives no more than what it shifts where that is not negative

cond_le : (b : ℕ) (t : Bool) (x y : ℕ) → x ≤ b → y ≤ b → cond t x y ≤ b
cond_le b true x y p q = p
cond_le b false x y p q = q

shift_less : (a k : ℕ) → a ≤ 32767 → shift_of a k ≤ a
shift_less a k h =
    let n : negative a ≡ false = lt-leb 32768 a (omega arith) in
    simp n (cond_le a (eqb k 0) a _ (le_refl a) (cond_le a (ltb k 16) (a / 2 ^ k) 0 (shr_le a k) zero-le))

-- ---- one instruction

-- HALT with some note
abbrev pub IsHalt : Instruction → Type 0
IsHalt i = (note : ℕ) × (i ≡ Halt note)

-- where a machine stands
abbrev pub here : Machine → ByteAddress
here m = record { 0 = pc m }

-- the values move on as the transfer says, and the PC goes there
abbrev pub MovedTo : State → Instruction → Machine → StepResult → ℕ → Type 0
MovedTo s i m r to = Moved (transfer_of (here m) i s) r.state.machine.regs to

-- so does a branch, to where it jumps
pub record Branched (s : State) (i : Instruction) (m : Machine) (r : StepResult) : Type 0 where
  pub target : ByteAddress
  pub jumps : jump_of (here m) i ≡ Some target
  pub even : pc m % 2 ≡ 0 → target.0 % 2 ≡ 0
  pub moved : MovedTo s i m r target.0

-- a completed step leads to the next instruction, or to where it jumps
pub record Completes (s : State) (i : Instruction) (m : Machine) (r : StepResult) : Type 0 where
  pub outcome : r.outcome ≡ Completed
  pub moved : MovedTo s i m r (wrap (pc m + 2)) ⊎ Branched s i m r

module _ (s : State) (m : Machine) (memory : List ℕ) (long : length s ≡ 16)
    (sized : Registers m.regs) (holds : HoldsBelow 16 s m.regs) (bytes : Bytes memory) where
  below : HoldsBelow 15 s m.regs
  below r h = holds r (omega arith)

  at : (r : ℕ) → r < 16 → Holds (value s r) (reg m r)
  at r h = holds r h

  -- every instruction but HALT completes
  abbrev Leads : Instruction → StepResult → Type 0
  Leads i r = IsHalt i ⊎ Completes s i m r

  -- an instruction that writes x, of which v holds, into Rd
  writes : {i : Instruction} (rd x : ℕ) (v : Value) (f : Flags) → rd < 15 → Holds v x
      → transfer_of (here m) i s ≡ set s rd v → Leads i (completed (updated m (written m.regs rd x) f) memory)
  writes rd x v f hd hv e =
      inr (record { outcome = refl; moved = inl (rw e (wrote s m.regs rd x v hd long sized below hv)) })

  -- one that writes no register
  passes : {i : Instruction} (f : Flags) (after : List ℕ) → transfer_of (here m) i s ≡ s
      → Leads i (completed (updated m (advanced m.regs) f) after)
  passes f after e = inr (record { outcome = refl; moved = inl (rw e (on s m.regs sized below)) })

  -- a load or store of a halfword is aligned
  aligned_then : {A : Type 0} (a : ℕ) (x y : A) → a % 4 ≡ 0 → cond (eqb (a % 4) 0) x y ≡ x
  aligned_then a x y e = simp (eq-eqb _ _ e)

  not_pc : (rd : ℕ) → rd < 16 → not (eqb rd 15) ≡ true → rd < 15
  not_pc rd h e = let n : rd ≡ 15 → ⊥ = eqb-false rd 15 (not-true (eqb rd 15) e) in omega arith

  -- a shift leaves 16 bits, and no more than it shifts where that is not negative
  shifts : (rd k : ℕ) → rd < 16 → Holds (domain.asr_of (value s rd)) (shift_of (reg m rd) k)
  shifts rd k h =
      asr_sound _ (reg m rd) _ (at rd h) (shift_less (reg m rd) k)
      (le_of_suc-le-suc (shift_small (reg m rd) k (sized.below rd)))

  -- a branch from an even address goes to an even one
  target_even : (a offset : ℕ) → a % 2 ≡ 0 → (branch_target_of (record { 0 = a }) offset).0 % 2 ≡ 0
  target_even a offset e = go (ltb offset 128)
    where
      go : (t : Bool) → wrap (a + cond t (2 * offset) (2 * offset + 65024)) % 2 ≡ 0
      go true = omega arith
      go false = omega arith

  -- the registers after a branch that is taken or not
  abbrev after_branch : ℕ → Bool → List ℕ
  after_branch offset t = cond t (set m.regs 15 (branch_target_of (here m) offset).0) (advanced m.regs)

  branches : (condition offset : ℕ) (t : Bool)
      → Leads (Branch condition offset) (completed (updated m (after_branch offset t) (flags m)) memory)
  branches condition offset true =
      let target : ByteAddress = branch_target_of (here m) offset in
      let even = target_even (pc m) offset in
      let moved = jumped s m.regs target.0 sized below in
      inr (record {
        outcome = refl;
        moved = inr (record { target = target; jumps = refl; even = even; moved = moved });
      })
  branches condition offset false = passes (flags m) memory refl

  -- where check 12 has passed and the data are aligned
  pub step_case : (i : Instruction) → Narrow i → check12 i ≡ true
      → ((access_of i).size ≡ 2 → data_address m (access_of i) % 4 ≡ 0) → IsHalt i
      ⊎ Completes s i m (execute_of i m memory)
  unfolding execute_of mov_imm_of cmp_imm_of and_of eor_of asr_of tst_of neg_of cmp_of add_high_of cmp_high_of
      mov_high_of str_of ldr_of
      strb_of ldrb_of add_pc_of branch_of
  step_case (MovImm rd imm) h k a = writes rd imm _ _ (omega arith) (exactly_sound imm (omega arith)) refl
  step_case (CmpImm rd imm) h k a = passes _ memory refl
  step_case (And rs rd) h k a =
      writes rd _ _ _ (omega arith) (and_sound _ _ _ _ (at rd (omega arith)) (at rs (omega arith))) refl
  step_case (Eor rs rd) h k a =
      writes rd _ _ _ (omega arith) (eor_sound _ _ _ _ (at rd (omega arith)) (at rs (omega arith))) refl
  step_case (Asr rs rd) h k a = writes rd _ _ _ (omega arith) (shifts rd (reg m rs % 256) (omega arith)) refl
  step_case (Tst rs rd) h k a = passes _ memory refl
  step_case (Neg rs rd) h k a =
      writes rd _ _ _ (omega arith) (rw (zero-add (65536 - reg m rs)) (neg_sound _ _ (at rs (omega arith)))) refl
  step_case (Cmp rs rd) h k a = passes _ memory refl
  step_case (AddHigh rs rd) h k a =
      writes rd _ _ _ (not_pc rd h.1 k) (add_sound _ _ _ _ (at rd h.1) (at rs h.0)) refl
  step_case (CmpHigh rs rd) h k a = passes _ memory refl
  step_case (MovHigh rs rd) h k a = writes rd _ _ _ (not_pc rd h.1 k) (at rs h.0) refl
  step_case (Str offset rb rd) h k a =
      rw (aligned_then (effective_address m rb (4 * offset)) _ _ (a refl)) (passes _ _ refl)
  step_case (Ldr offset rb rd) h k a =
      rw (aligned_then (effective_address m rb (4 * offset)) _ _ (a refl))
      (writes rd _ _ _ (omega arith) (unknown_sound _ (halfword_small memory _ bytes)) refl)
  step_case (Strb offset rb rd) h k a = passes _ _ refl
  step_case (Ldrb offset rb rd) h k a = writes rd _ _ _ (omega arith) (byte_sound _ (bytes.below _)) refl
  step_case (AddPc rd imm) h k a =
      let sum = pc_sum (here m) imm in
      writes rd sum _ _ (omega arith) (exactly_sound sum (omega arith)) refl
  step_case (Branch condition offset) h k a = branches condition offset (condition_of condition (flags m))
  step_case (Halt note) h k a = inl (note, refl)
