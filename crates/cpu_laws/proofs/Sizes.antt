-- Sixteen registers stay sixteen and 16 bits wide, and memory keeps its size and its bytes.
use Rattle.std.specs.Prelude.{Option, Some, None}
use mathlib.Core.Bool.{cond}
use mathlib.Core.List.{List, [], ◌∷◌}
use mathlib.Core.Path.{◌≡◌, refl, sym, ◌∙◌}
use Prim.Native.Nat.{ℕ, zero, suc, ◌+◌, ◌-◌, ◌*◌, ◌/◌, ◌%◌, ◌^◌, ◌<◌}
use native.Mathlib.Nat.{div-le_self}
use native.Mathlib.Omega.{arith}
use lib.Bits.{bit_and, bit_xor, and_le_l, xor_lt}
use lib.Dec.{eqb, ltb}
use lib.ListN.{length, get_or, set, length-set}
use Rattle.refusals.specs.declared.check.Check.TheVariants as check
use Rattle.refusals.specs.Refusal.{refusal}
use Rattle.units.specs.Address.{branch_target_of, memory_bytes}
use Rattle.units.specs.Bytes.{byte_at, halfword_at, with_byte, with_halfword}
use Rattle.isa.specs.declared.instruction.Instruction.{Instruction}
use Rattle.isa.specs.declared.instruction.Instruction.TheVariants.{MovImm, CmpImm, And, Eor, Asr, Tst, Neg, Cmp}
use Rattle.isa.specs.declared.instruction.Instruction.TheVariants.{AddHigh, CmpHigh, MovHigh, Str, Ldr, Strb, Ldrb}
use Rattle.isa.specs.declared.instruction.Instruction.TheVariants.{AddPc, Branch, Halt}
use Rattle.cpu.specs.declared.machine.Machine.{Machine}
use Rattle.cpu.specs.declared.outcome.Outcome.TheVariants.{Refused}
use Rattle.cpu.specs.Machine.{reg, pc, flags, updated, advanced, written}
use Rattle.alu.specs.Flags.{Flags}
use Rattle.alu.specs.Alu.{negative, shifted_of, shift_of, condition_of}
use Rattle.cpu.specs.declared.outcome.Stop.TheVariants as stop
use Rattle.cpu.specs.Step.{State, StepResult, step_result, completed, stopped, effective_address, aligned, add_high_of}
use Rattle.cpu.specs.Step.{add_pc_of, and_of, asr_of, branch_of, cmp_imm_of, cmp_of, cmp_high_of, eor_of, ldr_of}
use Rattle.cpu.specs.Step.{ldrb_of, mov_imm_of}
use Rattle.cpu.specs.Step.{mov_high_of, neg_of, str_of, strb_of, tst_of, execute_of, execute_decoded, fetched}
use Rattle.cpu.specs.Step.{fetch_and_execute}
use Rattle.cpu.specs.Step.{step_of}
use Rattle.runner.specs.Run.{state, next_state, state_after}
use Rattle.isa_laws.proofs.Narrow.{Narrow, decoded_narrow}
use Rattle.cpu_laws.specs.Sizes.{Row, Registers, Bytes, Sized, StatesSized}
use Rattle.cpu.proofs.Endings.{cond_keeps}

-- a bound on every number stays where one below it is set
set_below : (bound : ℕ) (xs : List ℕ) (i x : ℕ) → x < bound → ((j : ℕ) → get_or xs j 0 < bound)
    → (j : ℕ) → get_or (set xs i x) j 0 < bound
set_below bound [] i x l h j = h j
set_below bound (y ∷ ys) zero x l h zero = l
set_below bound (y ∷ ys) zero x l h (suc j) = h (suc j)
set_below bound (y ∷ ys) (suc i) x l h zero = h zero
set_below bound (y ∷ ys) (suc i) x l h (suc j) = set_below bound ys i x l (λ k. h (suc k)) j

row_set : {n bound : ℕ} (xs : List ℕ) (i x : ℕ) → Row n bound xs → x < bound → Row n bound (set xs i x)
row_set {bound = bound} xs i x row l =
    record { count = length-set xs i x ∙ row.count; below = set_below bound xs i x l row.below }

advanced_sized : (regs : List ℕ) → Registers regs → Registers (advanced regs)
advanced_sized regs r = row_set regs 15 _ r (omega arith)

written_sized : (regs : List ℕ) (rd x : ℕ) → Registers regs → x < 65536 → Registers (written regs rd x)
written_sized regs rd x r l = row_set (advanced regs) rd x (advanced_sized regs r) l

abbrev Small : ℕ → Type 0
Small x = x < 65536

shifted_small : (a k : ℕ) → a < 65536 → shifted_of a k < 65536
shifted_small a k l =
    cond_keeps Small (negative a) (65535 - (65535 - a) / 2 ^ k) (a / 2 ^ k) (omega arith)
    (omega (arith, div-le_self a (2 ^ k)))

pub shift_small : (a k : ℕ) → a < 65536 → shift_of a k < 65536
shift_small a k l =
    cond_keeps Small (eqb k 0) a (cond (ltb k 16) (shifted_of a k) (cond (negative a) 65535 0)) l
    (cond_keeps Small (ltb k 16) (shifted_of a k) (cond (negative a) 65535 0) (shifted_small a k l)
    (cond_keeps Small (negative a) 65535 0 (omega arith) (omega arith)))

pub halfword_small : (memory : List ℕ) (a : ℕ) → Bytes memory → halfword_at memory a < 65536
halfword_small memory a b = omega (arith, b.below a, b.below (a + 1))

byte_sized : (memory : List ℕ) (a x : ℕ) → Bytes memory → Bytes (with_byte memory a x)
byte_sized memory a x b = row_set memory a _ b (omega arith)

halfword_sized : (memory : List ℕ) (a x : ℕ) → Bytes memory → x < 65536 → Bytes (with_halfword memory a x)
halfword_sized memory a x b l = row_set (with_byte memory a x) (a + 1) _ (byte_sized memory a x b) (omega arith)

module _ (m : Machine) (memory : List ℕ) (r : Registers m.regs) (b : Bytes memory) where
  unchanged : Sized (state m memory)
  unchanged = record { registers = r; bytes = b }

  abbrev Kept : StepResult → Type 0
  Kept result = Sized result.state

  -- a register is written
  wrote : (rd x : ℕ) (f : Flags) → x < 65536 → Kept (completed (updated m (written m.regs rd x) f) memory)
  wrote rd x f l = record { registers = written_sized m.regs rd x r l; bytes = b }

  -- none is
  went_on : (after : List ℕ) (f : Flags) → Bytes after → Kept (completed (updated m (advanced m.regs) f) after)
  went_on after f kept = record { registers = advanced_sized m.regs r; bytes = kept }

  execute_sized : (i : Instruction) → Narrow i → Kept (execute_of i m memory)
  unfolding execute_of add_high_of add_pc_of and_of asr_of branch_of cmp_imm_of cmp_of cmp_high_of eor_of ldr_of ldrb_of
      mov_imm_of
      mov_high_of neg_of str_of strb_of tst_of
  execute_sized (MovImm rd imm) n = wrote rd imm _ (omega arith)
  execute_sized (CmpImm rd imm) n = went_on memory _ b
  execute_sized (And rs rd) n =
      wrote rd (bit_and (reg m rd) (reg m rs)) _ (omega (arith, and_le_l (reg m rd) (reg m rs), r.below rd))
  execute_sized (Eor rs rd) n =
      wrote rd (bit_xor (reg m rd) (reg m rs)) _ (xor_lt 16 (reg m rd) (reg m rs) (r.below rd) (r.below rs))
  execute_sized (Asr rs rd) n =
      let by = reg m rs % 256 in
      wrote rd (shift_of (reg m rd) by) _ (shift_small (reg m rd) by (r.below rd))
  execute_sized (Tst rs rd) n = went_on memory _ b
  execute_sized (Neg rs rd) n = wrote rd _ _ (omega arith)
  execute_sized (Cmp rs rd) n = went_on memory _ b
  execute_sized (AddHigh rs rd) n = wrote rd _ _ (omega arith)
  execute_sized (CmpHigh rs rd) n = went_on memory _ b
  execute_sized (MovHigh rs rd) n = wrote rd (reg m rs) _ (r.below rs)
  execute_sized (Str offset rb rd) n =
      let a = effective_address m rb (4 * offset) in
      cond_keeps Kept (aligned a) _ (stopped stop.Misaligned m memory)
      (went_on (with_halfword memory a (reg m rd)) (flags m) (halfword_sized memory a (reg m rd) b (r.below rd)))
      unchanged
  execute_sized (Ldr offset rb rd) n =
      let a = effective_address m rb (4 * offset) in
      cond_keeps Kept (aligned a) _ (stopped stop.Misaligned m memory)
      (wrote rd (halfword_at memory a) (flags m) (halfword_small memory a b))
      unchanged
  execute_sized (Strb offset rb rd) n =
      went_on _ _ (byte_sized memory (effective_address m rb offset) (reg m rd) b)
  execute_sized (Ldrb offset rb rd) n =
      let a = effective_address m rb offset in
      wrote rd (byte_at memory a) _ (omega (arith, b.below a))
  execute_sized (AddPc rd imm) n = wrote rd _ _ (omega arith)
  execute_sized (Branch condition offset) n =
      let target = (branch_target_of (record { 0 = pc m }) offset).0 in
      record {
        registers =
            cond_keeps Registers (condition_of condition (flags m)) (set m.regs 15 target) (advanced m.regs)
            (row_set m.regs 15 target r (omega arith)) (advanced_sized m.regs r);
        bytes = b;
      }
  execute_sized (Halt note) n = record { registers = r; bytes = b }

  decoded_sized : (d : Option Instruction) → fetched m memory ≡ d → Kept (execute_decoded d m memory)
  unfolding fetched
  decoded_sized (Some i) e = execute_sized i (decoded_narrow (halfword_at memory (pc m)) i (sym e))
  decoded_sized None e = unchanged

  result_sized : Kept (step_of m memory)
  unfolding step_of fetch_and_execute
  result_sized =
      cond_keeps Kept (eqb (length memory) memory_bytes)
      (fetch_and_execute m memory) (step_result m memory (Refused (refusal check.MemorySize)))
      (cond_keeps Kept (eqb (pc m % 2) 0) (execute_decoded (fetched m memory) m memory) (stopped stop.OddPc m memory)
      (decoded_sized (fetched m memory) refl) unchanged)
      unchanged

-- over a step
pub step_sized : (s : State) → Sized s → Sized (next_state s)
step_sized s sized = result_sized s.machine s.memory sized.registers sized.bytes

-- and over any number of them
pub states_sized : StatesSized
unfolding state_after
states_sized s sized zero = sized
states_sized s sized (suc k) = step_sized (state_after k s) (states_sized s sized k)
