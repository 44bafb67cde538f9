-- The bounds of the values along a walk are in order: every rule keeps that.
use mathlib.Core.Bool.{Bool, true, false, cond}
use mathlib.Core.List.{List}
use mathlib.Core.Path.{◌≡◌, refl, sym, ap, ◌∙◌}
use Prim.Native.Nat.{ℕ, zero, suc, ◌≤◌, ◌<◌}
use native.Mathlib.Decide.{ℕ_discrete, dec_lt}
use native.Mathlib.Omega.{arith}
use lib.ListN.{length, get_or, set, length-set, get_or-replicate, get_or-eq_default}
use lib.Seq.{get_or-set_same, get_or-set_other}
use Rattle.units.specs.declared.address.ByteAddress.{ByteAddress}
use Rattle.units.specs.Address.{pc_sum}
use Rattle.isa.specs.declared.instruction.Instruction.{Instruction}
use Rattle.isa.specs.declared.instruction.Instruction.TheVariants.{MovImm, CmpImm, And, Eor, Asr, Tst, Neg, Cmp}
use Rattle.isa.specs.declared.instruction.Instruction.TheVariants.{AddHigh, CmpHigh, MovHigh, Str, Ldr, Strb, Ldrb}
use Rattle.isa.specs.declared.instruction.Instruction.TheVariants.{AddPc, Branch, Halt}
use Rattle.isa_laws.proofs.Narrow.{Narrow, decoded_narrow}
use Rattle.domain.specs.Value.{largest, unknown_of, exactly_of, add_of}
use Rattle.domain.specs.declared.value.Value.{Value}
use Rattle.domain_laws.specs.Ordered.{Ordered}
use Rattle.domain_laws.proofs.Ordered.{unknown_ordered, exactly_ordered, byte_ordered, neg_ordered, asr_ordered}
use Rattle.domain_laws.proofs.Ordered.{add_ordered, and_ordered, eor_ordered, add_low}
use Rattle.targets.specs.Targets.{address_of, decoded_at, targeted}
use Rattle.checks.specs.State.{State, value, unknown_state, standing_at, transfer_of, after_of}
use Rattle.verifier.specs.Verify.{entering, values_at}
use Rattle.verifier.proofs.Walk.{length_values}
use Rattle.verifier_laws.specs.Claims.{LowBelowHigh, AddsPlainly}
use Rattle.std.specs.Prelude.{Option, Some, None}

-- of every register
abbrev AllOrdered : State → Type 0
AllOrdered s = (r : ℕ) → Ordered (value s r)

-- past the registers nothing is known
past : (s : State) (r : ℕ) → length s ≤ r → Ordered (value s r)
past s r h = rw (get_or-eq_default s unknown_of {n = r} h) unknown_ordered

set_ordered : (s : State) (d : ℕ) (v : Value) → AllOrdered s → Ordered v → AllOrdered (set s d v)
set_ordered s d v h hv r = go (ℕ_discrete r d) (dec_lt d (length s))
  where
    go : Dec (r ≡ d) → Dec (d < length s) → Ordered (value (set s d v) r)
    go (yes e) (yes l) = rw (e, get_or-set_same s d v unknown_of l) hv
    go (yes e) (no l) = past (set s d v) r (omega (arith, length-set s d v))
    go (no q) l = rw (get_or-set_other s d r v unknown_of q) (h r)

unknown_all : AllOrdered unknown_state
unknown_all r = go (dec_lt r 16)
  where
    go : Dec (r < 16) → Ordered (value unknown_state r)
    go (yes l) = rw (get_or-replicate 16 r unknown_of unknown_of l) unknown_ordered
    go (no l) = past unknown_state r (omega arith)

arriving_ordered : (a : ByteAddress) (t : Bool) (s : State) → a.0 ≤ largest → AllOrdered s
    → AllOrdered (standing_at a (cond t unknown_state s))
arriving_ordered a true s h all = set_ordered unknown_state 15 (exactly_of a.0) unknown_all (exactly_ordered a.0 h)
arriving_ordered a false s h all = set_ordered s 15 (exactly_of a.0) all (exactly_ordered a.0 h)

module _ (a : ByteAddress) (s : State) (all : AllOrdered s) where
  transfer_ordered : (i : Instruction) → Narrow i → AllOrdered (transfer_of a i s)
  transfer_ordered (MovImm rd imm) n = set_ordered s rd _ all (exactly_ordered imm (omega (arith, n.1)))
  transfer_ordered (CmpImm rd imm) n = all
  transfer_ordered (And rs rd) n = set_ordered s rd _ all (and_ordered (value s rd) (value s rs) (all rd) (all rs))
  transfer_ordered (Eor rs rd) n = set_ordered s rd _ all (eor_ordered (value s rd) (value s rs))
  transfer_ordered (Asr rs rd) n = set_ordered s rd _ all (asr_ordered (value s rd) (all rd))
  transfer_ordered (Tst rs rd) n = all
  transfer_ordered (Neg rs rd) n = set_ordered s rd _ all (neg_ordered (value s rs))
  transfer_ordered (Cmp rs rd) n = all
  transfer_ordered (AddHigh rs rd) n = set_ordered s rd _ all (add_ordered (value s rd) (value s rs) (all rd) (all rs))
  transfer_ordered (CmpHigh rs rd) n = all
  transfer_ordered (MovHigh rs rd) n = set_ordered s rd _ all (all rs)
  transfer_ordered (Str offset rb rd) n = all
  transfer_ordered (Ldr offset rb rd) n = set_ordered s rd _ all unknown_ordered
  transfer_ordered (Strb offset rb rd) n = all
  transfer_ordered (Ldrb offset rb rd) n = set_ordered s rd _ all byte_ordered
  transfer_ordered (AddPc rd imm) n = set_ordered s rd _ all (exactly_ordered (pc_sum a imm) (omega arith))
  transfer_ordered (Branch condition offset) n = all
  transfer_ordered (Halt note) n = all

module _ (code : List ℕ) where
  -- the fields of an instruction of the code have no more than their bits
  narrow : (i : ℕ) (instruction : Instruction) → decoded_at code i ≡ Some instruction → Narrow instruction
  unfolding decoded_at
  narrow i instruction e = decoded_narrow (get_or code i 0) instruction (sym e)

  after_ordered : (i : ℕ) (d : Option Instruction) (s : State) → decoded_at code i ≡ d → AllOrdered s
      → AllOrdered (after_of (address_of i) d s)
  after_ordered i (Some instruction) s e all =
      transfer_ordered (address_of i) s all instruction (narrow i instruction e)
  after_ordered i None s e all = all

  entering_ordered : (i : ℕ) → AllOrdered (entering code i)
  unfolding entering
  entering_ordered zero = unknown_all
  entering_ordered (suc i) =
      after_ordered i (decoded_at code i) (values_at code i) refl
      (arriving_ordered (address_of i) (targeted code i) (entering code i) (omega arith) (entering_ordered i))

pub low_below_high : LowBelowHigh
low_below_high code i =
    arriving_ordered (address_of i) (targeted code i) (entering code i) (omega arith) (entering_ordered code i)

pub adds_plainly : AddsPlainly
unfolding entering
adds_plainly code i rs rd e fits =
    let s : State = values_at code i in
    let inside : rd < length s = omega (arith, (narrow code i (AddHigh rs rd) e).1, length_values code i) in
    ap (λ (d : Option Instruction). (value (after_of (address_of i) d (values_at code i)) rd).low) e
    ∙ ap (λ (v : Value). v.low) (get_or-set_same (values_at code i) rd (add_of (value s rd) (value s rs)) unknown_of
    inside)
    ∙ add_low (value s rd) (value s rs) (low_below_high code i rd) (low_below_high code i rs) (omega arith)
