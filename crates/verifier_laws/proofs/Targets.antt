-- Branch targets, and the state along the code.
use mathlib.Core.Bool.{Bool, true, false, cond, ◌||◌, or-true, false≢true}
use mathlib.Core.List.{List}
use mathlib.Core.Path.{◌≡◌, refl, sym, ap, ◌∙◌}
use Prim.Native.Nat.{ℕ, zero, suc, ◌≤◌, ◌<◌}
use native.Mathlib.Decide.{dec_le, le_ind}
use native.Mathlib.Omega.{arith}
use borrow.Author.Tests.{eqb-true, eq-eqb}
use lib.ListN.{length, get_or}
use Rattle.units.specs.Address.{instruction_index_of, branch_target_of}
use Rattle.units.specs.Field.{field}
use Rattle.units.proofs.Cases.{clash}
use Rattle.isa.specs.Decode.{decode_of}
use Rattle.isa.specs.declared.instruction.Instruction.{Instruction}
use Rattle.targets.specs.Targets.{address_of, decoded_at, jump_at, lands_on, goes_to, targeted_below, targeted}
use Rattle.targets.proofs.Jumps.{is_branch, no_branch}
use Rattle.checks.specs.State.{unknown_state, standing_at, transfer_of, after_of}
use Rattle.verifier.specs.Verify.{entering, values_at}
use Rattle.verifier_laws.specs.Passes.{Reached}
use Rattle.verifier_laws.specs.Claims.{TargetsExactly, ForgetsAtTargets}
use Rattle.std.specs.Prelude.{Option, Some, None}
use Rattle.units.specs.declared.address.ByteAddress.{ByteAddress}

module _ (code : List ℕ) (j : ℕ) where
  goes_below : (n k : ℕ) → k < n → goes_to code k j ≡ true → targeted_below code n j ≡ true
  unfolding targeted_below
  goes_below n k h e =
      le_ind (λ (m : ℕ). targeted_below code m j ≡ true) (rw e refl) (λ m _ ih. rw ih (or-true (goes_to code m j))) n h

  below_goes : (n : ℕ) → targeted_below code n j ≡ true → (k : ℕ) × (k < n) × (goes_to code k j ≡ true)
  unfolding targeted_below
  below_goes zero e = clash (cc)
  below_goes (suc n) e = go (goes_to code n j) refl e (λ p. below_goes n p)
    where
      go : (t : Bool) → goes_to code n j ≡ t → (t || targeted_below code n j) ≡ true
          → (targeted_below code n j ≡ true → (k : ℕ) × (k < n) × (goes_to code k j ≡ true))
          → (k : ℕ) × (k < suc n) × (goes_to code k j ≡ true)
      go true q p rest = (n, omega arith, q)
      go false q p rest = let r = rest p in (r.0, omega (arith, r.1), r.2)

  -- only a branch goes anywhere, and it goes to its target
  goes_reached : (k : ℕ) → k < length code → goes_to code k j ≡ true → Reached code j
  unfolding goes_to decoded_at
  goes_reached k h e =
      go (get_or code k 0) refl e (dec_le 208 (field (get_or code k 0) 8 8)) (dec_le (field (get_or code k 0) 8 8) 221)
    where
      still : (t : Option ByteAddress) → t ≡ None → lands_on t j ≡ true → Reached code j
      still t q e' = absurd (false≢true (sym (ap (λ (x : Option ByteAddress). lands_on x j) q) ∙ e'))

      go : (w : ℕ) → get_or code k 0 ≡ w → lands_on (jump_at (address_of k) (decode_of w)) j ≡ true
          → Dec (208 ≤ field w 8 8) → Dec (field w 8 8 ≤ 221) → Reached code j
      go w q e' (yes low) (yes high) =
          let d = is_branch w low high in
          let there : (instruction_index_of (branch_target_of (address_of k) (field w 0 8))).0 ≡ j
          = eqb-true _ _ (sym (ap (λ (x : Option Instruction). lands_on (jump_at (address_of k) x) j) d) ∙ e') in
          record {
            branch = k;
            inside = omega arith;
            condition = field w 8 4;
            offset = field w 0 8;
            decoded = ap decode_of q ∙ d;
            there = omega arith;
          }
      go w q e' (yes low) (no high) = still _ (no_branch (address_of k) w (λ l u. high u)) e'
      go w q e' (no low) t = still _ (no_branch (address_of k) w (λ l u. low l)) e'

  reached_goes : (r : Reached code j) → goes_to code r.branch j ≡ true
  unfolding goes_to
  reached_goes r = rw r.decoded (eq-eqb _ j r.there)

  -- what an instruction of the code goes to is a target
  pub goes_targeted : (k : ℕ) → k < length code → goes_to code k j ≡ true → targeted code j ≡ true
  unfolding targeted
  goes_targeted k h e = goes_below (length code) k h e

  -- targets are the instructions that some branch goes to
  reached_targeted : Reached code j → targeted code j ≡ true
  reached_targeted r = goes_targeted r.branch r.inside (reached_goes r)

  targeted_reached : targeted code j ≡ true → Reached code j
  unfolding targeted
  targeted_reached e =
      let r = below_goes (length code) e in
      goes_reached r.0 r.1 r.2

module _ (code : List ℕ) where
  -- at a target nothing is known but the address
  target_values : (j : ℕ) → targeted code j ≡ true → values_at code j ≡ standing_at (address_of j) unknown_state
  target_values j e = ap (λ (t : Bool). standing_at (address_of j) (cond t unknown_state (entering code j))) e

  -- elsewhere the state is what the instruction above left
  next_values : (i : ℕ) (instruction : Instruction) → decoded_at code i ≡ Some instruction
      → targeted code (suc i) ≡ false
      → values_at code (suc i) ≡ standing_at (address_of (suc i))
      (transfer_of (address_of i) instruction (values_at code i))
  unfolding entering
  next_values i instruction e q =
      ap (λ (t : Bool). standing_at (address_of (suc i)) (cond t unknown_state (entering code (suc i)))) q
      ∙ ap
      (λ (d : Option Instruction). standing_at (address_of (suc i)) (after_of (address_of i) d (values_at code i))) e

  -- at address 0 nothing is known either
  first_values : values_at code 0 ≡ standing_at (address_of 0) unknown_state
  unfolding entering
  first_values = go (targeted code 0)
    where
      go : (t : Bool) → standing_at (address_of 0) (cond t unknown_state unknown_state)
          ≡ standing_at (address_of 0) unknown_state
      go true = refl
      go false = refl

  -- where no branch goes
  not_reached : (i : ℕ) (instruction : Instruction) → decoded_at code i ≡ Some instruction
      → (Reached code (suc i) → ⊥)
      → values_at code (suc i) ≡ standing_at (address_of (suc i))
      (transfer_of (address_of i) instruction (values_at code i))
  not_reached i instruction e none = go (targeted code (suc i)) refl
    where
      go : (t : Bool) → targeted code (suc i) ≡ t → values_at code (suc i)
          ≡ standing_at (address_of (suc i)) (transfer_of (address_of i) instruction (values_at code i))
      go true q = absurd (none (targeted_reached code (suc i) q))
      go false q = next_values i instruction e q

pub targets_exactly : TargetsExactly
targets_exactly code j = (targeted_reached code j, reached_targeted code j)

pub forgets_at_targets : ForgetsAtTargets
forgets_at_targets code =
    record {
      first = first_values code;
      target = λ j r. target_values code j (reached_targeted code j r);
      next = not_reached code;
    }
