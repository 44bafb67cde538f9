-- What stays true from step to step of a run of fit code.
use mathlib.Core.Bool.{true, false, false≢true}
use mathlib.Core.List.{List}
use mathlib.Core.Logic.{◌⊎◌, inl, inr, ⊎_elim}
use mathlib.Core.Path.{◌≡◌, refl, sym, ap, ◌∙◌, subst}
use Prim.Native.Nat.{ℕ, suc, ◌+◌, ◌*◌, ◌/◌, ◌%◌, ◌<◌}
use native.Mathlib.Decide.{ℕ_discrete}
use native.Mathlib.Omega.{arith}
use borrow.Author.Tests.{eq-eqb, ltb-true}
use lib.ListN.{length, get_or}
use Rattle.units.specs.Address.{wrap}
use Rattle.units.specs.declared.address.ByteAddress.{ByteAddress}
use Rattle.units.specs.Bytes.{byte_at, halfword_at}
use Rattle.isa.specs.Decode.{decode_of}
use Rattle.isa.specs.declared.instruction.Instruction.{Instruction}
use Rattle.isa.specs.declared.instruction.Instruction.TheVariants.{Halt}
use Rattle.image.specs.declared.checker.Layout.{Layout}
use Rattle.targets.specs.Targets.{address_of, decoded_at, goes_to, targeted}
use Rattle.isa.specs.Access.{access_of}
use Rattle.checks.specs.State.{transfer_of, after_of}
use Rattle.verifier.specs.Verify.{entering, values_at}
use Rattle.cpu.specs.declared.machine.Machine.{Machine}
use Rattle.cpu.specs.declared.outcome.Outcome.{Outcome}
use Rattle.cpu.specs.declared.outcome.Outcome.TheVariants.{Completed, Halted}
use Rattle.cpu.specs.Machine.{pc}
use Rattle.cpu.specs.Step.{State, StepResult, execute_of, fetched, step_of}
use Rattle.cpu.specs.Traffic.{traffic_of, when_completed, step_traffic}
use Rattle.runner.specs.Run.{outcome_at, next_state}
use Rattle.runner.specs.Traffic.{traffic_at}
use Rattle.cpu_laws.specs.Sizes.{Registers, Sized}
use Rattle.cpu.proofs.Endings.{halted_not_completed}
use Rattle.cpu_laws.proofs.Steps.{step_decoded}
use Rattle.cpu_laws.proofs.Sizes.{step_sized}
use Rattle.safety.specs.Safety.{InWindow, SafeTraffic}
use Rattle.safety.proofs.Registers.{HoldsBelow, standing_holds}
use Rattle.isa_laws.proofs.Claims.{halt_notes}
use Rattle.isa_laws.proofs.Narrow.{Narrow, decoded_narrow}
use Rattle.safety.proofs.Steps.{IsHalt, here, MovedTo, Branched, Completes, step_case}
use Rattle.safety.proofs.Accesses.{SafeAccess, access_safe, traffic_safe, data_in_window}
use Rattle.cpu_laws.proofs.Touched.{step_keeps}
use Rattle.verifier.proofs.Walk.{length_entering, length_values}
use Rattle.verifier_laws.specs.Passes.{Passes}
use Rattle.safety.proofs.Fitness.{FitCode}
use Rattle.std.specs.Prelude.{Option, Some}

-- ---- the invariant, of a code and layout, and of the memory at the start

pub record Inv (code : List ℕ) (layout : Layout) (start : List ℕ) (s : State) : Type 0 where
  pub sized : Sized s
  pub index : ℕ
  pub inside : index < length code
  pub here : pc s.machine ≡ 2 * index
  pub holds : HoldsBelow 16 (values_at code index) s.machine.regs
  pub kept : (a : ℕ) → (InWindow layout a 1 → ⊥) → byte_at s.memory a ≡ byte_at start a

-- the start holds the code
abbrev pub HoldsHalfwords : List ℕ → List ℕ → Type 0
HoldsHalfwords code start = (i : ℕ) → i < length code → halfword_at start (2 * i) ≡ get_or code i 0

module _ (code : List ℕ) (layout : Layout) (start : List ℕ)
    (fit : FitCode code layout) (there : HoldsHalfwords code start) where
  address_is : (i : ℕ) → i < length code → (address_of i).0 ≡ 2 * i
  address_is i h = omega (arith, fit.short)

  -- the values hold where a step arrives at instruction i, unless it came by a branch
  pub arrive : (i : ℕ) (regs : List ℕ) → i < length code → get_or regs 15 0 ≡ 2 * i → Registers regs
      → (targeted code i ≡ false → HoldsBelow 15 (entering code i) regs) → HoldsBelow 16 (values_at code i) regs
  arrive i regs h e sized holds =
      standing_holds (address_of i) (targeted code i) (entering code i) regs
      (omega arith) (e ∙ sym (address_is i h)) (length_entering code i) sized holds

  module _ (s : State) (inv : Inv code layout start s) where
    abbrev m : Machine
    m = s.machine

    abbrev i : ℕ
    i = inv.index

    abbrev passed : Passes code layout i
    passed = fit.passed inv.index inv.inside

    abbrev ins : Instruction
    ins = passed.instruction

    abbrev after : StepResult
    after = execute_of ins m s.memory

    abbrev regs' : List ℕ
    regs' = after.state.machine.regs

    even : pc m % 2 ≡ 0
    even = omega (arith, inv.here)

    code_kept : (a : ℕ) → a < layout.code_bytes → byte_at s.memory a ≡ byte_at start a
    code_kept a h = inv.kept a (λ q. omega (arith, q, fit.after_code))

    -- the halfword at the PC is the code's
    fetch_is : halfword_at s.memory (pc m) ≡ get_or code i 0
    fetch_is =
        let low = code_kept (2 * i) (omega (arith, fit.size, inv.inside)) in
        let high = code_kept (2 * i + 1) (omega (arith, fit.size, inv.inside)) in
        rw inv.here (omega (arith, low, high, there i inv.inside))

    pub fetched_is : fetched m s.memory ≡ Some ins
    unfolding fetched decoded_at
    fetched_is = ap decode_of fetch_is ∙ passed.passes9

    pub step_is : step_of m s.memory ≡ after
    step_is = step_decoded m s.memory (Some ins) inv.sized.bytes.count even fetched_is

    narrow : Narrow ins
    unfolding fetched
    narrow = decoded_narrow (halfword_at s.memory (pc m)) ins (sym fetched_is)

    safe_access : SafeAccess layout m (access_of ins)
    safe_access =
        access_safe (values_at code i) m layout ins narrow inv.holds fit.in_memory
        passed.passes10 passed.passes11

    -- however the step ends
    pub safe_data : (o : Outcome) → SafeTraffic layout (when_completed o (traffic_of ins m))
    safe_data o = traffic_safe layout m ins safe_access o

    pub safe_traffic : SafeTraffic layout (traffic_at s)
    unfolding step_traffic
    safe_traffic = rw fetched_is (safe_data (step_of m s.memory).outcome)

    here_is : address_of i ≡ here m
    here_is = ap (λ (a : ℕ). record { 0 = a }) (address_is i inv.inside ∙ sym inv.here)

    small_halts : get_or code i 0 < 256 → IsHalt ins
    unfolding decoded_at
    small_halts e =
        let note = get_or code i 0 in
        let d : Some (Halt note) ≡ Some ins = sym (halt_notes.all_below note e) ∙ passed.passes9 in
        (note, cc)

    -- the last instruction is HALT
    not_last : (IsHalt ins → ⊥) → suc i < length code
    not_last h = go (ℕ_discrete (suc i) (length code))
      where
        go : Dec (suc i ≡ length code) → suc i < length code
        go (yes e) = absurd (h (small_halts (ltb-true _ _ (simp (eq-eqb _ _ e) at passed.passes14))))
        go (no n) = omega (arith, inv.inside)

    -- a byte outside the window is not written
    untouched : (a : ℕ) → (InWindow layout a 1 → ⊥)
        → byte_at (step_of m s.memory).state.memory a ≡ byte_at s.memory a
    untouched a out =
        (step_keeps m s.memory).others a
        (λ written. out (data_in_window layout (traffic_at s) safe_traffic a written.touches))

    -- what a step has left, at instruction j
    arrived : (j : ℕ) → j < length code → get_or regs' 15 0 ≡ 2 * j
        → (targeted code j ≡ false → HoldsBelow 15 (entering code j) regs') → Inv code layout start after.state
    arrived j hj e holds =
        let sized : Sized after.state =
        subst (λ (r : StepResult). Sized r.state) step_is (step_sized s inv.sized) in
        record {
          sized = sized;
          index = j;
          inside = hj;
          here = e;
          holds = arrive j regs' hj e sized.registers holds;
          kept = λ a h. subst (λ (r : StepResult). byte_at r.state.memory a ≡ byte_at s.memory a) step_is
              (untouched a h) ∙ inv.kept a h;
        }

    -- what falls into the next instruction is what this one leaves
    entered : entering code (suc i) ≡ transfer_of (here m) ins (values_at code i)
    unfolding entering
    entered =
        ap (λ (d : Option Instruction). after_of (address_of i) d (values_at code i)) passed.passes9
        ∙ ap (λ (a : ByteAddress). transfer_of a ins (values_at code i)) here_is

    -- by falling into the next instruction
    fell : (IsHalt ins → ⊥) → MovedTo (values_at code i) ins m after (wrap (pc m + 2))
        → Inv code layout start after.state
    fell h moved =
        let j : suc i < length code = not_last h in
        arrived (suc i) j (omega (arith, moved.pc, inv.here, fit.short)) (λ f. rw entered moved.holds)

    -- by a branch
    branched : Branched (values_at code i) ins m after → Inv code layout start after.state
    unfolding goes_to
    branched b =
        let t : ByteAddress = b.target in
        let j : ℕ = t.0 / 2 in
        let even-t = b.even even in
        let below : t.0 < layout.code_bytes = ltb-true _ _ (simp (here_is, b.jumps) at passed.passes13) in
        let hit : targeted code j ≡ true =
        fit.hits i j inv.inside (simp (passed.passes9, here_is, b.jumps) (eq-eqb j j refl)) in
        arrived j (omega (arith, fit.size)) (omega (arith, b.moved.pc)) (λ f. absurd (false≢true (sym f ∙ hit)))

    -- HALT does not complete
    running : Completes (values_at code i) ins m after → IsHalt ins → ⊥
    unfolding execute_of
    running c e =
        halted_not_completed
        (ap (λ (j : Instruction). (execute_of j m s.memory).outcome) (sym e.1) ∙ c.outcome)

    completes : Completes (values_at code i) ins m after → Inv code layout start after.state
    completes c = ⊎_elim (fell (running c)) branched c.moved

    -- a step of the run halts, where HALT is, or completes and leads to a state of the same kind
    pub next : ((outcome_at s ≡ Halted) × (fetched m s.memory ≡ Some (Halt (next_state s).machine.note)))
        ⊎ ((outcome_at s ≡ Completed) × Inv code layout start (next_state s))
    unfolding execute_of
    next =
        rw (outcome_at, next_state, step_is)
        (⊎_elim
        (λ e. inl (rw e.1 refl, fetched_is ∙ (rw e.1 refl)))
        (λ c. inr (c.outcome, completes c))
        (step_case (values_at code i) m s.memory (length_values code i)
        inv.sized.registers inv.holds inv.sized.bytes ins narrow passed.passes12 safe_access.aligned))
