-- Demand 3, proved.
use mathlib.Core.List.{List}
use mathlib.Core.Logic.{◌⊎◌, inl, inr, ⊎_elim}
use mathlib.Core.Path.{◌≡◌, refl, sym, ap, ◌∙◌, subst, subst⁻¹}
use Prim.Native.Nat.{ℕ, zero, suc, ◌+◌, ◌*◌, ◌/◌, ◌%◌, ◌≤◌, ◌<◌}
use native.Mathlib.Omega.{arith}
use borrow.Author.Tests.{eq-eqb}
use lib.ListN.{length, get_or}
use Rattle.units.specs.Address.{memory_bytes}
use Rattle.units.proofs.Halves.{rejoined}
use Rattle.units.specs.Bytes.{byte_at, byte_of}
use Rattle.isa.specs.declared.instruction.Instruction.TheVariants.{Halt}
use Rattle.image.specs.Code.{code_of}
use Rattle.image.specs.declared.checker.Layout.{Layout}
use Rattle.verifier.specs.Verify.{entering}
use Rattle.cpu.specs.declared.machine.Machine.{Machine}
use Rattle.cpu.specs.declared.outcome.Outcome.{Outcome}
use Rattle.cpu.specs.declared.outcome.Outcome.TheVariants.{Completed, Halted}
use Rattle.runner.specs.declared.runs.RunOutcome.{RunOutcome}
use Rattle.runner.specs.declared.runs.RunOutcome.TheVariants as run
use Rattle.cpu.specs.Step.{State, fetched}
use Rattle.runner.specs.Run.{RunResult, state, outcome_at, next_state, state_after, run_from, run_of}
use Rattle.runner.specs.Traffic.{traffic_at, last_traffic, run_traffic}
use Rattle.loader.specs.Load.{code_byte}
use Rattle.safety.specs.Safety.{Start, HoldsCode, SafeTraffic, SafeState, SameWindow, SameResult, EndsByHalt}
use Rattle.safety.specs.Safety.{SafeRun, Demand3, LoadHolds}
use Rattle.safety.proofs.Fitness.{FitCode, fit_code}
use Rattle.safety.proofs.Invariant.{Inv, HoldsHalfwords, arrive, fetched_is, safe_traffic, next}
use Rattle.safety.proofs.Registers.{unknown_holds}
use Rattle.cpu_laws.specs.Notes.{halted_state}
use Rattle.cpu_laws.specs.Course.{EndsAs, final_state}
use Rattle.cpu_laws.specs.Sizes.{Registers}
use Rattle.cpu.proofs.Endings.{halted_not_completed}
use Rattle.cpu_laws.proofs.Notes.{note_set}
use Rattle.cpu_laws.proofs.Course.{run_course, run_keeps}
use Rattle.safety.proofs.Loads.{was_fit, after_load, loaded_holds}
use Rattle.safety.proofs.Accesses.{quiet_safe}
use Rattle.safety.proofs.Twins.{Twin, same_last, same_runs}
use Rattle.std.specs.Prelude.{Some}

-- byte by byte is halfword by halfword
holds_halfwords : (file : List ℕ) (layout : Layout) (memory : List ℕ) → layout.code_bytes ≡ 2 * length (code_of file)
    → HoldsCode file layout memory → HoldsHalfwords (code_of file) memory
unfolding code_byte byte_of
holds_halfwords file layout memory size h i hi =
    let a : 2 * i / 2 ≡ i = omega arith in
    let b : 2 * i % 2 ≡ 0 = omega arith in
    let c : (2 * i + 1) / 2 ≡ i = omega arith in
    let d : (2 * i + 1) % 2 ≡ 1 = omega arith in
    rejoined (get_or (code_of file) i 0) (byte_at memory (2 * i)) (byte_at memory (2 * i + 1))
    (h.code (2 * i) (omega (arith, size)) ∙ simp (a, b))
    (h.code (2 * i + 1) (omega (arith, size)) ∙ simp (c, d))

-- with the size of memory right, a run is what its steps make
run_is : (budget : ℕ) (m : Machine) (memory : List ℕ) → length memory ≡ memory_bytes
    → run_of budget m memory ≡ run_from budget 0 (state m memory)
unfolding run_of
run_is budget m memory h = simp (eq-eqb _ _ h)

-- what a run leaves at HALT stands on it and has its note
abbrev stands : State → Type 0
stands t = fetched t.machine t.memory ≡ Some (Halt t.machine.note)

module _ (file : List ℕ) (layout : Layout) (fit : FitCode (code_of file) layout) where
  -- ---- one memory that holds the code
  module _ (memory : List ℕ) (h : HoldsCode file layout memory) where
    there : HoldsHalfwords (code_of file) memory
    there = holds_halfwords file layout memory fit.size h

    -- a state of a run from this memory
    abbrev Fine : State → Type 0
    Fine s = Inv (code_of file) layout memory s

    -- the start is at instruction 0, where nothing is known
    begin : (m : Machine) → Start m → Fine (state m memory)
    unfolding entering
    begin m s =
        let registers : Registers m.regs = record { count = s.sixteen; below = s.halfwords } in
        record {
          sized = record { registers = registers; bytes = record { count = h.size; below = h.bytes } };
          index = 0;
          inside = fit.some;
          here = s.at_zero;
          holds = arrive (code_of file) layout memory fit there 0 m.regs fit.some s.at_zero registers
              (λ f. unknown_holds 15 m.regs (omega arith) registers);
          kept = λ a q. refl;
        }

    -- what the invariant says of a state
    module _ (s : State) (inv : Fine s) where
      traffic_here : SafeTraffic layout (traffic_at s)
      traffic_here = safe_traffic (code_of file) layout memory fit there s inv

      -- a step from it
      goes : ((outcome_at s ≡ Halted) × (fetched s.machine s.memory ≡ Some (Halt (next_state s).machine.note)))
          ⊎ ((outcome_at s ≡ Completed) × Fine (next_state s))
      goes = next (code_of file) layout memory fit there s inv

      safe_state : SafeState layout memory s
      safe_state =
          record {
            even = omega (arith, inv.here);
            fetch = omega (arith, inv.here, inv.inside, fit.size);
            instruction = (fit.passed inv.index inv.inside).instruction;
            defined = fetched_is (code_of file) layout memory fit there s inv;
            goes_on = ⊎_elim (λ x. inr x.0) (λ x. inl x.0) goes;
            traffic = traffic_here;
            size = inv.sized.bytes.count;
            kept = inv.kept;
          }

      -- a step that completes keeps the invariant
      keeps : outcome_at s ≡ Completed → Fine (next_state s)
      keeps e = ⊎_elim (λ x. absurd (halted_not_completed (sym x.0 ∙ e))) (λ x. x.1) goes

      -- a run ends spent, or as the step after its last one does, which can only halt
      ending : (o : RunOutcome) → EndsAs (outcome_at s) o → (o ≡ run.Halted) × stands (halted_state s)
      unfolding fetched
      ending o e =
          ⊎_elim
          (λ x. (
            subst (λ (a : Outcome). EndsAs a o) x.0 e,
            x.1 ∙ ap (λ (t : State). Some (Halt t.machine.note)) (note_set s x.0),
          ))
          (λ x. absurd (subst (λ (a : Outcome). EndsAs a o) x.0 e))
          goes

    -- every state of a run has it
    each : (m : Machine) → Start m → (budget k : ℕ) → k ≤ (run_of budget m memory).count
        → Fine (state_after k (state m memory))
    each m s budget = run_keeps Fine keeps budget m memory h.size (begin m s)

    -- so what the last of its steps touched is safe
    last_safe : (s : State) (n : ℕ) → ((k : ℕ) → k ≤ n → Fine (state_after k s)) → SafeTraffic layout (last_traffic n s)
    last_safe s zero inv = quiet_safe layout
    last_safe s (suc n) inv = traffic_here (state_after n s) (inv n (omega arith))

  -- ---- two memories, whose windows are the same
  module _ (memory : List ℕ) (h : HoldsCode file layout memory) (other : List ℕ) (g : HoldsCode file layout other)
      (w : SameWindow layout memory other) (m : Machine) (s : Start m) (budget : ℕ) where
    twin : Twin layout (state m memory) (state m other)
    twin = record { machine = refl; window = w }

    same_result : SameResult layout (run_of budget m memory) (run_of budget m other)
    same_result =
        rw (run_is budget m memory h.size, run_is budget m other g.size)
        (same_runs (code_of file) layout fit memory other (there memory h) (there other g) budget 0 _ _
        (begin memory h m s) (begin other g m s) twin)

    same_told : run_traffic budget m memory ≡ run_traffic budget m other
    unfolding run_traffic
    same_told =
        let count = (run_of budget m memory).count in
        same_last (code_of file) layout fit memory other (there memory h) (there other g) _ _ twin count
        (λ k l. each memory h m s budget k (omega arith))
        (λ k l. each other g m s budget k (omega (arith, same_result.count)))
        ∙ ap (λ (n : ℕ). last_traffic n (state m other)) same_result.count

  -- ---- a whole run
  safe_run : (memory : List ℕ) → HoldsCode file layout memory → (m : Machine) → Start m → (budget : ℕ)
      → SafeRun file layout m memory budget
  unfolding run_traffic
  safe_run memory h m s budget =
      let start : State = state m memory in
      let result : RunResult = run_of budget m memory in
      let end : State = state_after result.count start in
      let course = run_course budget m memory h.size in
      let kept = each memory h m s budget in
      let halts : (result.count < budget) × EndsAs (outcome_at end) result.outcome → EndsByHalt budget result =
      λ x. let halted = ending memory h end (kept result.count (omega arith)) result.outcome x.1 in
      record {
        outcome = halted.0;
        left = x.0;
        halt = subst⁻¹ stands (course.last ∙ ap (λ (o : RunOutcome). final_state o end) halted.0) halted.1;
      } in
      record {
        states = λ k hk. safe_state memory h (state_after k start) (kept k hk);
        completed = course.completed;
        last = course.last;
        ends = ⊎_elim (λ x. inr (record { outcome = x.0; all = x.1 })) (λ x. inl (halts x)) course.end;
        traffic = last_safe memory h start result.count kept;
        alike = λ other g w. (same_result memory h other g w m s budget, same_told memory h other g w m s budget);
      }

pub demand_3 : Demand3
demand_3 file layout fit memory h m s budget = safe_run file layout (fit_code file layout fit) memory h m s budget

pub load_holds : LoadHolds
load_holds file memory file-bytes memory-bytes layout e =
    let done = was_fit file memory layout e in
    let fit = fit_code file layout done.fit in
    let short : layout.code_bytes ≤ memory_bytes = omega (arith, fit.after_code, fit.in_memory) in
    (done.fit, rw (after_load file memory layout e) (loaded_holds file memory file-bytes memory-bytes layout short))
