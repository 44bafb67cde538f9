-- Two runs from memories alike in code and window go the same way.
use mathlib.Core.List.{List}
use mathlib.Core.Logic.{⊎_elim}
use mathlib.Core.Path.{◌≡◌, refl, sym, ap, ap₂, ◌∙◌}
use Prim.Native.Nat.{ℕ, zero, suc, ◌+◌, ◌<◌}
use native.Mathlib.Omega.{arith}
use Rattle.isa.specs.declared.instruction.Instruction.{Instruction}
use Rattle.image.specs.declared.checker.Layout.{Layout}
use Rattle.targets.specs.Targets.{decoded_at}
use Rattle.cpu.specs.Machine.{pc}
use Rattle.cpu.specs.Step.{State, execute_of, step_of}
use Rattle.cpu.specs.Traffic.{decoded_traffic, when_completed, step_traffic}
use Rattle.runner.specs.Run.{next_state, state_after, run_from}
use Rattle.runner.specs.Traffic.{traffic_at, last_traffic}
use Rattle.cpu_laws.specs.Touched.{Alike}
use Rattle.safety.specs.Safety.{SameWindow, SameResult}
use Rattle.safety.proofs.Fitness.{FitCode}
use Rattle.safety.proofs.Invariant.{Inv, HoldsHalfwords, fetched_is, step_is, safe_data, next}
use Rattle.safety.proofs.Accesses.{data_in_window}
use Rattle.cpu_laws.proofs.Touched.{execute_alike}
use Rattle.cpu.proofs.Endings.{halted_not_completed}
use Rattle.std.specs.Prelude.{Some}

-- two states with the same machine and window
pub record Twin (layout : Layout) (s t : State) : Type 0 where
  pub machine : s.machine ≡ t.machine
  pub window : SameWindow layout s.memory t.memory

module _ (code : List ℕ) (layout : Layout) (fit : FitCode code layout)
    (start other : List ℕ) (there : HoldsHalfwords code start) (there' : HoldsHalfwords code other) where
  -- the instruction where a state stands
  abbrev at : {memory : List ℕ} {s : State} → Inv code layout memory s → Instruction
  at p = (fit.passed p.index p.inside).instruction

  same_instruction : (s t : State) (p : Inv code layout start s) (q : Inv code layout other t)
      → s.machine ≡ t.machine → at p ≡ at q
  same_instruction s t p q e =
      let i : p.index ≡ q.index = omega (arith, p.here, q.here, ap pc e) in
      let here = (fit.passed p.index p.inside).passes9 in
      let there = (fit.passed q.index q.inside).passes9 in
      let d : Some (at p) ≡ Some (at q) = sym here ∙ ap (decoded_at code) i ∙ there in
      cc

  -- both are on their way, and alike
  module _ (s t : State) (p : Inv code layout start s) (q : Inv code layout other t) (w : Twin layout s t) where
    step_twin : Alike s.memory t.memory (traffic_at s) (step_of s.machine s.memory)
        (step_of t.machine t.memory)
    unfolding step_traffic
    step_twin =
        let safe = safe_data code layout start fit there s p (execute_of (at p) s.machine s.memory).outcome in
        let long = p.sized.bytes.count ∙ sym q.sized.bytes.count in
        rw (
          fetched_is code layout start fit there s p,
          step_is code layout start fit there s p,
          step_is code layout other fit there' t q,
          ← same_instruction s t p q w.machine,
          ← w.machine,
        )
        (execute_alike s.machine s.memory t.memory long (at p)
        (λ a r. w.window a (data_in_window layout _ safe a r.touches)))

    -- after it they are twins again
    next_twin : Twin layout (next_state s) (next_state t)
    next_twin = record { machine = step_twin.machine; window = λ b h. step_twin.bytes b (w.window b h) }

    same_traffic : traffic_at s ≡ traffic_at t
    unfolding step_traffic
    same_traffic =
        let here = fetched_is code layout start fit there s p in
        let there = fetched_is code layout other fit there' t q in
        let fetched = here ∙ ap Some (same_instruction s t p q w.machine) ∙ sym there in
        ap₂ when_completed step_twin.outcome (ap₂ decoded_traffic fetched w.machine)

  -- and so after any number of steps
  module _ (s t : State) (twin : Twin layout s t) where
    twins_after : (n : ℕ) → ((k : ℕ) → k < n → Inv code layout start (state_after k s))
        → ((k : ℕ) → k < n → Inv code layout other (state_after k t)) → Twin layout (state_after n s) (state_after n t)
    unfolding state_after
    twins_after zero p q = twin
    twins_after (suc n) p q =
        next_twin (state_after n s) (state_after n t) (p n (omega arith)) (q n (omega arith))
        (twins_after n (λ k l. p k (omega arith)) (λ k l. q k (omega arith)))

    pub same_last : (n : ℕ) → ((k : ℕ) → k < n → Inv code layout start (state_after k s))
        → ((k : ℕ) → k < n → Inv code layout other (state_after k t)) → last_traffic n s ≡ last_traffic n t
    same_last zero p q = refl
    same_last (suc n) p q =
        same_traffic (state_after n s) (state_after n t) (p n (omega arith)) (q n (omega arith))
        (twins_after n (λ k l. p k (omega arith)) (λ k l. q k (omega arith)))

  pub same_runs : (left count : ℕ) (s t : State) → Inv code layout start s → Inv code layout other t → Twin layout s t
      → SameResult layout (run_from left count s) (run_from left count t)
  unfolding run_from
  same_runs zero count s t p q w =
      record { machine = w.machine; window = w.window; outcome = refl; count = refl }
  same_runs (suc left) count s t p q w =
      let a = step_twin s t p q w in
      let after = next_twin s t p q w in
      ⊎_elim
      (λ h. rw (h.0, sym a.outcome ∙ h.0)
      record { machine = after.machine; window = after.window; outcome = refl; count = refl })
      (λ h. ⊎_elim
      (λ k. absurd (halted_not_completed (sym k.0 ∙ sym a.outcome ∙ h.0)))
      (λ k. rw (h.0, k.0) (same_runs left (count + 1) (next_state s) (next_state t) h.1 k.1 after))
      (next code layout other fit there' t q))
      (next code layout start fit there s p)
