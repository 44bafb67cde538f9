-- The course of a run, found step by step from its start; and what each of its steps keeps, the whole run keeps.
use mathlib.Core.List.{List}
use mathlib.Core.Logic.{inl, inr, ⊎_elim}
use mathlib.Core.Path.{◌≡◌, refl, sym, ap, ◌∙◌, subst}
use Prim.Native.Nat.{ℕ, zero, suc, ◌+◌, ◌<◌, ◌≤◌}
use native.Mathlib.Nat.{le_of_suc-le-suc, not-suc-le-zero}
use native.Mathlib.Omega.{arith}
use borrow.Author.Tests.{eq-eqb}
use lib.ListN.{length}
use Rattle.units.specs.Address.{memory_bytes}
use Rattle.cpu.specs.declared.machine.Machine.{Machine}
use Rattle.cpu.specs.declared.outcome.Outcome.{Outcome}
use Rattle.cpu.specs.declared.outcome.Outcome.TheVariants.{Completed, Halted, Stopped, Refused}
use Rattle.runner.specs.declared.runs.RunOutcome.{RunOutcome}
use Rattle.runner.specs.declared.runs.RunOutcome.TheVariants as run
use Rattle.cpu.specs.Step.{State}
use Rattle.runner.specs.Run.{RunResult, state, outcome_at, next_state, state_after, go_on, run_from, run_of}
use Rattle.cpu_laws.specs.Course.{EndsAs, final_state, Course, RunCourse}
use Rattle.cpu.proofs.Endings.{stopped_not_completed, refused_not_completed, stopped_not_halted, refused_not_halted}
use Rattle.cpu_laws.proofs.Steps.{step_whole}
use Rattle.cpu_laws.proofs.Notes.{note_set}

-- one step on from the first state, or from the last
first_or_last : (k : ℕ) (s : State) → state_after k (next_state s) ≡ state_after (suc k) s
unfolding state_after
first_or_last zero s = refl
first_or_last (suc k) s = ap next_state (first_or_last k s)

Found : ℕ → ℕ → State → RunResult → Type 0
Found budget count s r = (steps : ℕ) × (r.count ≡ steps + count) × Course budget s r steps

none : (budget count : ℕ) (s : State) (o : Outcome) (q : RunOutcome) (t : State)
    → outcome_at s ≡ o → EndsAs o q → t ≡ final_state q s
    → Found (suc budget) count s (record { state = t; outcome = q; count = count })
unfolding Found state_after
none budget count s o q t e ends still = (
  0,
  omega arith,
  record {
    within = omega arith;
    last = still;
    completed = λ k l. absurd (not-suc-le-zero l);
    end = inr (omega arith, subst (λ (x : Outcome). EndsAs x q) (sym e) ends);
  },
)

more : (budget count : ℕ) (s : State) (r : RunResult) → outcome_at s ≡ Completed
    → Found budget (count + 1) (next_state s) r → Found (suc budget) count s r
unfolding Found state_after
more budget count s r e (steps, counted, course) = (
  suc steps,
  omega arith,
  record {
    within = omega (arith, course.within);
    last = course.last ∙ ap (final_state r.outcome) (first_or_last steps s);
    completed = earlier;
    end = ⊎_elim (λ p. inl (p.0, ap suc p.1)) (λ p. inr (omega arith, later p.1)) course.end;
  },
)
  where
    later : EndsAs (outcome_at (state_after steps (next_state s))) r.outcome
        → EndsAs (outcome_at (state_after (suc steps) s)) r.outcome
    later ends = subst (λ (t : State). EndsAs (outcome_at t) r.outcome) (first_or_last steps s) ends

    earlier : (k : ℕ) → k < suc steps → outcome_at (state_after k s) ≡ Completed
    earlier zero l = e
    earlier (suc k) l =
        subst (λ (t : State). outcome_at t ≡ Completed) (first_or_last k s) (course.completed k (le_of_suc-le-suc l))

still : (s : State) (o : Outcome) → outcome_at s ≡ o → (o ≡ Completed → ⊥) → (o ≡ Halted → ⊥) → next_state s ≡ s
still s o e other on =
    ⊎_elim (λ q. absurd (other (sym e ∙ q))) (⊎_elim (λ q. absurd (on (sym e ∙ q.0))) (λ q. q)) (step_whole s)

-- by how the next step ends
turn : (budget count : ℕ) (s : State) (o : Outcome) (rest : RunResult) → outcome_at s ≡ o
    → Found budget (count + 1) (next_state s) rest → Found (suc budget) count s (go_on o (next_state s) count rest)
turn budget count s Completed rest e found = more budget count s rest e found
turn budget count s Halted rest e found = none budget count s Halted run.Halted (next_state s) e refl (note_set s e)
turn budget count s (Stopped n) rest e found =
    none budget count s (Stopped n) (run.Stopped n) (next_state s) e refl
    (still s (Stopped n) e (stopped_not_completed n) (stopped_not_halted n))
turn budget count s (Refused q) rest e found =
    none budget count s (Refused q) (run.Refused q) (next_state s) e refl
    (still s (Refused q) e (refused_not_completed q) (refused_not_halted q))

from : (budget count : ℕ) (s : State) → Found budget count s (run_from budget count s)
unfolding Found run_from state_after
from zero count s = (
  0,
  omega arith,
  record {
    within = omega arith;
    last = refl;
    completed = λ k l. absurd (not-suc-le-zero l);
    end = inl (refl, refl);
  },
)
from (suc budget) count s =
    turn budget count s (outcome_at s) (run_from budget (count + 1) (next_state s)) refl
    (from budget (count + 1) (next_state s))

pub run_course : RunCourse
unfolding Found run_of
run_course budget m memory right =
    let s : State = state m memory in
    let r : RunResult = run_from budget 0 s in
    let found = from budget 0 s in
    let n : found.0 ≡ r.count = omega (arith, found.1) in
    simp (eq-eqb (length memory) memory_bytes right) (subst (λ (steps : ℕ). Course budget s r steps) n found.2)

-- what holds at the start, and after each step that completes from where it holds, holds at every state of the course
module _ (P : State → Type 0) (kept : (s : State) → P s → outcome_at s ≡ Completed → P (next_state s)) where
  course_keeps : (budget : ℕ) (s : State) (r : RunResult) (steps : ℕ) → Course budget s r steps → P s
      → (k : ℕ) → k ≤ steps → P (state_after k s)
  unfolding state_after
  course_keeps budget s r steps course start zero l = start
  course_keeps budget s r steps course start (suc k) l =
      kept (state_after k s) (course_keeps budget s r steps course start k (omega arith)) (course.completed k l)

  pub run_keeps : (budget : ℕ) (m : Machine) (memory : List ℕ) → length memory ≡ memory_bytes → P (state m memory)
      → (k : ℕ) → k ≤ (run_of budget m memory).count → P (state_after k (state m memory))
  run_keeps budget m memory right start =
      course_keeps budget (state m memory) (run_of budget m memory) _ (run_course budget m memory right) start
