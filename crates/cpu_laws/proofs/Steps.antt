-- A step that neither completes nor meets HALT leaves everything as it was; and what a step does where nothing stops
-- it before the instruction.
use Rattle.std.specs.Prelude.{Option}
use mathlib.Core.List.{List}
use mathlib.Core.Logic.{inl, inr, ⊎_elim}
use mathlib.Core.Path.{◌≡◌, ap}
use Prim.Native.Nat.{ℕ, ◌%◌}
use borrow.Author.Tests.{eq-eqb}
use lib.ListN.{length}
use Rattle.units.specs.Address.{memory_bytes}
use Rattle.cpu.specs.declared.machine.Machine.{Machine}
use Rattle.cpu.specs.Machine.{pc}
use Rattle.cpu.specs.Step.{StepResult, execute_decoded, fetched, fetch_and_execute, step_of}
use Rattle.cpu.proofs.Endings.{how_ends}
use Rattle.cpu_laws.specs.Course.{StepWhole}
use Rattle.isa.specs.declared.instruction.Instruction.{Instruction}

pub step_whole : StepWhole
step_whole s =
    ⊎_elim inl
    (λ q. inr (⊎_elim
    (λ halts. inl (ap (λ (r : StepResult). r.outcome) halts, ap (λ (r : StepResult). r.state) halts))
    (λ stays. inr stays.0)
    q))
    (how_ends s.machine s.memory)

-- a step from an even PC in a memory of the right size does what the halfword there says
pub step_decoded : (m : Machine) (memory : List ℕ) (d : Option Instruction) → length memory ≡ memory_bytes
    → pc m % 2 ≡ 0
    → fetched m memory ≡ d
    → step_of m memory ≡ execute_decoded d m memory
unfolding step_of fetch_and_execute
step_decoded m memory d right even says =
    simp (eq-eqb (length memory) memory_bytes right, eq-eqb (pc m % 2) 0 even, says)
