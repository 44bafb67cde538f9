-- What a step tells is its instruction's access, and what a run tells its last completed step's.
use mathlib.Core.Bool.{Bool, true, false}
use mathlib.Core.List.{List}
use mathlib.Core.Logic.{◌⊎◌, inl, inr}
use mathlib.Core.Path.{◌≡◌, refl}
use Prim.Native.Nat.{ℕ, zero, suc}
use native.Mathlib.Omega.{arith}
use borrow.Author.Tests.{eqb-true}
use lib.Dec.{eqb}
use lib.ListN.{length}
use Rattle.units.specs.Address.{memory_bytes}
use Rattle.isa.specs.Access.{no_access, access_of}
use Rattle.isa.specs.declared.instruction.Instruction.{Instruction}
use Rattle.isa.specs.declared.instruction.Instruction.TheVariants.{MovImm, CmpImm, And, Eor, Asr, Tst, Neg, Cmp}
use Rattle.isa.specs.declared.instruction.Instruction.TheVariants.{AddHigh, CmpHigh, MovHigh, Str, Ldr, Strb, Ldrb}
use Rattle.isa.specs.declared.instruction.Instruction.TheVariants.{AddPc, Branch, Halt}
use Rattle.traffic.specs.declared.data.Traffic.TheVariants.{NoData}
use Rattle.cpu.specs.declared.machine.Machine.{Machine}
use Rattle.cpu.specs.Step.{State}
use Rattle.cpu.specs.Traffic.{traffic_of, step_traffic}
use Rattle.runner.specs.Run.{state, run_of}
use Rattle.runner.specs.Traffic.{last_traffic, run_traffic}
use Rattle.cpu_laws.specs.Traffic.{Tells, CompletedTells, NoStep, LastStep, LastTraffic}
use Rattle.cpu_laws.proofs.Course.{run_course}

-- ---- a step

none : (m : Machine) → Tells m no_access NoData
none m =
    record {
      bytes = refl;
      address = λ some. absurd (omega (arith, some));
      written = λ some. absurd (omega (arith, some));
    }

pub tells_access : (i : Instruction) (m : Machine) → Tells m (access_of i) (traffic_of i m)
tells_access (MovImm rd imm) m = none m
tells_access (CmpImm rd imm) m = none m
tells_access (And rs rd) m = none m
tells_access (Eor rs rd) m = none m
tells_access (Asr rs rd) m = none m
tells_access (Tst rs rd) m = none m
tells_access (Neg rs rd) m = none m
tells_access (Cmp rs rd) m = none m
tells_access (AddHigh rs rd) m = none m
tells_access (CmpHigh rs rd) m = none m
tells_access (MovHigh rs rd) m = none m
tells_access (Str offset rb rd) m = record { bytes = refl; address = λ some. refl; written = λ some. refl }
tells_access (Ldr offset rb rd) m = record { bytes = refl; address = λ some. refl; written = λ some. refl }
tells_access (Strb offset rb rd) m = record { bytes = refl; address = λ some. refl; written = λ some. refl }
tells_access (Ldrb offset rb rd) m = record { bytes = refl; address = λ some. refl; written = λ some. refl }
tells_access (AddPc rd imm) m = none m
tells_access (Branch condition offset) m = none m
tells_access (Halt note) m = none m

pub completed_tells : CompletedTells
unfolding step_traffic
completed_tells m memory i is completed = rw (completed, is) (tells_access i m)

-- ---- a run

-- a memory of another size is refused before the first step
refused_first : (budget : ℕ) (m : Machine) (memory : List ℕ) → eqb (length memory) memory_bytes ≡ false
    → (run_of budget m memory).count ≡ 0
unfolding run_of
refused_first budget m memory e = simp e

-- what the last of so many steps from here tells
abbrev LastTells : State → ℕ → Type 0
LastTells s n = NoStep n (last_traffic n s) ⊎ LastStep s n (last_traffic n s)

pub last_traffic_is : LastTraffic
unfolding run_traffic
last_traffic_is budget m memory = go (run_of budget m memory).count refl (eqb (length memory) memory_bytes) refl
  where
    go : (n : ℕ) → (run_of budget m memory).count ≡ n → (t : Bool) → eqb (length memory) memory_bytes ≡ t
        → LastTells (state m memory) n
    go zero counted t e = inl (record { none = refl; quiet = refl })
    go (suc k) counted true e =
        let course = run_course budget m memory (eqb-true _ _ e) in
        inr (record { earlier = k; last = refl; completed = course.completed k (omega (arith, counted)); told = refl })
    go (suc k) counted false e = let none = refused_first budget m memory e in absurd (omega (arith, counted, none))
