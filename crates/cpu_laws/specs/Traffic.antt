-- What is claimed of traffic (Change 2), in the request's words.
use Rattle.std.specs.Prelude.{List, ◌⊎◌, ◌≡◌, ℕ, suc, ◌+◌, ◌<◌, Some}
use Rattle.units.specs.Address.{wrap}
use Rattle.isa.specs.Access.{Access, access_of}
use Rattle.isa.specs.declared.instruction.Instruction.{Instruction}
use Rattle.traffic.specs.declared.data.Traffic.{Traffic}
use Rattle.traffic.specs.declared.data.Traffic.TheVariants.{NoData}
use Rattle.traffic.specs.Data.{bytes_touched, address_touched, is_written}
use Rattle.cpu.specs.declared.machine.Machine.{Machine}
use Rattle.cpu.specs.declared.outcome.Outcome.TheVariants.{Completed}
use Rattle.cpu.specs.Machine.{reg}
use Rattle.cpu.specs.Step.{State, fetched, step_of}
use Rattle.cpu.specs.Traffic.{step_traffic}
use Rattle.runner.specs.Run.{state, outcome_at, state_after, run_of}
use Rattle.runner.specs.Traffic.{traffic_at, run_traffic}

-- an access is told in full: how many bytes, from which address on, the wrapped one, and whether they are written.
-- Where there is none, no byte is
pub record Tells (m : Machine) (access : Access) (t : Traffic) : Type 0 where
  pub bytes : bytes_touched t ≡ access.size
  pub address : 0 < access.size → address_touched t ≡ wrap (reg m access.base + access.offset)
  pub written : 0 < access.size → is_written t ≡ access.stores

-- a completed step tells the data of the instruction that it fetched
abbrev pub CompletedTells : Type 0
CompletedTells =
    (m : Machine) (memory : List ℕ) (i : Instruction) → fetched m memory ≡ Some i
    → (step_of m memory).outcome ≡ Completed
    → Tells m (access_of i) (step_traffic m memory)

-- a run that made no step says no data
pub record NoStep (count : ℕ) (t : Traffic) : Type 0 where
  pub none : count ≡ 0
  pub quiet : t ≡ NoData

-- the last step of a run from s, which completed, told what the run tells
pub record LastStep (s : State) (count : ℕ) (t : Traffic) : Type 0 where
  pub earlier : ℕ
  pub last : count ≡ suc earlier
  pub completed : outcome_at (state_after earlier s) ≡ Completed
  pub told : t ≡ traffic_at (state_after earlier s)

-- one or the other, with any budget and in a memory of any size
abbrev pub LastTraffic : Type 0
LastTraffic =
    (budget : ℕ) (m : Machine) (memory : List ℕ)
    → NoStep (run_of budget m memory).count (run_traffic budget m memory)
    ⊎ LastStep (state m memory) (run_of budget m memory).count (run_traffic budget m memory)
