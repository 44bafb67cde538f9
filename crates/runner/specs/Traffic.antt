-- What a run tells of memory (Change 2): it passes on what its last completed step touched, and says no data when it
-- made none.
use Rattle.std.specs.Prelude.{List, ℕ, zero, suc}
use Rattle.cpu.specs.declared.machine.Machine.{Machine}
use Rattle.traffic.specs.declared.data.Traffic.{Traffic}
use Rattle.traffic.specs.declared.data.Traffic.TheVariants.{NoData}
use Rattle.cpu.specs.Step.{State}
use Rattle.cpu.specs.Traffic.{step_traffic}
use Rattle.runner.specs.Run.{state, state_after, run_of}

-- what the step at a state touches
abbrev pub traffic_at : State → Traffic
traffic_at s = step_traffic s.machine s.memory

-- what the last of so many steps touched
abbrev pub last_traffic : ℕ → State → Traffic
last_traffic zero s = NoData
last_traffic (suc k) s = traffic_at (state_after k s)

unfoldable pub run_traffic : ℕ → Machine → List ℕ → Traffic
run_traffic budget m memory = last_traffic (run_of budget m memory).count (state m memory)
