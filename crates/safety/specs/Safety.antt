-- Demand 3: what holds of every run of a program that the verifier calls fit ("Words of demand 3").
use Rattle.std.specs.Prelude.{List, ◌⊎◌, ◌≡◌, ℕ, ◌+◌, ◌%◌, ◌≤◌, ◌<◌, length, Some, Ok}
use Rattle.units.specs.Address.{memory_bytes}
use Rattle.units.specs.Bytes.{byte_at}
use Rattle.isa.specs.declared.instruction.Instruction.{Instruction}
use Rattle.isa.specs.declared.instruction.Instruction.TheVariants.{Halt}
use Rattle.image.specs.declared.checker.Layout.{Layout}
use Rattle.verifier.specs.Verify.{verify_of}
use Rattle.cpu.specs.declared.machine.Machine.{Machine}
use Rattle.cpu.specs.declared.outcome.Outcome.TheVariants as step
use Rattle.runner.specs.declared.runs.RunOutcome.TheVariants as run
use Rattle.cpu.specs.Machine.{reg, pc}
use Rattle.traffic.specs.declared.data.Traffic.{Traffic}
use Rattle.cpu.specs.Step.{State, fetched}
use Rattle.traffic.specs.Data.{address_touched, bytes_touched}
use Rattle.runner.specs.Run.{RunResult, state, outcome_at, state_after, run_of}
use Rattle.runner.specs.Traffic.{traffic_at, run_traffic}
use Rattle.cpu_laws.specs.Course.{final_state}
use Rattle.loader.specs.Load.{code_byte, load_of, memory_after_load}

-- a start: any registers of 16 bits, any flags and any note, the PC at 0
pub record Start (m : Machine) : Type 0 where
  pub sixteen : length m.regs ≡ 16
  pub halfwords : (r : ℕ) → reg m r < 65536
  pub at_zero : pc m ≡ 0

-- a memory that holds the code of a file: 65,536 bytes, of which the first c are the code
pub record HoldsCode (file : List ℕ) (layout : Layout) (memory : List ℕ) : Type 0 where
  pub size : length memory ≡ memory_bytes
  pub bytes : (a : ℕ) → byte_at memory a < 256
  pub code : (a : ℕ) → a < layout.code_bytes → byte_at memory a ≡ code_byte file a

-- so many bytes from an address lie in the window
abbrev pub InWindow : Layout → ℕ → ℕ → Type 0
InWindow layout a size = (layout.window_start ≤ a) × (a + size ≤ layout.window_start + layout.window_length)

-- the data that are touched, if any, lie in the window, at a multiple of 4 where they are a halfword
pub record SafeTraffic (layout : Layout) (t : Traffic) : Type 0 where
  pub inside : 0 < bytes_touched t → InWindow layout (address_touched t) (bytes_touched t)
  pub aligned : bytes_touched t ≡ 2 → address_touched t % 4 ≡ 0

-- a state of the run: its instruction is fetched from the code and defined, no stop comes next, so that a load or
-- store there tells its data, and those are in the window; memory has all its bytes, and each outside the window is
-- as it was at the start
pub record SafeState (layout : Layout) (memory : List ℕ) (s : State) : Type 0 where
  pub even : pc s.machine % 2 ≡ 0
  pub fetch : pc s.machine + 2 ≤ layout.code_bytes
  pub instruction : Instruction
  pub defined : fetched s.machine s.memory ≡ Some instruction
  pub goes_on : (outcome_at s ≡ step.Completed) ⊎ (outcome_at s ≡ step.Halted)
  pub traffic : SafeTraffic layout (traffic_at s)
  pub size : length s.memory ≡ memory_bytes
  pub kept : (a : ℕ) → (InWindow layout a 1 → ⊥) → byte_at s.memory a ≡ byte_at memory a

-- the window of two memories is the same
abbrev pub SameWindow : Layout → List ℕ → List ℕ → Type 0
SameWindow layout memory other = (a : ℕ) → InWindow layout a 1 → byte_at memory a ≡ byte_at other a

-- two runs have the same registers, flags, note, window, ending and count
pub record SameResult (layout : Layout) (r q : RunResult) : Type 0 where
  pub machine : r.state.machine ≡ q.state.machine
  pub window : SameWindow layout r.state.memory q.state.memory
  pub outcome : r.outcome ≡ q.outcome
  pub count : r.count ≡ q.count

-- a run ends by HALT, which its last state fetches with some of the budget left, and whose note the machine then has
pub record EndsByHalt (budget : ℕ) (r : RunResult) : Type 0 where
  pub outcome : r.outcome ≡ run.Halted
  pub left : r.count < budget
  pub halt : fetched r.state.machine r.state.memory ≡ Some (Halt r.state.machine.note)

-- or it ends spent, when as many steps are completed as the budget has
pub record EndsSpent (budget : ℕ) (r : RunResult) : Type 0 where
  pub outcome : r.outcome ≡ run.Spent
  pub all : r.count ≡ budget

-- a whole run: each state is safe, from the start to the last, and each but the last completes its step; the run
-- leaves the last as it is, but for the note if it ends by HALT; it ends by HALT or spent; the data that it tells of
-- are in the window; and nothing outside code and window has a part in it, nor in what it tells
pub record SafeRun (file : List ℕ) (layout : Layout) (m : Machine) (memory : List ℕ) (budget : ℕ) : Type 0 where
  pub states : (k : ℕ) → k ≤ (run_of budget m memory).count → SafeState layout memory (state_after k (state m memory))
  pub completed : (k : ℕ) → k < (run_of budget m memory).count
      → outcome_at (state_after k (state m memory)) ≡ step.Completed
  pub last : (run_of budget m memory).state
      ≡ final_state (run_of budget m memory).outcome (state_after (run_of budget m memory).count (state m memory))
  pub ends : EndsByHalt budget (run_of budget m memory) ⊎ EndsSpent budget (run_of budget m memory)
  pub traffic : SafeTraffic layout (run_traffic budget m memory)
  pub alike : (other : List ℕ) → HoldsCode file layout other → SameWindow layout memory other
      → SameResult layout (run_of budget m memory) (run_of budget m other)
      × (run_traffic budget m memory ≡ run_traffic budget m other)

-- demand 3, over every file, memory, start and budget
abbrev pub Demand3 : Type 0
Demand3 =
    (file : List ℕ) (layout : Layout) → verify_of file ≡ Ok layout
    → (memory : List ℕ) → HoldsCode file layout memory
    → (m : Machine) → Start m
    → (budget : ℕ) → SafeRun file layout m memory budget

-- what a load leaves, if it isn't refused, is a memory that holds the code of a fit file: so a load and then a run is
-- covered
abbrev pub LoadHolds : Type 0
LoadHolds =
    (file memory : List ℕ) → ((a : ℕ) → byte_at file a < 256) → ((a : ℕ) → byte_at memory a < 256)
    → (layout : Layout) → load_of file memory ≡ Ok layout
    → (verify_of file ≡ Ok layout) × HoldsCode file layout (memory_after_load file memory)
