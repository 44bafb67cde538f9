-- Which bytes of memory have a part in a step ("Words of demand 3", and Change 2): the halfword that it fetches, and
-- the data that it says it touched. What is claimed here holds of every machine and memory, whether the code was
-- judged or not.
use Rattle.std.specs.Prelude.{true, false, List, ◌≡◌, ℕ, ◌+◌, ◌%◌, ◌≤◌, ◌<◌, length}
use Rattle.units.specs.Address.{memory_bytes}
use Rattle.units.specs.Bytes.{byte_at}
use Rattle.cpu.specs.declared.machine.Machine.{Machine}
use Rattle.traffic.specs.declared.data.Traffic.{Traffic}
use Rattle.cpu.specs.Machine.{pc}
use Rattle.cpu.specs.Step.{StepResult, step_of}
use Rattle.traffic.specs.Data.{address_touched, bytes_touched, is_written}
use Rattle.cpu.specs.Traffic.{step_traffic}

-- byte a is one of the data
pub record Touches (t : Traffic) (a : ℕ) : Type 0 where
  pub from : address_touched t ≤ a
  pub below : a < address_touched t + bytes_touched t

-- it is read: touched, and not written. No data touch no byte
pub record Reads (t : Traffic) (a : ℕ) : Type 0 where
  pub reads : is_written t ≡ false
  pub touches : Touches t a

pub record Writes (t : Traffic) (a : ℕ) : Type 0 where
  pub writes : is_written t ≡ true
  pub touches : Touches t a

-- a step fetches byte a; from an odd PC it fetches none, since stop 18 comes first
pub record Fetches (m : Machine) (a : ℕ) : Type 0 where
  pub even : pc m % 2 ≡ 0
  pub from : pc m ≤ a
  pub below : a < pc m + 2

-- the data of a step are bytes of memory: a halfword at a multiple of 4 never comes round from the last byte to the
-- first
abbrev pub DataInMemory : Type 0
DataInMemory = (m : Machine) (memory : List ℕ) (a : ℕ) → Touches (step_traffic m memory) a → a < memory_bytes

-- what a step leaves of memory: it is as long as before, each byte that isn't told as written is as before, and where
-- none is told, all of memory is
pub record Keeps (memory : List ℕ) (t : Traffic) (after : List ℕ) : Type 0 where
  pub size : length after ≡ length memory
  pub others : (a : ℕ) → (Writes t a → ⊥) → byte_at after a ≡ byte_at memory a
  pub unwritten : is_written t ≡ false → after ≡ memory

abbrev pub StepKeeps : Type 0
StepKeeps = (m : Machine) (memory : List ℕ) → Keeps memory (step_traffic m memory) (step_of m memory).state.memory

-- another memory that is as long and has the same in the bytes that a step fetches, and in those that it reads
pub record Agrees (m : Machine) (memory other : List ℕ) : Type 0 where
  pub size : length memory ≡ length other
  pub fetch : (a : ℕ) → Fetches m a → byte_at memory a ≡ byte_at other a
  pub read : (a : ℕ) → Reads (step_traffic m memory) a → byte_at memory a ≡ byte_at other a

-- two steps with the same registers, flags, note and ending after them. What they write is the same, and each other
-- byte in which the memories were the same before is the same in both afterwards
pub record Alike (memory other : List ℕ) (t : Traffic) (r q : StepResult) : Type 0 where
  pub machine : r.state.machine ≡ q.state.machine
  pub outcome : r.outcome ≡ q.outcome
  pub written : (a : ℕ) → Writes t a → byte_at r.state.memory a ≡ byte_at q.state.memory a
  pub bytes : (a : ℕ) → byte_at memory a ≡ byte_at other a → byte_at r.state.memory a ≡ byte_at q.state.memory a

-- nothing else of memory has a part in a step: it does the same, and tells the same
abbrev pub StepAlike : Type 0
StepAlike =
    (m : Machine) (memory other : List ℕ) → Agrees m memory other
    → Alike memory other (step_traffic m memory) (step_of m memory) (step_of m other)
    × (step_traffic m memory ≡ step_traffic m other)
