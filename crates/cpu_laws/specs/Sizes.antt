-- Registers are 16 bits, and memory is 65,536 bytes ("One step"): steps keep them so.
use Rattle.std.specs.Prelude.{List, ◌≡◌, ℕ, ◌<◌, length, get_or}
use Rattle.units.specs.Address.{memory_bytes}
use Rattle.cpu.specs.Step.{State}
use Rattle.runner.specs.Run.{state_after}

-- n numbers below a bound
pub record Row (n bound : ℕ) (xs : List ℕ) : Type 0 where
  pub count : length xs ≡ n
  pub below : (i : ℕ) → get_or xs i 0 < bound

-- sixteen registers
abbrev pub Registers : List ℕ → Type 0
Registers regs = Row 16 65536 regs

-- all of memory
abbrev pub Bytes : List ℕ → Type 0
Bytes memory = Row memory_bytes 256 memory

pub record Sized (s : State) : Type 0 where
  pub registers : Registers s.machine.regs
  pub bytes : Bytes s.memory

-- after any number of steps
abbrev pub StatesSized : Type 0
StatesSized = (s : State) → Sized s → (k : ℕ) → Sized (state_after k s)
