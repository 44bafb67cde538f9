-- The machine ("One step", and Change 1): sixteen 16-bit registers, the flags N, Z, C, V, and the note that HALT
-- leaves. R15 is the PC.
use Rattle.std.specs.Prelude.{ℕ, ◌+◌, List, slice_index, slice_set}
use Rattle.units.specs.Address.{wrap}
use Rattle.alu.specs.Flags.{Flags}
use Rattle.cpu.specs.declared.machine.Machine.{Machine}

-- what a register holds; in R15 an instruction finds its own address
abbrev pub reg : Machine → ℕ → ℕ
reg m i = slice_index m.regs i

abbrev pub pc : Machine → ℕ
pc m = reg m 15

-- its flags
abbrev pub flags : Machine → Flags
flags m = record { n = m.n; z = m.z; c = m.c; v = m.v }

-- registers, flags and note put together
abbrev pub machine : List ℕ → Flags → ℕ → Machine
machine regs f note = record { regs = regs; n = f.n; z = f.z; c = f.c; v = f.v; note = note }

-- other registers and flags; the note stays
abbrev pub updated : Machine → List ℕ → Flags → Machine
updated m regs f = machine regs f m.note

-- another note; registers and flags stay
abbrev pub with_note : ℕ → Machine → Machine
with_note note m = machine m.regs (flags m) note

-- the registers when the PC has moved on to the next instruction; from the last halfword of memory it goes round to
-- the first
abbrev pub advanced : List ℕ → List ℕ
advanced regs = slice_set regs 15 (wrap (slice_index regs 15 + 2))

-- the registers when an instruction has also put x into Rd: in R15 it replaces the address of the next instruction
abbrev pub written : List ℕ → ℕ → ℕ → List ℕ
written regs rd x = slice_set (advanced regs) rd x
