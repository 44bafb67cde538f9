-- The hypotheses of demand 3 can be met: the bench table's program P, loaded into a memory of zeros.
use Rattle.std.specs.Prelude.{List, ℕ, replicate}
use Rattle.units.specs.Address.{memory_bytes}
use Rattle.packer.specs.Pack.{image_of}
use Rattle.image.specs.declared.checker.Layout.{Layout}
use Rattle.cpu.specs.declared.machine.Machine.{Machine}
use Rattle.loader.specs.Load.{loaded_memory}
use Rattle.table_laws.specs.Table.{code_p}
use Rattle.safety.specs.Safety.{Start, SafeRun}

abbrev pub image_p : List ℕ
image_p = image_of (code_p 0x21FC) 256 256

abbrev pub layout_p : Layout
layout_p = record { code_bytes = 14; window_start = 256; window_length = 256 }

abbrev pub memory_p : List ℕ
memory_p = loaded_memory image_p layout_p (replicate memory_bytes 0)

-- P's runs from any start and with any budget are safe
abbrev pub InstanceP : Type 0
InstanceP = (m : Machine) → Start m → (budget : ℕ) → SafeRun image_p layout_p m memory_p budget
