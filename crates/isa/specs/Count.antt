-- How many halfwords are defined ("Encodings").
use Rattle.std.specs.Prelude.{ℕ, zero, suc, ◌+◌, Option, Some, None}
use Rattle.isa.specs.Decode.{decode_of}
use Rattle.isa.specs.declared.instruction.Instruction.{Instruction}

abbrev pub one : Option Instruction → ℕ
one (Some i) = 1
one None = 0

-- of the halfwords below n
abbrev pub defined_below : ℕ → ℕ
defined_below zero = 0
defined_below (suc n) = one (decode_of n) + defined_below n
