-- An instruction's first four characters, by the bits that tell the instruction.
use mathlib.Core.List.{List}
use mathlib.Core.Path.{◌≡◌, ap}
use Prim.Native.Nat.{ℕ, ◌≤◌}
use lib.ListN.{length}
use Rattle.std.proofs.Common.{Option, None}
use Rattle.isa.specs.Decode.{entry}
use Rattle.isa.specs.declared.instruction.Instruction.{Instruction}
use Rattle.isa.proofs.Table.{no_arm}
use Rattle.lister.specs.Lines.{name_in}

-- what the `_` of a `match` on b answers, where b is the place of the instruction in its table
module _ (ds : List (Option Instruction)) {b n : ℕ} (place : b ≡ n) where
  pub no_name : length ds ≤ b → None ≡ name_in (entry ds n)
  no_name past = ap name_in (no_arm ds place past)
