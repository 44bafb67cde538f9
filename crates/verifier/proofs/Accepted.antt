-- What the check of a file says of its code.
use mathlib.Core.List.{List}
use mathlib.Core.Path.{◌≡◌, ap, ◌∙◌}
use Prim.Native.Nat.{ℕ}
use native.Mathlib.Omega.{arith}
use lib.ListN.{length}
use Rattle.units.specs.Address.{instruction_index_of}
use Rattle.units.specs.declared.address.InstructionIndex.{InstructionIndex}
use Rattle.image.specs.Check.{check_of}
use Rattle.image.specs.Code.{code_of}
use Rattle.image.specs.declared.checker.Layout.{Layout}
use Rattle.image.proofs.Valid.{valid_code_bytes}
use Rattle.std.specs.Prelude.{Ok}

-- the layout counts the code's instructions
pub count_is : (file : List ℕ) (layout : Layout) → check_of file ≡ Ok layout → (k : InstructionIndex)
    → k ≡ instruction_index_of (record { 0 = layout.code_bytes }) → k.0 ≡ length (code_of file)
count_is file layout ok k e = ap (λ (x : InstructionIndex). x.0) e ∙ omega (arith, valid_code_bytes file layout ok)
