-- The word that holds an abstract value.
use Rattle.std.specs.Prelude.{ℕ, ◌≡◌, ◌+◌, ◌*◌, ◌/◌, ◌%◌}
use Rattle.std.proofs.Common.{arith}

-- its parts give it back
pub parts_joined : (w : ℕ) → w % 0x10000 + w / 0x10000 % 0x10000 * 0x10000 + w / 0x100000000 * 0x100000000 ≡ w
parts_joined w = omega arith
