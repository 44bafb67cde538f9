-- Equal numbers are equal addresses.
use Rattle.std.proofs.Common.{◌≡◌, ℕ, ap}
use Rattle.units.specs.declared.address.ByteAddress.{ByteAddress}

pub at : {a b : ℕ} → a ≡ b → ◌≡◌ {A = ByteAddress} (record { 0 = a }) (record { 0 = b })
at e = ap (λ (x : ℕ). record { 0 = x }) e
