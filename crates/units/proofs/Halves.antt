-- A halfword from its bytes, and its bytes from the halfword.
use Rattle.std.proofs.Common.{◌≡◌, ℕ, ◌+◌, ◌*◌, ◌/◌, ◌%◌, ◌<◌, arith}

pub rejoined : (h low high : ℕ) → low ≡ h % 256 → high ≡ h / 256 → low + high * 256 ≡ h
rejoined h low high p q = omega arith

pub low_byte : (a b : ℕ) → a < 256 → (a + b * 256) % 256 ≡ a
low_byte a b h = omega arith

pub high_byte : (a b : ℕ) → a < 256 → (a + b * 256) / 256 ≡ b
high_byte a b h = omega arith
