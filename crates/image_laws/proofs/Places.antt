-- A byte's place from its block, its halfword and which of the two bytes it is.
use mathlib.Core.Path.{◌≡◌}
use Prim.Native.Nat.{ℕ, ◌+◌, ◌*◌, ◌/◌, ◌%◌, ◌<◌}
use native.Mathlib.Omega.{arith}

pub half_less : (r : ℕ) → r < 512 → r / 2 < 256
half_less r h = omega arith

pub even_place : (p q r : ℕ) → p ≡ 512 * q + r → p % 2 ≡ 0 → 512 * q + 2 * (r / 2) ≡ p
even_place p q r e z = omega arith

pub odd_place : (p q r : ℕ) → p ≡ 512 * q + r → p % 2 ≡ 1 → 512 * q + 2 * (r / 2) + 1 ≡ p
odd_place p q r e z = omega arith
