-- The bytes of a name as one number.
use Prim.Native.Nat.{ℕ, ◌+◌, ◌*◌, ◌^◌, ◌<◌, ◌≤◌}
use native.Mathlib.Nat.{pow-succ', pow-le-pow_right}
use native.Mathlib.Numerals.{add-one}
use native.Mathlib.Omega.{arith}
use lib.Dec.{lit<}

-- a byte more behind at most seven
pub byte_fits : (i value c : ℕ) → i < 8 → value < 256 ^ i → c < 256 → value * 256 + c < 18446744073709551616
byte_fits i value c h l b =
    let m : 256 ^ i ≤ 256 ^ 7 = pow-le-pow_right (lit< tt) {i = i} {j = 7} (omega arith) in
    let n : value < 72057594037927936 = omega arith in
    omega arith

pub byte_more : (i value c : ℕ) → value < 256 ^ i → c < 256 → value * 256 + c < 256 ^ (i + 1)
byte_more i value c l b = rw (add-one, pow-succ') (omega arith)
