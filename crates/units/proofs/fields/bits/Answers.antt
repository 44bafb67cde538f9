-- A shift drops the bits below the field, and a mask of ones those above it.
use Rattle.std.proofs.Common.{◌≡◌, ℕ, ◌*◌, ◌/◌, ◌%◌, ◌^◌, ◌≤◌, ◌∙◌, one-mul, arith, lit<, shl_exact}
use lib.Bits.{and_mask}
use Rattle.units.proofs.fields.bits.Goals as goal

-- 1 shifted left by a width is a power of two, which fits
one_shifted : (n : ℕ) → n ≤ 8 → 1 * 2 ^ n % 65536 ≡ 2 ^ n
one_shifted n h = shl_exact {a = 1} 1 n 16 (lit< tt) (omega arith) ∙ one-mul (2 ^ n)

pub returns : goal.returns
returns c =
    let width = c.args.width in
    rw (one_shifted width (omega arith)) (and_mask (c.args.h / 2 ^ c.args.at) width)
