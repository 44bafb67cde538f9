-- Every rule makes a value whose bounds are in order, from values whose bounds are.
use mathlib.Core.Bool.{Bool, true, false}
use mathlib.Core.Path.{◌≡◌, refl}
use Prim.Native.Nat.{ℕ, ◌+◌, ◌-◌, ◌≤◌, min, max, zero-le}
use native.Mathlib.Nat.{le_refl}
use native.Mathlib.Omega.{arith}
use borrow.Author.Tests.{ltb-false, le-ltb}
use lib.Count.{count_leading_zeros}
use lib.Dec.{ltb, leb}
use lib.Pow.{pow_mono}
use Rattle.domain.specs.Value.{largest, largest_positive, interval_of, unknown_of, exactly_of, add_of, and_of}
use Rattle.domain.specs.Value.{bit_length_of}
use Rattle.domain.specs.Value.{ones_of, eor_of, asr_of, neg_of, byte_of}
use Rattle.domain.specs.declared.value.Value.{Value}
use Rattle.domain_laws.specs.Ordered.{Ordered}

interval_ordered : (low high zeros : ℕ) → low ≤ high → high ≤ largest → Ordered (interval_of low high zeros)
unfolding interval_of
interval_ordered low high zeros h w = record { order = h; word = w }

pub unknown_ordered : Ordered unknown_of
unknown_ordered = interval_ordered 0 largest 0 zero-le (le_refl largest)

pub exactly_ordered : (x : ℕ) → x ≤ largest → Ordered (exactly_of x)
exactly_ordered x h = interval_ordered x x 0 (le_refl x) h

pub byte_ordered : Ordered byte_of
byte_ordered = interval_ordered 0 255 0 zero-le (omega arith)

pub neg_ordered : (v : Value) → Ordered (neg_of v)
neg_ordered v = interval_ordered 0 largest v.zeros zero-le (le_refl largest)

pub asr_ordered : (v : Value) → Ordered v → Ordered (asr_of v)
unfolding asr_of
asr_ordered v h = go (leb v.high largest_positive) refl
  where
    go : (t : Bool) → leb v.high largest_positive ≡ t → Ordered (asr_of v)
    go true e = rw e (interval_ordered 0 v.high 0 zero-le h.word)
    go false e = rw e (interval_ordered 0 largest 0 zero-le (le_refl largest))

module _ (v u : Value) where
  pub eor_ordered : Ordered (eor_of v u)
  unfolding eor_of
  eor_ordered =
      let m : ℕ = max v.high u.high in
      interval_ordered 0 (ones_of (bit_length_of m)) (min v.zeros u.zeros) zero-le
      (omega (arith, pow_mono {i = 16 - count_leading_zeros 16 m} {j = 16} (omega arith)))

  module _ (hv : Ordered v) (hu : Ordered u) where
    pub and_ordered : Ordered (and_of v u)
    unfolding and_of
    and_ordered = interval_ordered 0 (min v.high u.high) (max v.zeros u.zeros) zero-le (omega arith)

    pub add_ordered : Ordered (add_of v u)
    unfolding add_of
    add_ordered = go (ltb largest (v.high + u.high)) refl
      where
        go : (t : Bool) → ltb largest (v.high + u.high) ≡ t → Ordered (add_of v u)
        go true e = rw e (interval_ordered 0 largest (min v.zeros u.zeros) zero-le (le_refl largest))
        go false e =
            rw e
            (interval_ordered (min (v.low + u.low) largest) (v.high + u.high) _ (omega arith) (ltb-false _ _ e))

    -- the lower sum is not cut where the upper one fits
    pub add_low : v.high + u.high ≤ largest → (add_of v u).low ≡ v.low + u.low
    unfolding add_of interval_of
    add_low fits = simp (le-ltb _ _ fits) (omega arith)
