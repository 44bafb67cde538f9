-- V, by the signs of the operands and of the result.
use mathlib.Core.Bool.{Bool, true, false, not}
use mathlib.Core.Path.{◌≡◌, refl}
use Prim.Native.Nat.{ℕ, ◌+◌, ◌<◌, ◌≤◌}
use native.Mathlib.Omega.{arith}
use borrow.Author.Tests.{leb-true, leb-false, le-leb, lt-leb, lt-ltb, le-ltb}
use Rattle.alu.specs.Alu.{negative, sum_of, sum_flags, difference_of, difference_flags}
use Rattle.cpu_laws.specs.Overflow.{raised, fits, SumOverflows, DifferenceOverflows}

fits_so : (p q : ℕ) → q ≤ p → p < q + 65536 → fits p q ≡ true
fits_so p q l h = simp (le-leb q p l, lt-ltb p (q + 65536) h)

too_low : (p q : ℕ) → p < q → fits p q ≡ false
too_low p q l = simp (lt-leb q p l)

too_high : (p q : ℕ) → q + 65536 ≤ p → fits p q ≡ false
too_high p q l = let m : q ≤ p = omega arith in simp (le-leb q p m, le-ltb p (q + 65536) l)

-- what a sign tells
abbrev Signed : Bool → ℕ → Type 0
Signed true x = 32768 ≤ x
Signed false x = x < 32768

signed : (x : ℕ) (t : Bool) → negative x ≡ t → Signed t x
signed x true e = leb-true 32768 x e
signed x false e = leb-false 32768 x e

module _ (a b : ℕ) (la : a < 65536) (lb : b < 65536) where
  abbrev total : ℕ
  total = raised a + raised b

  sum_v : (sum_flags a b).v ≡ not (fits total 32768)
  sum_v = go _ _ _ refl refl refl (signed a _ refl) (signed b _ refl) (signed (sum_of a b) _ refl)
    where
      go : (s t u : Bool) → negative a ≡ s → negative b ≡ t → negative (sum_of a b) ≡ u
          → Signed s a → Signed t b → Signed u (sum_of a b) → (sum_flags a b).v ≡ not (fits total 32768)
      go true true true e f g p q r = simp (e, f, g, fits_so total 32768 (omega arith) (omega arith))
      go true true false e f g p q r = simp (e, f, g, too_low total 32768 (omega arith))
      go true false true e f g p q r = simp (e, f, g, fits_so total 32768 (omega arith) (omega arith))
      go true false false e f g p q r = simp (e, f, g, fits_so total 32768 (omega arith) (omega arith))
      go false true true e f g p q r = simp (e, f, g, fits_so total 32768 (omega arith) (omega arith))
      go false true false e f g p q r = simp (e, f, g, fits_so total 32768 (omega arith) (omega arith))
      go false false true e f g p q r = simp (e, f, g, too_high total 32768 (omega arith))
      go false false false e f g p q r = simp (e, f, g, fits_so total 32768 (omega arith) (omega arith))

  abbrev wide : ℕ
  wide = raised a + 32768

  difference_v : (difference_flags a b).v ≡ not (fits wide (raised b))
  difference_v = go _ _ _ refl refl refl (signed a _ refl) (signed b _ refl) (signed (difference_of a b) _ refl)
    where
      go : (s t u : Bool) → negative a ≡ s → negative b ≡ t → negative (difference_of a b) ≡ u
          → Signed s a → Signed t b → Signed u (difference_of a b)
          → (difference_flags a b).v ≡ not (fits wide (raised b))
      go true true true e f g p q r = simp (e, f, g, fits_so wide (raised b) (omega arith) (omega arith))
      go true true false e f g p q r = simp (e, f, g, fits_so wide (raised b) (omega arith) (omega arith))
      go true false true e f g p q r = simp (e, f, g, fits_so wide (raised b) (omega arith) (omega arith))
      go true false false e f g p q r = simp (e, f, g, too_low wide (raised b) (omega arith))
      go false true true e f g p q r = simp (e, f, g, too_high wide (raised b) (omega arith))
      go false true false e f g p q r = simp (e, f, g, fits_so wide (raised b) (omega arith) (omega arith))
      go false false true e f g p q r = simp (e, f, g, fits_so wide (raised b) (omega arith) (omega arith))
      go false false false e f g p q r = simp (e, f, g, fits_so wide (raised b) (omega arith) (omega arith))

pub sum_overflows : SumOverflows
sum_overflows = sum_v

pub difference_overflows : DifferenceOverflows
difference_overflows = difference_v
