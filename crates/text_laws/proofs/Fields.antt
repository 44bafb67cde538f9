-- A number that is written is that number, and the cap of numbers loses nothing.
use mathlib.Core.Bool.{Bool, true, false, ◌&&◌, and-false}
use mathlib.Core.Path.{◌≡◌, refl, sym, ap, ◌∙◌}
use Prim.Native.Nat.{ℕ, ◌%◌, ◌<◌, ◌≤◌, min}
use native.Mathlib.Omega.{arith}
use lib.Dec.{eqb, leb}
use borrow.Author.Tests.{leb-true, leb-false, lt-leb}
use Rattle.text.proofs.Decimal.{decimal_number, decimal_value}
use Rattle.syntax.specs.Syntax.{too_large}
use Rattle.assembler.specs.Assemble.{in_fours}
use Rattle.text_laws.specs.Claims.{NumbersExact, FieldsExact}

pub numbers_exact : NumbersExact
numbers_exact n h = (decimal_number n h, decimal_value n h)

pub fields_exact : FieldsExact
fields_exact v most h = go (leb v too_large) refl
  where
    past : (a b : Bool) → leb too_large most ≡ false → leb v most ≡ false
        → (a && leb too_large most) ≡ (b && leb v most)
    past a b p q = rw (p, q) (and-false a ∙ sym (and-false b))

    go : (b : Bool) → leb v too_large ≡ b
        → (leb (min v too_large) most ≡ leb v most) × (in_fours most (min v too_large) ≡ in_fours most v)
    go true e =
        let l : v ≤ too_large = leb-true v too_large e in
        let m : min v too_large ≡ v = omega arith in
        (ap (λ (x : ℕ). leb x most) m, ap (in_fours most) m)
    go false e =
        let l : too_large < v = leb-false v too_large e in
        let m : min v too_large ≡ too_large = omega arith in
        let p : leb too_large most ≡ false = lt-leb too_large most (omega arith) in
        let q : leb v most ≡ false = lt-leb v most (omega arith) in (
          ap (λ (x : ℕ). leb x most) m ∙ p ∙ sym q,
          ap (in_fours most) m ∙ past (eqb (too_large % 4) 0) (eqb (v % 4) 0) p q,
        )
