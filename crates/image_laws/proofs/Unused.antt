-- Unused halfwords of a block, all of them and each.
use mathlib.Core.Bool.{true, ◌&&◌, and-eq-true_iff}
use mathlib.Core.Logic.{⊎_elim}
use mathlib.Core.Path.{◌≡◌, refl, ap, ap₂, ◌∙◌}
use mathlib.Core.List.{List}
use Prim.Native.Nat.{ℕ, zero, suc, ◌+◌, ◌<◌}
use native.Mathlib.Nat.{eq-or-lt_of_le}
use native.Mathlib.Omega.{arith}
use borrow.Author.Tests.{eq-eqb, eqb-true}
use lib.Dec.{eqb}
use Rattle.image.specs.Block.{code_halfword}
use Rattle.image.specs.Check.{unused_zero}

-- unused halfwords are 0, said of the row and of each
pub unused_all : (block : List ℕ) (used n : ℕ) → ((m : ℕ) → m < n → code_halfword block (used + m) ≡ 0)
    → unused_zero block used n ≡ true
unfolding unused_zero
unused_all block used zero z = refl
unused_all block used (suc n) z =
    ap₂ ◌&&◌
    (unused_all block used n (λ m h. z m (omega arith)))
    (eq-eqb (code_halfword block (used + n)) 0 (z n (omega arith)))

pub unused_each : (block : List ℕ) (used n m : ℕ) → unused_zero block used n ≡ true → m < n
    → code_halfword block (used + m) ≡ 0
unfolding unused_zero
unused_each block used zero m e h = elim h [ ]
unused_each block used (suc n) m e h =
    let both = (and-eq-true_iff (unused_zero block used n) (eqb (code_halfword block (used + n)) 0)).0 e in
    ⊎_elim
    (λ q. ap (λ (x : ℕ). code_halfword block (used + x)) q ∙ eqb-true _ _ both.1)
    (λ lt. unused_each block used n m both.0 lt)
    (eq-or-lt_of_le {n = m} {m = n} (omega arith))
