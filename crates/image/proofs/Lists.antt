-- Lists made by a rule.
use mathlib.Core.Path.{◌≡◌, refl, sym, ap, ◌∙◌}
use Prim.Native.Nat.{ℕ, zero, suc, ◌+◌, ◌<◌}
use native.Mathlib.Nat.{add-zero, le_of_suc-le-suc}
use native.Mathlib.Omega.{arith}
use lib.ListN.{length, get_or}
use Rattle.image.specs.Format.{tabulate_from, tabulate}

pub length_tabulate : (f : ℕ → ℕ) (i n : ℕ) → length (tabulate_from f i n) ≡ n
unfolding tabulate_from
length_tabulate f i zero = refl
length_tabulate f i (suc n) = ap suc (length_tabulate f (suc i) n)

from_at : (f : ℕ → ℕ) (i n j : ℕ) → j < n → get_or (tabulate_from f i n) j 0 ≡ f (i + j)
unfolding tabulate_from
from_at f i zero j h = elim h [ ]
from_at f i (suc n) zero h = ap f (sym (add-zero i))
from_at f i (suc n) (suc j) h = from_at f (suc i) n j (le_of_suc-le-suc h) ∙ ap f (omega arith)

pub tabulate_at : (f : ℕ → ℕ) (n j : ℕ) → j < n → get_or (tabulate f n) j 0 ≡ f j
tabulate_at f n j h = from_at f 0 n j h ∙ ap f (omega arith)
