-- Lists of numbers, one of which is set.
use mathlib.Core.List.{List}
use mathlib.Core.Path.{◌≡◌, sym, ◌∙◌}
use Prim.Native.Nat.{ℕ, ◌≤◌, ◌<◌}
use native.Mathlib.Decide.{ℕ_discrete, dec_lt}
use native.Mathlib.Omega.{arith}
use lib.ListN.{length, get_or, set, get_or-eq_default}
use lib.Seq.{get_or-set_same, get_or-set_other, set_out}

-- two lists of one length in which the same is set: there they agree, be it past their end
pub set_here : (l k : List ℕ) (d x : ℕ) → length l ≡ length k → get_or (set l d x) d 0 ≡ get_or (set k d x) d 0
set_here l k d x s = go (dec_lt d (length l))
  where
    go : Dec (d < length l) → get_or (set l d x) d 0 ≡ get_or (set k d x) d 0
    go (yes p) = let q : d < length k = omega arith in rw (get_or-set_same l d x 0 p, get_or-set_same k d x 0 q)
    go (no n) =
        let p : length l ≤ d = omega arith in
        let q : length k ≤ d = omega arith in
        rw (set_out l d x p, set_out k d x q) (get_or-eq_default l 0 p ∙ sym (get_or-eq_default k 0 q))

-- and wherever they agreed before
pub set_alike : (l k : List ℕ) (d x i : ℕ) → length l ≡ length k → get_or l i 0 ≡ get_or k i 0
    → get_or (set l d x) i 0 ≡ get_or (set k d x) i 0
set_alike l k d x i s h = go (ℕ_discrete i d)
  where
    go : Dec (i ≡ d) → get_or (set l d x) i 0 ≡ get_or (set k d x) i 0
    go (yes e) = rw e (set_here l k d x s)
    go (no n) = rw (get_or-set_other l d i x 0 n, get_or-set_other k d i x 0 n) h
