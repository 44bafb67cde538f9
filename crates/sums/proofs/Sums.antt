-- From the front or from the back, a sum is the plain sum, wrapped.
use Rattle.std.proofs.Common.{◌≡◌, ℕ, zero, suc, ◌+◌, ◌-◌, ◌%◌, ◌<◌, ◌≤◌, sym, refl, ap, ◌∙◌, ap₂, zero-add, arith}
use Rattle.units.specs.Address.{wrap}
use Rattle.sums.specs.Sum.{added_to, sum_below, sum_down_to, plain_sum}

module _ (h : ℕ → ℕ) where
  -- from the back, whatever the place and the number of calls
  pub down_plain : (n k : ℕ) → sum_down_to h n k ≡ wrap (plain_sum h n k)
  unfolding sum_down_to plain_sum
  down_plain n zero = refl
  down_plain n (suc k) = let rest = down_plain (suc n) k in omega arith

  -- one call more, for the halfword before halfword j, where the first call was for halfword end - 1
  pub down_next : (j end : ℕ) → 0 < j → j ≤ end
      → added_to (sum_down_to h j (end - j)) (h (j - 1)) ≡ sum_down_to h (j - 1) (end - (j - 1))
  unfolding sum_down_to
  down_next j end some fits =
      let calls : end - (j - 1) ≡ suc (end - j) = omega arith in
      let place : j ≡ suc (j - 1) = omega arith in
      rw calls (ap (λ (n : ℕ). added_to (sum_down_to h n (end - j)) (h (j - 1))) place)

  -- the last of the numbers, taken out of the plain sum
  plain_last : (n k : ℕ) → plain_sum h n (suc k) ≡ plain_sum h n k + h (n + k)
  unfolding plain_sum
  plain_last n zero = let here : n ≡ n + 0 = omega arith in let same = ap h here in omega arith
  plain_last n (suc k) =
      let there : suc n + k ≡ n + suc k = omega arith in
      let same = ap h there in
      let rest = plain_last (suc n) k in
      omega arith

  -- from the front
  below_plain : (n : ℕ) → sum_below h n ≡ wrap (plain_sum h 0 n)
  unfolding sum_below plain_sum
  below_plain zero = refl
  below_plain (suc n) =
      let before = below_plain n in
      let last = plain_last 0 n in
      let same = ap h (zero-add n) in
      omega arith

  -- when all are added, the order has made no difference
  pub down_below : (n : ℕ) → sum_down_to h 0 n ≡ sum_below h n
  down_below n = down_plain 0 n ∙ sym (below_plain n)

  -- a sum is below 65,536
  pub sum_less : (n : ℕ) → sum_below h n < 65536
  unfolding sum_below
  sum_less zero = omega arith
  sum_less (suc n) = omega arith

-- the sums of the same halfwords
pub sum_same : (f g : ℕ → ℕ) (n : ℕ) → ((j : ℕ) → j < n → f j ≡ g j) → sum_below f n ≡ sum_below g n
unfolding sum_below
sum_same f g zero same = refl
sum_same f g (suc n) same = ap₂ added_to (sum_same f g n (λ j h. same j (omega arith))) (same n (omega arith))

-- what brings a sum back to 0, and that nothing else does
pub sum_back : (s : ℕ) → s < 65536 → wrap (s + wrap (65536 - s)) ≡ 0
sum_back s h = omega arith

pub back_unique : (r s : ℕ) → r < 65536 → s < 65536 → (r + s) % 65536 ≡ 0 → r ≡ wrap (65536 - s)
back_unique r s hr hs e = omega arith
