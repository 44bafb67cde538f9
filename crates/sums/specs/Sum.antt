-- Sums of halfwords ("Image blocks", the sum; Change 3): one call, calls from the front and from the back,
-- and the plain sum.
use Rattle.std.specs.Prelude.{ℕ, zero, suc, ◌+◌}
use Rattle.units.specs.Address.{wrap}

-- what a call answers: the sum up to now and one halfword more, modulo 65,536
abbrev pub added_to : ℕ → ℕ → ℕ
added_to sum h = wrap (sum + h)

-- after calls for h 0, h 1, .., h (n - 1): the first halfword first, and 0 before the first call
unfoldable pub sum_below : (ℕ → ℕ) → ℕ → ℕ
sum_below h zero = 0
sum_below h (suc n) = added_to (sum_below h n) (h n)

-- after k calls that go down to h n: the last halfword, h (n + k - 1), first, and 0 before the first call
unfoldable pub sum_down_to : (ℕ → ℕ) → ℕ → ℕ → ℕ
sum_down_to h n zero = 0
sum_down_to h n (suc k) = added_to (sum_down_to h (suc n) k) (h n)

-- h n + h (n + 1) + ..: k numbers, added up with no call and nothing wrapped
unfoldable pub plain_sum : (ℕ → ℕ) → ℕ → ℕ → ℕ
plain_sum h n zero = 0
plain_sum h n (suc k) = h n + plain_sum h (suc n) k
