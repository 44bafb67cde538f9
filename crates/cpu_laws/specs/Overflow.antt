-- V says that a signed result doesn't fit in 16 bits ("One step": flags). A signed number is told by itself plus
-- 32,768, so that there is no need of negative numbers.
use Rattle.std.specs.Prelude.{Bool, not, ◌&&◌, ◌≡◌, ℕ, ◌+◌, ◌<◌, leb, ltb}
use Rattle.units.specs.Address.{wrap}
use Rattle.alu.specs.Alu.{sum_flags, difference_flags}

-- the signed number x, plus 32,768
abbrev pub raised : ℕ → ℕ
raised x = wrap (x + 32768)

-- a raised number from 0 to 65,535, given as p less q
abbrev pub fits : ℕ → ℕ → Bool
fits p q = leb q p && ltb p (q + 65536)

abbrev pub SumOverflows : Type 0
SumOverflows = (a b : ℕ) → a < 65536 → b < 65536 → (sum_flags a b).v ≡ not (fits (raised a + raised b) 32768)

abbrev pub DifferenceOverflows : Type 0
DifferenceOverflows =
    (a b : ℕ) → a < 65536 → b < 65536 → (difference_flags a b).v ≡ not (fits (raised a + 32768) (raised b))
