-- Bounds in order.
use Rattle.std.specs.Prelude.{◌≤◌}
use Rattle.domain.specs.Value.{largest}
use Rattle.domain.specs.declared.value.Value.{Value}

-- the lower bound is at most the upper one, and that is of 16 bits
pub record Ordered (v : Value) : Type 0 where
  pub order : v.low ≤ v.high
  pub word : v.high ≤ largest
