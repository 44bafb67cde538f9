-- What an abstract value says of a number.
use Rattle.std.specs.Prelude.{◌≡◌, ℕ, ◌%◌, ◌^◌, ◌≤◌}
use Rattle.domain.specs.Value.{largest}
use Rattle.domain.specs.declared.value.Value.{Value}

-- x lies between the bounds, and its low bits are 0; the bounds are of 16 bits, and so is the count
pub record Holds (v : Value) (x : ℕ) : Type 0 where
  pub low : v.low ≤ x
  pub high : x ≤ v.high
  pub zeros : x % 2 ^ v.zeros ≡ 0
  pub word : v.high ≤ largest
  pub count : v.zeros ≤ 16
