-- The flags N, Z, C and V ("One step").
use Rattle.std.specs.Prelude.{Bool}

pub record Flags : Type 0 where
  pub n : Bool
  pub z : Bool
  pub c : Bool
  pub v : Bool
