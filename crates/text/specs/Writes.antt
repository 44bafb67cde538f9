-- What a writer has room for, and what it has written.
use Rattle.std.specs.Prelude.{List, ℕ, ◌≡◌, ◌+◌, ◌-◌, ◌≤◌, length, drop, replicate}
use Rattle.text.specs.Text.{Text, written}
use Rattle.text.specs.declared.writer.Writer.{Writer}

-- a writer's room has room for a text from its place on
abbrev pub Fits : Text → Writer → Type 0
Fits t w = w.at + length t ≤ length w.room.now

-- a text was written into a writer's room from its place on
pub record Grew (t : Text) (before after : Writer) : Type 0 where
  pub same : after.room.ghost_name ≡ before.room.ghost_name
  pub place : after.at ≡ before.at + length t
  pub room : after.room.now ≡ written before.at t before.room.now
  pub kept : length after.room.now ≡ length before.room.now

-- zeros stand from a place on
abbrev pub ZerosFrom : ℕ → List ℕ → Type 0
ZerosFrom at bytes = drop at bytes ≡ replicate (length bytes - at) 0
