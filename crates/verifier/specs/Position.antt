-- The blocks of a code, one after the other ("Image blocks"). Only the contracts of private functions speak of it.
use Rattle.std.specs.Prelude.{ℕ, ◌*◌, min}
use Rattle.image.specs.Format.{block_code}

-- how many instructions stand in the blocks before block k, in a code of n
abbrev pub before_block : ℕ → ℕ → ℕ
before_block k n = min (block_code * k) n
