-- A block's window in one number. Only the contracts of private functions speak of it.
use Rattle.std.specs.Prelude.{List, ◌≡◌, ℕ, ◌+◌, ◌*◌, ◌<◌}
use Rattle.image.specs.Block.{window_start_of, window_length_of}

-- the start in the low 16 bits, the length above
abbrev pub WindowIs : List ℕ → ℕ → Type 0
WindowIs block window = (window ≡ window_start_of block + window_length_of block * 65536)
    × (window_start_of block < 65536)
