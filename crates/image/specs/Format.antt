-- The numbers of an image, and lists made by a rule ("Image blocks").
use Rattle.std.specs.Prelude.{List, [], ◌∷◌, ℕ, zero, suc, ◌*◌}

-- halfword 0 of every block
abbrev pub mark : ℕ
mark = 0xD0C1

-- a block's length in bytes, and in halfwords
abbrev pub block_bytes : ℕ
block_bytes = 512

abbrev pub block_halfwords : ℕ
block_halfwords = 256

-- the halfwords before a block's code, and the bytes that they are
abbrev pub header_halfwords : ℕ
header_halfwords = 6

abbrev pub header_bytes : ℕ
header_bytes = 12

-- the code halfwords that a block holds
abbrev pub block_code : ℕ
block_code = 249

-- an image has at most so many blocks, and so at most so many bytes and code halfwords
abbrev pub most_blocks : ℕ
most_blocks = 64

abbrev pub most_bytes : ℕ
most_bytes = block_bytes * most_blocks

abbrev pub most_code : ℕ
most_code = block_code * most_blocks

-- f i, f (i + 1), ..: n values
unfoldable pub tabulate_from : (ℕ → ℕ) → ℕ → ℕ → List ℕ
tabulate_from f i zero = []
tabulate_from f i (suc n) = f i ∷ tabulate_from f (suc i) n

-- f 0 to f (n - 1)
abbrev pub tabulate : (ℕ → ℕ) → ℕ → List ℕ
tabulate f n = tabulate_from f 0 n
