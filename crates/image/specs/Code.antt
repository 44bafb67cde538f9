-- The code of a file ("Image blocks"): what its blocks hold, one after the other.
use Rattle.std.specs.Prelude.{List, ℕ, ◌+◌, ◌-◌, ◌*◌, ◌/◌, ◌%◌}
use Rattle.units.specs.Bytes.{halfword_at}
use Rattle.image.specs.Format.{block_bytes, block_code, header_bytes, tabulate}
use Rattle.image.specs.Block.{blocks_in, block_of, used_of}

-- where in the file code halfword i starts: every block before its own is full
abbrev pub code_position : ℕ → ℕ
code_position i = i / block_code * block_bytes + header_bytes + 2 * (i % block_code)

unfoldable pub code_at : List ℕ → ℕ → ℕ
code_at file i = halfword_at file (code_position i)

-- how many code halfwords: the blocks before the last are full
unfoldable pub code_length : List ℕ → ℕ
code_length file = block_code * (blocks_in file - 1) + used_of (block_of file (blocks_in file - 1))

unfoldable pub code_of : List ℕ → List ℕ
code_of file = tabulate (code_at file) (code_length file)
