-- A block of a file and its fields ("Image blocks", the table).
use Rattle.std.specs.Prelude.{List, ℕ, ◌+◌, ◌-◌, ◌*◌, ◌/◌, length, take, drop}
use Rattle.units.specs.Bytes.{halfword_at}
use Rattle.sums.specs.Sum.{sum_below, sum_down_to}
use Rattle.image.specs.Format.{block_bytes, block_halfwords, header_halfwords}

-- how many blocks a file has, and block k's bytes
abbrev pub blocks_in : List ℕ → ℕ
blocks_in file = length file / block_bytes

unfoldable pub block_of : List ℕ → ℕ → List ℕ
block_of file k = take block_bytes (drop (block_bytes * k) file)

-- halfword j of a block
abbrev pub halfword : List ℕ → ℕ → ℕ
halfword block j = halfword_at block (2 * j)

-- 1: the block's number
abbrev pub number_of : List ℕ → ℕ
number_of block = halfword block 1

-- 2: how many code halfwords it uses
abbrev pub used_of : List ℕ → ℕ
used_of block = halfword block 2

-- 3 and 4: the window, its start w and its length l
abbrev pub window_start_of : List ℕ → ℕ
window_start_of block = halfword block 3

abbrev pub window_length_of : List ℕ → ℕ
window_length_of block = halfword block 4

-- 5: how many blocks the image has
abbrev pub count_of : List ℕ → ℕ
count_of block = halfword block 5

-- from 6: the code
abbrev pub code_halfword : List ℕ → ℕ → ℕ
code_halfword block i = halfword block (header_halfwords + i)

-- the sum of a whole block
abbrev pub block_sum_of : List ℕ → ℕ
block_sum_of block = sum_below (halfword block) block_halfwords

-- the sum after calls for halfwords 255 down to n, the last halfword first (Change 3)
abbrev pub sum_from_back : List ℕ → ℕ → ℕ
sum_from_back block n = sum_down_to (halfword block) n (block_halfwords - n)
