-- The image of a code and its window ("Image blocks", the table), and the packer's checks 15, 8 and 16
-- ("The questions").
use Rattle.std.specs.Prelude.{ℕ, ◌+◌, ◌-◌, ◌*◌, ◌/◌, ◌%◌, min, Bool, cond, ◌&&◌, List, [], ◌∷◌, length, ◌==◌, nat_le}
use Rattle.std.specs.Prelude.{nat_lt, slice_index, Result, Ok, Err, ⊤}
use Rattle.units.specs.Bytes.{byte_of}
use Rattle.units.specs.Address.{wrap}
use Rattle.sums.specs.Sum.{sum_below}
use Rattle.image.specs.Format.{mark, block_bytes, block_halfwords, block_code, header_halfwords, most_code, tabulate}
use Rattle.image.specs.Check.{Asked, whole, first_no, check8}
use Rattle.refusals.specs.declared.check.Check.TheVariants as check
use Rattle.refusals.specs.declared.refusal.Refusal.{Refusal}

-- the blocks that n code halfwords need, and how many of them stand in block k
abbrev pub blocks_needed : ℕ → ℕ
blocks_needed n = (n + (block_code - 1)) / block_code

abbrev pub used_in : ℕ → ℕ → ℕ
used_in n k = min block_code (n - block_code * k)

-- halfwords 0 to 5 of block k
abbrev pub header_of : List ℕ → ℕ → ℕ → ℕ → List ℕ
header_of code w l k = mark ∷ k ∷ used_in (length code) k ∷ w ∷ l ∷ blocks_needed (length code) ∷ []

-- halfwords 0 to 254: the header, the code, and 0 after the code's end
unfoldable pub body_halfword : List ℕ → ℕ → ℕ → ℕ → ℕ → ℕ
body_halfword code w l k j =
    cond (nat_lt j header_halfwords)
    (slice_index (header_of code w l k) j)
    (slice_index code (block_code * k + (j - header_halfwords)))

-- halfword 255: what makes the sum 0
unfoldable pub balance_of : List ℕ → ℕ → ℕ → ℕ → ℕ
balance_of code w l k = wrap (65536 - sum_below (body_halfword code w l k) (block_halfwords - 1))

unfoldable pub image_halfword : List ℕ → ℕ → ℕ → ℕ → ℕ → ℕ
image_halfword code w l k j = cond (nat_lt j (block_halfwords - 1)) (body_halfword code w l k j) (balance_of code w l k)

-- byte p of the image, and the whole image
abbrev pub image_byte : List ℕ → ℕ → ℕ → ℕ → ℕ
image_byte code w l p = byte_of (image_halfword code w l (p / block_bytes) (p % block_bytes / 2)) (p % 2)

unfoldable pub image_of : List ℕ → ℕ → ℕ → List ℕ
image_of code w l = tabulate (image_byte code w l) (block_bytes * blocks_needed (length code))

-- 15: there is code, and 64 blocks hold it
unfoldable pub check15 : List ℕ → Bool
check15 code = nat_le 1 (length code) && nat_le (length code) most_code

-- 16: the output is as long as the image
unfoldable pub check16 : List ℕ → ℕ → Bool
check16 code size = size == block_bytes * blocks_needed (length code)

-- what the packer puts, in order, of code, w, l and an output of `size` bytes
abbrev pub pack_checks : List ℕ → ℕ → ℕ → ℕ → List Asked
pack_checks code w l size =
    whole check.CodeLength (check15 code)
    ∷ whole check.Window (check8 (2 * length code) w l)
    ∷ whole check.OutputLength (check16 code size)
    ∷ []

-- the packer's answer: the first no
unfoldable pub pack_of : List ℕ → ℕ → ℕ → ℕ → Result ⊤ Refusal
pack_of code w l size = first_no (pack_checks code w l size)

-- the output afterwards: the image, or what it was before if the packer refuses
abbrev pub output_as : Result ⊤ Refusal → List ℕ → List ℕ → List ℕ
output_as (Ok tt) image out = image
output_as (Err r) image out = out

unfoldable pub output_of : List ℕ → ℕ → ℕ → List ℕ → List ℕ
output_of code w l out = output_as (pack_of code w l (length out)) (image_of code w l) out
