-- A block of the image while it is written. Only the contracts of private functions speak of it.
use Rattle.std.specs.Prelude.{◌≡◌, ℕ, ◌+◌, ◌*◌, List, length, take}
use Rattle.sums.specs.Sum.{sum_below}
use Rattle.image.specs.Format.{header_halfwords}
use Rattle.image.specs.Block.{block_of}
use Rattle.packer.specs.Pack.{used_in, body_halfword, image_of}

-- a block is block k of the image up to halfword j, and the halfwords before that have a sum
pub record Written (code : List ℕ) (w l k j : ℕ) (block : List ℕ) (sum : ℕ) : Type 0 where
  pub sum_is : sum ≡ sum_below (body_halfword code w l k) j
  pub same : take (2 * j) block ≡ take (2 * j) (block_of (image_of code w l) k)

-- the halfword of block k after its code
abbrev pub code_end : List ℕ → ℕ → ℕ
code_end code k = header_halfwords + used_in (length code) k
