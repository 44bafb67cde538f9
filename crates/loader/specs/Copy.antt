-- The two things that a load does to memory ("Loading"). Only the contracts of private functions speak of it.
use Rattle.std.specs.Prelude.{◌≡◌, List, ◌++◌, ℕ, ◌+◌, ◌-◌, ◌*◌, ◌/◌, ◌%◌, ◌<◌, ◌≤◌, length, get_or, take, drop}
use Rattle.std.specs.Prelude.{replicate}
use Rattle.image.specs.Code.{code_position}
use Rattle.image.specs.Format.{block_bytes, header_bytes}

-- memory with a part of it replaced, from an address on
unfoldable pub with_part : ℕ → List ℕ → List ℕ → List ℕ
with_part start part memory = take start memory ++ (part ++ drop (start + length part) memory)

-- the bytes of the first n instructions of block k
abbrev pub code_part : List ℕ → ℕ → ℕ → List ℕ
code_part file k n = take (2 * n) (drop (block_bytes * k + header_bytes) file)

-- memory after the first n instructions of a file were copied to address 0, byte by byte
pub record IsCopied (file : List ℕ) (n : ℕ) (before after : List ℕ) : Type 0 where
  pub long : length after ≡ length before
  pub code : (a : ℕ) → a < 2 * n → get_or after a 0 ≡ get_or file (code_position (a / 2) + a % 2) 0
  pub rest : (a : ℕ) → 2 * n ≤ a → get_or after a 0 ≡ get_or before a 0

-- the bytes from one address up to another set to 0
abbrev pub cleared : ℕ → ℕ → List ℕ → List ℕ
cleared start end memory = with_part start (replicate (end - start) 0) memory
