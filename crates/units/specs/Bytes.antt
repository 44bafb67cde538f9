-- Bytes and halfwords in a row of bytes, a memory or a file. A halfword has its low byte first.
use Rattle.std.specs.Prelude.{ℕ, ◌+◌, ◌*◌, ◌/◌, ◌%◌, cond, List, ◌==◌, slice_index, slice_set}

abbrev pub byte_at : List ℕ → ℕ → ℕ
byte_at bytes p = slice_index bytes p

abbrev pub halfword_at : List ℕ → ℕ → ℕ
halfword_at bytes p = byte_at bytes p + byte_at bytes (p + 1) * 256

-- the low byte of x is stored
abbrev pub with_byte : List ℕ → ℕ → ℕ → List ℕ
with_byte bytes p x = slice_set bytes p (x % 256)

abbrev pub with_halfword : List ℕ → ℕ → ℕ → List ℕ
with_halfword bytes p x = slice_set (with_byte bytes p x) (p + 1) (x / 256)

-- a halfword's byte 0 and byte 1
unfoldable pub byte_of : ℕ → ℕ → ℕ
byte_of h i = cond (i == 0) (h % 256) (h / 256)
