-- The reader ("Image blocks", "The questions"): what it answers to each call, and the bytes that it gives out.
use Rattle.std.specs.Prelude.{Bool, cond, List, [], ℕ, ◌+◌, ◌*◌, ltb, take, drop, Option, Some, None, Result, Ok, Err}
use Rattle.std.specs.Borrow.{Bor}
use Rattle.image.specs.Format.{block_bytes}
use Rattle.image.specs.Block.{blocks_in}
use Rattle.image.specs.Check.{check_of}
use Rattle.reader.specs.declared.reader.BlockReader.{BlockReader}
use Rattle.image.specs.declared.checker.Layout.{Layout}
use Rattle.refusals.specs.declared.refusal.Refusal.{Refusal}

-- what a reader answers to a call: why its file is refused, the byte of the file at which the block starts, or that
-- none is left
abbrev pub Given : Type 0
Given = Result (Option ℕ) Refusal

-- there is a block `next`
abbrev pub is_left : List ℕ → ℕ → Bool
is_left file next = ltb next (blocks_in file)

-- of an accepted file, block `next`, by the byte at which it starts; none is left only after the last
unfoldable pub block_at : List ℕ → ℕ → Option ℕ
block_at file next = cond (is_left file next) (Some (block_bytes * next)) None

-- a refused file answers with its refusal, whichever block comes next
abbrev pub given_as : List ℕ → ℕ → Result Layout Refusal → Given
given_as file next (Ok layout) = Ok (block_at file next)
given_as file next (Err r) = Err r

-- what the reader of a file answers to its call n, from 0: checks 2 to 8 are put to the whole file first
unfoldable pub given_of : List ℕ → ℕ → Given
given_of file n = given_as file n (check_of file)

-- the bytes that go with an answer: those of the block, and else none
abbrev pub bytes_of : List ℕ → Given → List ℕ
bytes_of file (Ok (Some start)) = take block_bytes (drop start file)
bytes_of file (Ok None) = []
bytes_of file (Err r) = []

-- the number of the block that comes next after an answer: a block that was given is gone past
abbrev pub after_of : ℕ → Given → ℕ
after_of next (Ok (Some start)) = next + 1
after_of next (Ok None) = next
after_of next (Err r) = next

-- the reader of a file that is lent, before its first call
abbrev pub open_of : Bor (List ℕ) → BlockReader
open_of file = record { file = file; next = 0; checked = check_of file.now }

-- what a reader answers to its next call, the bytes that the call gives out, and the reader after it
abbrev pub answer_of : BlockReader → Given
answer_of r = given_as r.file.now r.next r.checked

abbrev pub next_of : BlockReader → List ℕ
next_of r = bytes_of r.file.now (answer_of r)

abbrev pub after_next : BlockReader → BlockReader
after_next r = record { file = r.file; next = after_of r.next (answer_of r); checked = r.checked }
