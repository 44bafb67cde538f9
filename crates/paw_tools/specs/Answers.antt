-- What the C face answers for a text that is assembled or written ("Change 4"), as one number: the refusal's number
-- in the lower 16 bits, 0 if there is none; above it the length written, or the line, or the byte address.
use Rattle.std.specs.Prelude.{ℕ, ◌+◌, ◌*◌, min, Result, Ok, Err}
use Rattle.refusals.specs.Check.{check_number}
use Rattle.refusals.specs.Refusal.{refusal_word}
use Rattle.assembler.specs.declared.refusal.TextRefusal.{TextRefusal}
use Rattle.refusals.specs.declared.refusal.Refusal.{Refusal}

-- the upper 48 bits; a number that they don't hold is told as the largest
abbrev pub most : ℕ
most = 0xffffffffffff

abbrev pub above : ℕ → ℕ
above n = min n most * 0x10000

abbrev pub assembled_word : Result ℕ TextRefusal → ℕ
assembled_word (Ok n) = above n
assembled_word (Err r) = check_number r.check + above r.line

abbrev pub listed_word : Result ℕ Refusal → ℕ
listed_word (Ok n) = above n
listed_word (Err r) = refusal_word r
