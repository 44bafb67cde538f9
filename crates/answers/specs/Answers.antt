-- Answers as numbers: 0 in the low 16 bits is a pass, anything else the number of the check that failed.
use Rattle.std.specs.Prelude.{ℕ, ◌+◌, ◌*◌, Option, Some, None, Result, Ok, Err, ⊤}
use Rattle.refusals.specs.Check.{check_number}
use Rattle.refusals.specs.Refusal.{refusal_word}
use Rattle.refusals.specs.declared.refusal.Refusal.{Refusal}
use Rattle.image.specs.declared.checker.Layout.{Layout}
use Rattle.image.specs.Format.{block_bytes}

-- a pass: c, w and l, 16 bits each
abbrev pub layout_word : Layout → ℕ
layout_word layout =
    layout.code_bytes * 0x10000 + layout.window_start * 0x100000000 + layout.window_length * 0x1000000000000

-- what the check of a file, the verifier and the loader answer
abbrev pub answer_word : Result Layout Refusal → ℕ
answer_word (Ok layout) = layout_word layout
answer_word (Err r) = refusal_word r

-- what a reader answers: the refusal, where in the file the block starts and above that its length, or that none is
-- left, which has no length
abbrev pub given_word : Result (Option ℕ) Refusal → ℕ
given_word (Err r) = refusal_word r
given_word (Ok (Some start)) = start * 0x10000 + block_bytes * 0x100000000
given_word (Ok None) = 0

-- where an answer's block starts: the word has 16 bits for it
abbrev pub start_of : Result (Option ℕ) Refusal → ℕ
start_of (Err r) = 0
start_of (Ok (Some start)) = start
start_of (Ok None) = 0

-- the packer's refusals have no place
abbrev pub packed_number : Result ⊤ Refusal → ℕ
packed_number (Ok passed) = 0
packed_number (Err r) = check_number r.check
