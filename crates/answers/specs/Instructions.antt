-- Encoded instructions as numbers.
use Rattle.std.specs.Prelude.{ℕ, ◌*◌, Option, Some, None, Result, Ok, Err}
use Rattle.isa.specs.Encode.{encode_of}
use Rattle.isa.specs.declared.instruction.Instruction.{Instruction}
use Rattle.refusals.specs.Check.{check_number}
use Rattle.refusals.specs.declared.check.Check.TheVariants as check
use Rattle.refusals.specs.declared.refusal.Refusal.{Refusal}

-- an encoded halfword times 65,536; a refusal's number where there is none
abbrev pub encoded_number : Result ℕ Refusal → ℕ
encoded_number (Ok h) = h * 0x10000
encoded_number (Err r) = check_number r.check

-- check 17 of a word: a kind that is none is refused like a field that doesn't fit
abbrev pub encoded_word : Option Instruction → ℕ
encoded_word (Some i) = encoded_number (encode_of i)
encoded_word None = check_number check.Fields
