-- The assembler's answer and its output.
use Rattle.std.specs.Prelude as Std
use Rattle.std.specs.Prelude.{Result, Ok, Err, Some, None, List, ◌++◌, ◌≡◌, ℕ, ◌<◌, length, drop}
use Rattle.refusals.specs.declared.check.Check.{Check}
use Rattle.image.specs.Format.{most_code}
use Rattle.assembler.specs.Assemble.{Assembly, Assembles, Refuses}
use Rattle.assembler.specs.declared.refusal.TextRefusal.{TextRefusal}

-- a refusal by a check of the whole text, and by one of a line
abbrev pub refusal : Check → TextRefusal
refusal c = record { check = c; line = 0 }

abbrev pub refusal_at : Check → ℕ → TextRefusal
refusal_at c line = record { check = c; line = line }

-- the number of halfwords written, or the refusal
abbrev pub assembled_as : Assembly → Result ℕ TextRefusal
assembled_as (Assembles code) = Ok (length code)
assembled_as (Refuses c line) = Err (refusal_at c line)

-- the code, and behind it what was there; a refusal touches nothing
abbrev pub output_after : Assembly → List ℕ → List ℕ
output_after (Assembles code) out = code ++ drop (length code) out
output_after (Refuses c line) out = out

-- what a try with room for the notes of so many instructions tells and leaves: the answer; or that there are more of
-- them than that, if an image holds more, and the output as it was
abbrev pub TriedOf : Assembly → ℕ → List ℕ → Result (Std.Option ℕ) TextRefusal → List ℕ → Type 0
TriedOf a room out (Ok (Some n)) after = (Ok n ≡ assembled_as a) × (after ≡ output_after a out)
TriedOf a room out (Ok None) after = (room < most_code) × (after ≡ out)
TriedOf a room out (Err r) after = (Err r ≡ assembled_as a) × (after ≡ output_after a out)
