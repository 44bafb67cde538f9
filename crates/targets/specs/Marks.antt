-- Marks as they are set, instruction by instruction. Only the contracts of functions that are no entry points speak of
-- it.
use Rattle.std.specs.Prelude.{false, List, ◌≡◌, ℕ, ◌*◌, ◌<◌}
use Rattle.targets.specs.Targets.{targeted_below, mark_words, marked_at}

-- nothing is marked yet
abbrev pub Unmarked : List ℕ → Type 0
Unmarked marks = (j : ℕ) → marked_at marks j ≡ false

-- the marks of the first n instructions of a code
abbrev pub MarkedBelow : List ℕ → ℕ → List ℕ → Type 0
MarkedBelow code n marks = (j : ℕ) → j < 64 * mark_words → marked_at marks j ≡ targeted_below code n j
