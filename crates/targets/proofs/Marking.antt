-- What one instruction adds to the marks.
use mathlib.Core.Bool.{◌||◌}
use mathlib.Core.List.{List}
use mathlib.Core.Path.{◌≡◌, refl, ◌∙◌}
use Prim.Native.Nat.{ℕ, suc, ◌*◌, ◌<◌}
use lib.ListN.{get_or}
use Rattle.isa.specs.Decode.{decode_of}
use Rattle.targets.specs.Targets.{address_of, decoded_at, jump_at, lands_on, goes_to, targeted_below, mark_words}
use Rattle.targets.specs.Targets.{marked_at}
use Rattle.targets.specs.Marks.{MarkedBelow}

-- the marks of one more instruction, whose halfword is h
pub mark_next : (code : List ℕ) (n : ℕ) {h : ℕ} (before after : List ℕ) → h ≡ get_or code n 0
    → ((j : ℕ) → j < 64 * mark_words
    → marked_at after j ≡ (lands_on (jump_at (address_of n) (decode_of h)) j || marked_at before j))
    → MarkedBelow code n before
    → MarkedBelow code (suc n) after
unfolding targeted_below goes_to decoded_at
mark_next code n before after p to below j l = to j l ∙ rw (p, below j l) refl
