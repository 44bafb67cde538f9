-- Where the first line feed stands is how long the line is.
use mathlib.Core.List.{[], ◌∷◌}
use mathlib.Core.Path.{◌≡◌, refl, ap}
use Prim.Native.Nat.{ℕ, zero, suc, ◌<◌}
use native.Mathlib.Omega.{arith}
use lib.ListN.{length, get_or}
use borrow.Author.Tests.{eq-eqb, ne_eqb}
use Rattle.std.proofs.Common.{◌≢◌, All}
use Rattle.std.proofs.lemmas.List.Elements.{All-head, All-tail}
use Rattle.text.specs.Text.{Text, feed, line_length}

abbrev pub NoFeed : ℕ → Type 0
NoFeed c = c ≢ feed

-- the first one is character i
pub line_to : (t : Text) (i : ℕ) → i < length t → get_or t i 0 ≡ feed → ((k : ℕ) → k < i → get_or t k 0 ≢ feed)
    → line_length t ≡ i
unfolding line_length
line_to [] i inside here before = absurd (omega arith)
line_to (c ∷ t) zero inside here before = simp (eq-eqb c feed here)
line_to (c ∷ t) (suc i) inside here before =
    simp (ne_eqb c feed (before zero (omega arith)))
    (ap suc (line_to t i (omega arith) here (λ k l. before (suc k) (omega arith))))

-- there is none
pub line_whole : (t : Text) → All NoFeed t → line_length t ≡ length t
unfolding line_length
line_whole [] none = refl
line_whole (c ∷ t) none =
    simp (ne_eqb c feed (All-head NoFeed c t none)) (ap suc (line_whole t (All-tail NoFeed c t none)))
