-- Places of a text.
use mathlib.Core.List.{◌∷◌}
use mathlib.Core.Path.{◌≡◌}
use Prim.Native.Nat.{ℕ, ◌+◌, ◌<◌}
use native.Mathlib.Numerals.{add-one}
use lib.ListN.{length, get_or, drop}
use lib.Seq.{drop-cons}
use Rattle.text.specs.Text.{Text}

-- at character i of a text
module _ (t : Text) (i : ℕ) (h : i < length t) where
  pub rest : drop i t ≡ get_or t i 0 ∷ drop (i + 1) t
  rest = rw (add-one, drop-cons t i 0)
