-- The date of the manual that decides, as the bytes of "20 September 2015".
use Rattle.std.specs.Prelude.{List, [], ◌∷◌, ℕ}

abbrev pub manual_date : List ℕ
manual_date = 50 ∷ 48 ∷ 32 ∷ 83 ∷ 101 ∷ 112 ∷ 116 ∷ 101 ∷ 109 ∷ 98 ∷ 101 ∷ 114 ∷ 32 ∷ 50 ∷ 48 ∷ 49 ∷ 53 ∷ []
