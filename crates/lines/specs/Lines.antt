-- The line of a verdict ("Bench table", the program), as ASCII codes: `fit C W L` or `refused N P`.
use Rattle.std.specs.Prelude.{[], ◌∷◌, ◌++◌, ℕ, Result, Ok, Err}
use Rattle.text.specs.Text.{Text, decimal}
use Rattle.refusals.specs.Check.{check_number}
use Rattle.refusals.specs.Refusal.{place_number}
use Rattle.refusals.specs.declared.refusal.Refusal.{Refusal}
use Rattle.image.specs.declared.checker.Layout.{Layout}

-- a space and a number below 100,000 in decimal
unfoldable pub number_text : ℕ → Text
number_text n = 32 ∷ decimal n

-- `fit`, the code's length in bytes, the window's start and its length
abbrev pub fit_text : Layout → Text
fit_text layout =
    (102 ∷ 105 ∷ 116 ∷ [])
    ++ number_text layout.code_bytes
    ++ number_text layout.window_start
    ++ number_text layout.window_length
    ++ (10 ∷ [])

-- `refused`, the number of the check that failed, and its place
abbrev pub refused_text : Refusal → Text
refused_text r =
    (114 ∷ 101 ∷ 102 ∷ 117 ∷ 115 ∷ 101 ∷ 100 ∷ [])
    ++ number_text (check_number r.check)
    ++ number_text (place_number r.place)
    ++ (10 ∷ [])

abbrev pub verdict_text : Result Layout Refusal → Text
verdict_text (Ok layout) = fit_text layout
verdict_text (Err r) = refused_text r

-- the longest line: `fit` and three numbers of five digits
abbrev pub longest_line : ℕ
longest_line = 22
