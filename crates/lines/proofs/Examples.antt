-- The definition on examples.
use mathlib.Core.List.{[], ◌∷◌}
use mathlib.Core.Path.{◌≡◌, refl}
use Rattle.refusals.specs.declared.check.Check.TheVariants as check
use Rattle.refusals.specs.Refusal.{refusal_at}
use Rattle.lines.specs.Lines.{number_text, verdict_text}
use Rattle.std.specs.Prelude.{Ok, Err}

fit : verdict_text (Ok (record { code_bytes = 14; window_start = 256; window_length = 256 }))
    ≡ 102 ∷ 105 ∷ 116 ∷ 32 ∷ 49 ∷ 52 ∷ 32 ∷ 50 ∷ 53 ∷ 54 ∷ 32 ∷ 50 ∷ 53 ∷ 54 ∷ 10 ∷ []
unfolding number_text
fit = refl

refused : verdict_text (Err (refusal_at check.Access (record { 0 = 10 })))
    ≡ 114 ∷ 101 ∷ 102 ∷ 117 ∷ 115 ∷ 101 ∷ 100 ∷ 32 ∷ 49 ∷ 48 ∷ 32 ∷ 49 ∷ 48 ∷ 10 ∷ []
unfolding number_text
refused = refl

zero : number_text 0 ≡ 32 ∷ 48 ∷ []
unfolding number_text
zero = refl

largest : number_text 65535 ≡ 32 ∷ 54 ∷ 53 ∷ 53 ∷ 51 ∷ 53 ∷ []
unfolding number_text
largest = refl
