-- What the code of the slots answers, by the definitions of texts.
use Rattle.std.specs.Prelude as Std
use Rattle.std.specs.Prelude.{Some, None, cond, List, [], ◌∷◌, ℕ, suc, ◌+◌, ◌-◌, ◌*◌, min, eqb, get_or}
use Rattle.std.proofs.Math.Option.{Option, none, some}
use Rattle.text.specs.Text.{Text}
use Rattle.syntax.specs.Syntax.{too_large, conditions}

-- a number of the definitions, if there is one, as the code answers it
abbrev pub number_as : Option ℕ → Std.Option ℕ
number_as none = None
number_as (some v) = Some v

-- one digit more, up to the number that is too large for every field
abbrev pub with_digit : ℕ → ℕ → ℕ
with_digit value c = min (10 * value + (c - 48)) too_large

-- a condition's two letters as one number, among those of the conditions
abbrev pub letters : Text → ℕ
letters [] = 0
letters (c ∷ []) = c
letters (c ∷ d ∷ t) = 256 * c + d

-- of two letters that the code holds
abbrev pub letters_in : Text → ℕ
letters_in t = get_or t 0 0 * 256 + get_or t 1 0

abbrev pub number_among : ℕ → ℕ → List Text → Option ℕ
number_among k n [] = none
number_among k n (t ∷ ts) = cond (eqb n (letters t)) (some k) (number_among (suc k) n ts)

unfoldable pub letters_value : ℕ → Option ℕ
letters_value n = number_among 0 n conditions
