-- What the code learns of a slot's word without a look at what follows it.
use Rattle.std.specs.Prelude as Std
use Rattle.std.specs.Prelude.{Some, None, Bool, true, false, [], ◌∷◌, ◌++◌, ◌≡◌, ℕ, ◌+◌, ◌<◌, ◌≤◌, min, length, drop}
use Rattle.std.proofs.Math.Option.{some}
use Prim.Native.Char.{code}
use Rattle.text.specs.Text.{Text, is_digit, in_word, every, digits_after}
use Rattle.syntax.specs.Syntax.{Pattern, too_large}
use Rattle.syntax.specs.Parser.{misfit, fit_before, fit_at}
use Rattle.syntax.specs.declared.slots.Spot.{Spot}

-- the slots that have one kind of word, by their letters
abbrev pub number_slot : ℕ
number_slot = code "n"

abbrev pub name_slot : ℕ
name_slot = code "l"

abbrev pub condition_slot : ℕ
condition_slot = code "c"

-- no word of a slot stands at a place
abbrev pub Missing : ℕ → Text → ℕ → Type 0
Missing k t at = (p : Pattern) → fit_at (k ∷ p) at (drop at t) ≡ misfit

-- a slot's word that was read from a place up to another, with its value
pub record Spotted (k : ℕ) (t : Text) (at value stop : ℕ) : Type 0 where
  pub behind : at < stop
  pub inside : stop ≤ length t
  pub reads : (c : ℕ) (p : Pattern) → in_word c ≡ false
      → fit_at (k ∷ c ∷ p) at (drop at t) ≡ fit_before (some value) (fit_at (c ∷ p) stop (drop stop t))

abbrev pub SpotAt : ℕ → Text → ℕ → Std.Option Spot → Type 0
SpotAt k t at None = Missing k t at
SpotAt k t at (Some s) = Spotted k t at s.value s.stop

-- the same for a register: of any 16, and of the first eight
pub record Register (t : Text) (at value stop : ℕ) : Type 0 where
  pub any : Spotted (code "h") t at value stop
  pub low : value < 8 → Spotted (code "r") t at value stop
  pub high : 8 ≤ value → Missing (code "r") t at

pub record NoRegister (t : Text) (at : ℕ) : Type 0 where
  pub any : Missing (code "h") t at
  pub low : Missing (code "r") t at

abbrev pub RegisterAt : Text → ℕ → Std.Option Spot → Type 0
RegisterAt t at None = NoRegister t at
RegisterAt t at (Some s) = Register t at s.value s.stop

-- digits behind a number that stands before them, up to a place
pub record Digits (t : Text) (at first value stop : ℕ) : Type 0 where
  pub read : Text
  pub split : drop at t ≡ read ++ drop stop t
  pub place : stop ≡ at + length read
  pub inside : stop ≤ length t
  pub digits : every is_digit read ≡ true
  pub amount : value ≡ min (digits_after 10 48 first read) too_large

abbrev pub begins_digit : Text → Bool
begins_digit [] = false
begins_digit (c ∷ t) = is_digit c
