-- What is written in a slot is a word that the slot reads: as the value written, or, of an address, as its label's
-- name.
use mathlib.Core.Bool.{Bool, true, false, false≢true, ◌||◌}
use mathlib.Core.Option.{Option, none, some}
use mathlib.Core.Path.{◌≡◌, refl, ap}
use Prim.Native.Nat.{ℕ, ◌<◌, ◌≤◌}
use Prim.Native.Char.{code}
use native.Mathlib.Omega.{arith}
use lib.Dec.{T, eqb, eqb→eq}
use lib.ListN.{length}
use borrow.Author.Tests.{lt-ltb, le-ltb, le-leb}
use Rattle.units.proofs.Every as Every
use Rattle.text.specs.Text.{is_digit, is_capital, is_small, in_word, in_name, every, decimal, is_name, name_of}
use Rattle.text.specs.Text.{digits_after}
use Rattle.text.proofs.Words.{or_right, every_weak}
use Rattle.text.proofs.Decimal.{decimal_digits, decimal_number, decimal_value, letter_injective}
use Rattle.text.proofs.Writing.{decimal_at_most}
use Rattle.syntax.specs.Syntax.{number_value, register_value, condition_value, name_value, slot_value, slot_word}
use Rattle.syntax.specs.Syntax.{register_word, label_word, condition_word}
use Rattle.syntax.proofs.Rows.{T_true}

-- the word for v in slot s is read as u
pub record Reads (s v u : ℕ) : Type 0 where
  pub whole : every in_word (slot_word s v) ≡ true
  pub value : slot_value s (slot_word s v) ≡ some u

or_left : (a b : Bool) → a ≡ true → (a || b) ≡ true
or_left true b e = refl
or_left false b e = absurd (false≢true e)

digit_in_word : (c : ℕ) → is_digit c ≡ true → in_word c ≡ true
digit_in_word c h = or_left (is_digit c || is_capital c) (is_small c) (or_left (is_digit c) (is_capital c) h)

pub decimal_word : (n : ℕ) → every in_word (decimal n) ≡ true
decimal_word n = every_weak is_digit in_word digit_in_word (decimal n) (decimal_digits n)

number_read : (n : ℕ) → n < 65536 → number_value (decimal n) ≡ some n
unfolding number_value
number_read n h =
    simp (decimal_number n (omega arith), decimal_value n (omega arith)) (ap some (omega arith))

pub number : (n : ℕ) → n < 65536 → Reads (code "n") n n
unfolding slot_value slot_word
number n h = record { whole = decimal_word n; value = number_read n h }

register_read : (count r : ℕ) → r < count → r < 65536 → register_value count (register_word r) ≡ some r
unfolding register_value
register_read count r h l = simp (number_read r l, lt-ltb r count h)

pub low : (r : ℕ) → r < 8 → Reads (code "r") r r
unfolding slot_value slot_word
low r h = record { whole = decimal_word r; value = register_read 8 r h (omega arith) }

pub high : (r : ℕ) → r < 16 → Reads (code "h") r r
unfolding slot_value slot_word
high r h = record { whole = decimal_word r; value = register_read 16 r h (omega arith) }

-- a register past the count fits no slot of it
pub register_past : (count r : ℕ) → count ≤ r → r < 65536 → register_value count (register_word r) ≡ none
unfolding register_value
register_past count r h l = simp (number_read r l, le-ltb r count h)

label_read : (a : ℕ) → name_value (label_word a) ≡ some (name_of (label_word a))
unfolding name_value is_name
label_read a =
    let d : every in_name (decimal a) ≡ true
    = every_weak is_digit in_name (λ c. or_right (is_small c) (is_digit c)) (decimal a) (decimal_digits a) in
    let l : length (decimal a) ≤ 7 = omega (arith, decimal_at_most a) in
    simp (d, le-leb (length (decimal a)) 7 l)

pub label : (a : ℕ) → Reads (code "l") a (name_of (label_word a))
unfolding slot_value slot_word
label a = record { whole = decimal_word a; value = label_read a }

-- two addresses have two labels
pub label_injective : (a b : ℕ) → a < 100000 → b < 100000 → name_of (label_word a) ≡ name_of (label_word b) → a ≡ b
unfolding name_of digits_after
label_injective a b h g e = letter_injective a b h g e

-- conditions, by computing at each
abbrev same_value : ℕ → Option ℕ → Bool
same_value c none = false
same_value c (some v) = eqb v c

same_value_is : (c : ℕ) (o : Option ℕ) → T (same_value c o) → o ≡ some c
same_value_is c none t = absurd t
same_value_is c (some v) t = ap some (eqb→eq v c t)

pub condition : (c : ℕ) → c < 14 → Reads (code "c") c c
unfolding slot_value slot_word condition_value
condition c h =
    record {
      whole = T_true _ (Every.at (λ k. every in_word (condition_word k)) 14 tt c h);
      value =
          same_value_is c (condition_value (condition_word c))
          (Every.at (λ k. same_value k (condition_value (condition_word k))) 14 tt c h);
    }
