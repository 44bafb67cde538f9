-- Digits as ASCII codes, and the numbers that they write.
use Rattle.std.specs.Prelude.{◌&&◌, ◌||◌, cond, ℕ, ◌+◌, ◌-◌, ◌*◌, ◌/◌, ◌%◌, leb, ltb, eqb}
use Rattle.std.specs.Prelude.{Option, Some, None, Result, Ok, Err, List, [], ◌∷◌}
use Rattle.std.specs.Option.{option_and_then}
use Rattle.digits.specs.declared.values.NumberError.{NumberError}
use Rattle.digits.specs.declared.values.NumberError.TheVariants.{NotANumber, TooLarge}

-- the value of a hexadecimal digit, of either case; another byte has none
unfoldable pub digit_of : ℕ → Option ℕ
digit_of b =
    cond (leb 48 b && leb b 57)
    (Some (b - 48))
    (cond (leb 65 b && leb b 70) (Some (b - 55)) (cond (leb 97 b && leb b 102) (Some (b - 87)) None))

-- the value of a digit of a radix
unfoldable pub digit_in : ℕ → ℕ → Option ℕ
digit_in radix b = option_and_then (λ d. cond (ltb d radix) (Some d) None) (digit_of b)

-- the last hexadecimal digit of a halfword, in capitals
unfoldable pub last_digit : ℕ → ℕ
last_digit h = cond (ltb (h % 16) 10) (48 + h % 16) (55 + h % 16)

-- a halfword as text: 0x and four hexadecimal digits
abbrev pub hex_text : ℕ → List ℕ
hex_text h =
    48 ∷ 120 ∷ last_digit (h / 4096) ∷ last_digit (h / 256) ∷ last_digit (h / 16) ∷ last_digit h ∷ []

-- a halfword with one hexadecimal digit more: its last four count
abbrev pub with_digit : ℕ → ℕ → ℕ
with_digit h d = h % 4096 * 16 + d % 16

-- a number with one digit more; past the largest that is asked for it stays as it is
unfoldable pub grown_by : ℕ → ℕ → ℕ → ℕ → ℕ
grown_by radix most n d = cond (ltb most n) n (n * radix + d)

-- a number with the digits of a text behind it, if all of them are digits
unfoldable pub grown_over : ℕ → ℕ → ℕ → List ℕ → Option ℕ
grown_over radix most n [] = Some n
grown_over radix most n (b ∷ bs) =
    option_and_then (λ d. grown_over radix most (grown_by radix most n d) bs) (digit_in radix b)

-- what digits come to, or a byte that is none, for a number up to `most`
abbrev pub up_to : ℕ → Option ℕ → Result ℕ NumberError
up_to most None = Err NotANumber
up_to most (Some n) = cond (ltb most n) (Err TooLarge) (Ok n)

-- the number up to `most` that a text writes: one digit or more, with no sign
abbrev pub number_of : ℕ → ℕ → List ℕ → Result ℕ NumberError
number_of radix most [] = Err NotANumber
number_of radix most (b ∷ bs) = up_to most (grown_over radix most 0 (b ∷ bs))

-- the halfword that a text writes, in decimal, or in hexadecimal with 0x in front
abbrev pub halfword_of : List ℕ → Result ℕ NumberError
halfword_of [] = number_of 10 65535 []
halfword_of (a ∷ []) = number_of 10 65535 (a ∷ [])
halfword_of (a ∷ b ∷ bs) =
    cond (eqb a 48 && (eqb b 120 || eqb b 88)) (number_of 16 65535 bs) (number_of 10 65535 (a ∷ b ∷ bs))
