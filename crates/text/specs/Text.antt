-- Texts as lists of ASCII codes ("Change 4"): characters, words, lines, numbers in decimal, names.
use Rattle.std.specs.Prelude.{Bool, true, false, cond, not, ◌&&◌, ◌||◌, List, [], ◌∷◌, ◌++◌, ℕ, zero, suc, ◌+◌, ◌-◌}
use Rattle.std.specs.Prelude.{◌*◌, ◌/◌, ◌%◌, eqb, leb, ltb, length}
use Prim.Native.String.{String, len, char_at}
use Prim.Native.Char.{code}
use Rattle.std.proofs.lemmas.List.Edits.{sets}

abbrev pub Text : Type 0
Text = List ℕ

-- the codes of a quoted text
abbrev pub codes_from : ℕ → ℕ → String → Text
codes_from zero i s = []
codes_from (suc n) i s = code (char_at s i) ∷ codes_from n (suc i) s

abbrev pub quoted : String → Text
quoted s = codes_from (len s) 0 s

abbrev pub is_digit : ℕ → Bool
is_digit c = leb 48 c && leb c 57

abbrev pub is_capital : ℕ → Bool
is_capital c = leb 65 c && leb c 90

abbrev pub is_small : ℕ → Bool
is_small c = leb 97 c && leb c 122

-- a word is made of letters and digits
abbrev pub in_word : ℕ → Bool
in_word c = is_digit c || is_capital c || is_small c

abbrev pub every : (ℕ → Bool) → Text → Bool
every p [] = true
every p (c ∷ t) = p c && every p t

-- the word at the front of a text, and what follows it
unfoldable pub word : Text → Text
word [] = []
word (c ∷ t) = cond (in_word c) (c ∷ word t) []

unfoldable pub after_word : Text → Text
after_word [] = []
after_word (c ∷ t) = cond (in_word c) (after_word t) (c ∷ t)

-- digits to a base, the first one the highest, behind a number that stands before them; `lowest` is the code of 0
unfoldable pub digits_after : ℕ → ℕ → ℕ → Text → ℕ
digits_after base lowest n [] = n
digits_after base lowest n (c ∷ t) = digits_after base lowest (base * n + (c - lowest)) t

-- a number in decimal: digits, with no zero in front of another digit; of any length
abbrev pub is_empty : Text → Bool
is_empty [] = true
is_empty (c ∷ t) = false

unfoldable pub is_number : Text → Bool
is_number [] = false
is_number (c ∷ t) = is_digit c && every is_digit t && (not (eqb c 48) || is_empty t)

unfoldable pub number_of : Text → ℕ
number_of t = digits_after 10 48 0 t

-- the digit of a power of ten, and nothing for a smaller number
abbrev pub digit : ℕ → ℕ → Text
digit n unit = cond (ltb n unit) [] ((48 + n / unit % 10) ∷ [])

-- a number below 100,000 in decimal: no zeros in front, and the ones always
abbrev pub decimal : ℕ → Text
decimal n = digit n 10000 ++ digit n 1000 ++ digit n 100 ++ digit n 10 ++ ((48 + n % 10) ∷ [])

-- a name: 1 to 8 small letters or digits, a letter first; as one number it is its codes, to the base 256
abbrev pub in_name : ℕ → Bool
in_name c = is_small c || is_digit c

unfoldable pub is_name : Text → Bool
is_name [] = false
is_name (c ∷ t) = is_small c && every in_name t && leb (length t) 7

unfoldable pub name_of : Text → ℕ
name_of t = digits_after 256 0 0 t

-- two texts are the same
abbrev pub is_same_text : Text → Text → Bool
is_same_text [] [] = true
is_same_text [] (d ∷ t) = false
is_same_text (c ∷ s) [] = false
is_same_text (c ∷ s) (d ∷ t) = eqb c d && is_same_text s t

-- a text's lines, each ended by a line feed, and what follows the last of them
abbrev pub feed : ℕ
feed = 10

pub data Lines : Type 0 where
  remainder : Text → Lines
  line : Text → Lines → Lines

abbrev pub in_front : ℕ → Lines → Lines
in_front c (remainder t) = remainder (c ∷ t)
in_front c (line t ls) = line (c ∷ t) ls

unfoldable pub lines_of : Text → Lines
lines_of [] = remainder []
lines_of (c ∷ t) = cond (eqb c feed) (line [] (lines_of t)) (in_front c (lines_of t))

-- a text's length up to its first line feed, or its end
unfoldable pub line_length : Text → ℕ
line_length [] = 0
line_length (c ∷ t) = let later = line_length t in cond (eqb c feed) 0 (suc later)

-- what a room holds after a text was written into it, byte by byte from a place on
unfoldable pub written : ℕ → Text → Text → Text
written at t room = sets room at t

-- the bytes that one line has room for, when it is held by itself
abbrev pub line_bytes : ℕ
line_bytes = 32
