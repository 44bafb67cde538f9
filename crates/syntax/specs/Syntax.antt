-- The lines of an assembler text ("Change 4"). A line's form is a pattern: small letters are slots, all else stands
-- for itself. Lines are read and written by the same patterns.
use Rattle.std.specs.Prelude.{Bool, true, false, cond, List, [], ◌∷◌, ◌++◌, ◌≡◌, ℕ, suc, min, eqb, ltb, length, get_or}
use Rattle.std.proofs.Math.Option.{Option, none, some}
use Prim.Native.Char.{code}
use Rattle.text.specs.Text.{Text, quoted, is_small, in_word, every, word, after_word, is_number, number_of, decimal}
use Rattle.text.specs.Text.{is_name, name_of, is_same_text, feed}

abbrev pub Pattern : Type 0
Pattern = Text

-- row 0 is a label's line, rows 1 to 18 are the instructions as the C face numbers them. A line has the first row
-- that fits it, so CMP of two low registers is row 8, the ALU's. Slots: r is R0 to R7, h R0 to R15, n a number,
-- c a condition, l a name
abbrev pub patterns : List Pattern
patterns =
    quoted "l:"
    ∷ quoted "MOV r, #n"
    ∷ quoted "CMP r, #n"
    ∷ quoted "AND r, r"
    ∷ quoted "EOR r, r"
    ∷ quoted "ASR r, r"
    ∷ quoted "TST r, r"
    ∷ quoted "NEG r, r"
    ∷ quoted "CMP r, r"
    ∷ quoted "ADD h, h"
    ∷ quoted "CMP h, h"
    ∷ quoted "MOV h, h"
    ∷ quoted "STR r, [r, #n]"
    ∷ quoted "LDR r, [r, #n]"
    ∷ quoted "STRB r, [r, #n]"
    ∷ quoted "LDRB r, [r, #n]"
    ∷ quoted "ADD r, PC, #n"
    ∷ quoted "Bc l"
    ∷ quoted "HALT #n"
    ∷ []

abbrev pub row_count : ℕ
row_count = length patterns

abbrev pub pattern_at : ℕ → Pattern
pattern_at row = get_or patterns row []

-- rows with a part of their own
abbrev pub label_row : ℕ
label_row = 0

abbrev pub branch_row : ℕ
branch_row = 17

-- the conditions as the manual numbers them, from 0
abbrev pub conditions : List Text
conditions =
    quoted "EQ" ∷ quoted "NE" ∷ quoted "CS" ∷ quoted "CC" ∷ quoted "MI" ∷ quoted "PL" ∷ quoted "VS" ∷ quoted "VC"
    ∷ quoted "HI" ∷ quoted "LS" ∷ quoted "GE" ∷ quoted "LT" ∷ quoted "GT" ∷ quoted "LE" ∷ []

abbrev pub given {ℓ} : {A : Type ℓ} → Bool → A → Option A
given true a = some a
given false a = none

-- what a word says in each slot, if it may stand there
-- n: a number of any length. No field holds more than 1,020, so all numbers from 65,535 on say the same: too large
-- (`FieldsExact`)
abbrev pub too_large : ℕ
too_large = 65535

unfoldable pub number_value : Text → Option ℕ
number_value w = given (is_number w) (min (number_of w) too_large)

abbrev pub below : ℕ → Option ℕ → Option ℕ
below bound none = none
below bound (some v) = given (ltb v bound) v

-- r: R0 to R7; h: R0 to R15
unfoldable pub register_value : ℕ → Text → Option ℕ
register_value count [] = none
register_value count (c ∷ w) = cond (eqb c (code "R")) (below count (number_value w)) none

abbrev pub place : ℕ → Text → List Text → Option ℕ
place k w [] = none
place k w (t ∷ ts) = cond (is_same_text w t) (some k) (place (suc k) w ts)

-- c: a condition
unfoldable pub condition_value : Text → Option ℕ
condition_value w = place 0 w conditions

-- l: a name
unfoldable pub name_value : Text → Option ℕ
name_value w = given (is_name w) (name_of w)

unfoldable pub slot_value : ℕ → Text → Option ℕ
slot_value s w =
    cond (eqb s (code "r")) (register_value 8 w)
    (cond (eqb s (code "h")) (register_value 16 w)
    (cond (eqb s (code "n")) (number_value w)
    (cond (eqb s (code "c")) (condition_value w)
    (cond (eqb s (code "l")) (name_value w) none))))

-- a text is a line of a pattern, with a value for each slot
pub data LineOf : Pattern → List ℕ → Text → Type 0 where
  end : LineOf [] [] []
  literal : {c : ℕ} {p : Pattern} {vs : List ℕ} {t : Text} → is_small c ≡ false → LineOf p vs t
      → LineOf (c ∷ p) vs (c ∷ t)
  slot : {s : ℕ} {p : Pattern} {v : ℕ} {vs : List ℕ} {t : Text} (w : Text) → is_small s ≡ true → every in_word w ≡ true
      → slot_value s w ≡ some v → LineOf p vs t → LineOf (s ∷ p) (v ∷ vs) (w ++ t)

-- the values of a text's slots, if it is a line of the pattern
abbrev pub starts_with : ℕ → Text → Bool
starts_with c [] = false
starts_with c (d ∷ t) = eqb d c

abbrev pub tail : Text → Text
tail [] = []
tail (c ∷ t) = t

abbrev pub before : Option ℕ → Option (List ℕ) → Option (List ℕ)
before none vs = none
before (some v) none = none
before (some v) (some vs) = some (v ∷ vs)

unfoldable pub values_of : Pattern → Text → Option (List ℕ)
values_of [] [] = some []
values_of [] (c ∷ t) = none
values_of (c ∷ p) t =
    let atSlot = before (slot_value c (word t)) (values_of p (after_word t)) in
    let atLiteral = values_of p (tail t) in
    cond (is_small c) atSlot (cond (starts_with c t) atLiteral none)

-- what a line says: its row and its slots' values
pub record Item : Type 0 where
  pub row : ℕ
  pub values : List ℕ

abbrev pub item_or : ℕ → Option (List ℕ) → Option Item → Option Item
item_or row none other = other
item_or row (some vs) other = some (record { row = row; values = vs })

unfoldable pub parse_from : ℕ → List Pattern → Text → Option Item
parse_from row [] t = none
parse_from row (p ∷ ps) t = let later = parse_from (suc row) ps t in item_or row (values_of p t) later

unfoldable pub parse : Text → Option Item
parse t = parse_from 0 patterns t

-- what is written in a slot for a value: a register, a number, a condition, or the label of an address
abbrev pub register_word : ℕ → Text
register_word r = code "R" ∷ decimal r

abbrev pub label_word : ℕ → Text
label_word a = code "a" ∷ decimal a

abbrev pub condition_word : ℕ → Text
condition_word c = get_or conditions c []

unfoldable pub slot_word : ℕ → ℕ → Text
slot_word s v =
    cond (eqb s (code "n")) (decimal v)
    (cond (eqb s (code "c")) (condition_word v)
    (cond (eqb s (code "l")) (label_word v) (register_word v)))

-- a pattern's line with the values given, 0 where there are no more; and with its line feed
abbrev pub first : List ℕ → ℕ
first vs = get_or vs 0 0

unfoldable pub fill : Pattern → List ℕ → Text
fill [] vs = []
fill (c ∷ p) vs =
    let atSlot = slot_word c (first vs) ++ fill p (tail vs) in
    let atLiteral = c ∷ fill p vs in
    cond (is_small c) atSlot atLiteral

abbrev pub line_with : ℕ → List ℕ → Text
line_with row vs = fill (pattern_at row) vs ++ (feed ∷ [])
