-- What the code of the parser answers, by the definitions of the syntax.
use Rattle.std.specs.Prelude.{Bool, cond, ◌&&◌, List, [], ◌∷◌, ◌++◌, ◌≡◌, ℕ, suc, ◌+◌, ◌*◌, ◌<◌, ◌≤◌, eqb, ltb}
use Rattle.std.specs.Prelude as Std
use Rattle.std.specs.Prelude.{Some, None, length, get_or, drop}
use Rattle.std.proofs.Math.Option.{Option, none, some}
use Prim.Native.Char.{code}
use Rattle.text.specs.Text.{Text, quoted, is_small, word, after_word, feed, Lines, remainder, line}
use Rattle.syntax.specs.Syntax.{Pattern, patterns, slot_value, starts_with, tail, parse}
use Rattle.syntax.specs.Syntax as Syntax
use Rattle.syntax.specs.declared.parser.Item.{Item}
use Rattle.syntax.specs.declared.parser.Line.{Line}
use Rattle.syntax.specs.declared.parser.Values.{Values}

-- the first three values, 0 where there are fewer
abbrev pub values_as : List ℕ → Values
values_as us = record { a = get_or us 0 0; b = get_or us 1 0; c = get_or us 2 0 }

abbrev pub item_as : Syntax.Item → Item
item_as x = record { row = x.row; values = values_as x.values }

-- what a place of a text was read as: its line, if it has one
abbrev pub Parsed : Type 0
Parsed = Std.Option Line

-- a line of an item, and where the next one starts
abbrev pub line_of : Item → ℕ → Parsed
line_of x next = Some (record { item = x; next = next })

abbrev pub parsed_as : ℕ → Option Syntax.Item → Parsed
parsed_as next none = None
parsed_as next (some x) = line_of (item_as x) next

-- what the first line of a text says that starts at a place; what has no line feed is no line
abbrev pub parsed_at : ℕ → Lines → Parsed
parsed_at at (remainder t) = None
parsed_at at (line t ls) = parsed_as (at + length t + 1) (parse t)

-- what a pattern makes of a text from a place on: the values of its slots, and the place behind it
pub data Fit : Type 0 where
  misfit : Fit
  fits : List ℕ → ℕ → Fit

abbrev pub fit_before : Option ℕ → Fit → Fit
fit_before none f = misfit
fit_before (some v) misfit = misfit
fit_before (some v) (fits vs n) = fits (v ∷ vs) n

unfoldable pub fit_at : Pattern → ℕ → Text → Fit
fit_at [] i t = fits [] i
fit_at (c ∷ p) i t =
    let atSlot = fit_before (slot_value c (word t)) (fit_at p (i + length (word t)) (after_word t)) in
    let atLiteral = fit_at p (i + 1) (tail t) in
    cond (is_small c) atSlot (cond (starts_with c t) atLiteral misfit)

-- a pattern up to the line feed
abbrev pub ended : Pattern → Pattern
ended p = p ++ (feed ∷ [])

-- a line of the row if the pattern fits
abbrev pub fit_or : ℕ → Fit → Parsed → Parsed
fit_or row misfit other = other
fit_or row (fits vs n) other = line_of (record { row = row; values = values_as vs }) n

-- the first of the rows, which are counted from one on
unfoldable pub first_fit : ℕ → List Pattern → ℕ → Text → Parsed
first_fit row [] i t = None
first_fit row (p ∷ ps) i t = let later = first_fit (suc row) ps i t in fit_or row (fit_at (ended p) i t) later

abbrev pub line_fit : ℕ → Fit → Parsed
line_fit row f = fit_or row f None

-- a line of three values, if its end fits
abbrev pub line_end : ℕ → ℕ → ℕ → ℕ → Fit → Parsed
line_end row a b c misfit = None
line_end row a b c (fits vs n) = line_of (record { row = row; values = record { a = a; b = b; c = c } }) n

-- what fits behind a register, and only behind one of the first eight
abbrev pub behind : ℕ → Fit → Fit
behind a f = fit_before (some a) f

abbrev pub low_only : ℕ → Fit → Fit
low_only a f = cond (ltb a 8) (behind a f) misfit

-- the row of MOV, CMP or ADD, whose first row is given, with two registers: CMP has one of its own for two low ones
unfoldable pub pair_row : ℕ → Bool → ℕ
pair_row row low = cond (eqb row 1) 11 (cond (eqb row 2) (cond low 8 10) 9)

abbrev pub any_pair : ℕ → ℕ → Fit → Parsed
any_pair row a misfit = None
any_pair row a (fits vs n) =
    line_of (record { row = pair_row row (ltb a 8 && ltb (get_or vs 0 0) 8); values = values_as (a ∷ vs) }) n

-- operands behind the name of a row, in all rows of the name; MOV, CMP and ADD have their first one
abbrev pub pair_rows : ℕ → ℕ → Text → Parsed
pair_rows row i t =
    cond (eqb row 1) (line_fit 11 (fit_at (ended (quoted "h, h")) i t))
    (fit_or 8 (fit_at (ended (quoted "r, r")) i t) (line_fit 10 (fit_at (ended (quoted "h, h")) i t)))

unfoldable pub operands_as : ℕ → ℕ → Text → Parsed
operands_as row i t =
    cond (ltb row 3) (fit_or row (fit_at (ended (quoted "r, #n")) i t) (pair_rows row i t))
    (cond (ltb row 8) (line_fit row (fit_at (ended (quoted "r, r")) i t))
    (cond (eqb row 9)
    (fit_or 9 (fit_at (ended (quoted "h, h")) i t) (line_fit 16 (fit_at (ended (quoted "r, PC, #n")) i t)))
    (line_fit row (fit_at (ended (quoted "r, [r, #n]")) i t))))

-- what stands behind the first four characters of a row
unfoldable pub behind_name : ℕ → ℕ → Text → Parsed
behind_name row i t =
    cond (eqb row 18) (line_fit 18 (fit_at (ended (quoted " #n")) i t))
    (cond (ltb row 14) (operands_as row i t) (line_fit row (fit_at (ended (quoted " r, [r, #n]")) i t)))

-- the rows of instructions
abbrev pub instructions : List Pattern
instructions = drop 1 patterns

-- four characters as one number, the first the highest
abbrev pub four_of : ℕ → ℕ → ℕ → ℕ → ℕ
four_of a b c d = a * 16777216 + b * 65536 + c * 256 + d

-- of four that the code holds
abbrev pub four_in : Text → ℕ
four_in t = four_of (get_or t 0 0) (get_or t 1 0) (get_or t 2 0) (get_or t 3 0)

-- the first row of a name, of those that are no branches
unfoldable pub row_of : ℕ → Std.Option ℕ
row_of n =
    cond (eqb n (four_in (quoted "MOV "))) (Some 1)
    (cond (eqb n (four_in (quoted "CMP "))) (Some 2)
    (cond (eqb n (four_in (quoted "AND "))) (Some 3)
    (cond (eqb n (four_in (quoted "EOR "))) (Some 4)
    (cond (eqb n (four_in (quoted "ASR "))) (Some 5)
    (cond (eqb n (four_in (quoted "TST "))) (Some 6)
    (cond (eqb n (four_in (quoted "NEG "))) (Some 7)
    (cond (eqb n (four_in (quoted "ADD "))) (Some 9)
    (cond (eqb n (four_in (quoted "STR "))) (Some 12)
    (cond (eqb n (four_in (quoted "LDR "))) (Some 13)
    (cond (eqb n (four_in (quoted "STRB"))) (Some 14)
    (cond (eqb n (four_in (quoted "LDRB"))) (Some 15)
    (cond (eqb n (four_in (quoted "HALT"))) (Some 18)
    None))))))))))))

pub record Four (t : Text) (i name : ℕ) : Type 0 where
  pub inside : i + 4 ≤ length t
  pub first : get_or t i 0 < 256
  pub second : get_or t (i + 1) 0 < 256
  pub third : get_or t (i + 2) 0 < 256
  pub fourth : get_or t (i + 3) 0 < 256
  pub is : name ≡ four_of (get_or t i 0) (get_or t (i + 1) 0) (get_or t (i + 2) 0) (get_or t (i + 3) 0)

-- the first row with a name of four characters, if there is one: what stands behind the name decides. Branches are
-- told apart before
pub record Row (t : Text) (i row : ℕ) : Type 0 where
  pub counted : 0 < row
  pub decides : first_fit 1 instructions i (drop i t) ≡ behind_name row (i + 4) (drop (i + 4) t)

abbrev pub RowAt : Text → ℕ → Std.Option ℕ → Type 0
RowAt t i None = None ≡ first_fit 1 instructions i (drop i t)
RowAt t i (Some row) = Row t i row

-- what a branch begins with
abbrev pub branch_letter : ℕ
branch_letter = code "B"

abbrev pub Named : ℕ → Std.Option ℕ → Type 0
Named name row = (t : Text) (i : ℕ) → Four t i name → (get_or t i 0 ≡ branch_letter → ⊥) → RowAt t i row
