-- A line that is written is read again: as a line of the text, and as its row with its values.
use mathlib.Core.Bool.{Bool, true, false, false≢true, cond, not}
use mathlib.Core.List.{List, [], ◌∷◌, ◌++◌, append_assoc}
use mathlib.Core.Option.{some}
use mathlib.Core.Path.{◌≡◌, refl, subst}
use Prim.Native.Nat.{ℕ, suc, ◌<◌}
use lib.Dec.{T, eqb, ltb, ltb→lt}
use borrow.Author.Tests.{eqb-true, not-true}
use Rattle.units.proofs.Every as Every
use Rattle.text.specs.Text.{Text, is_small, in_word, every, feed, line, lines_of}
use Rattle.text.proofs.Words.{and_left, and_right, every_append, every_weak}
use Rattle.syntax.specs.Syntax.{Pattern, Item, LineOf, end, literal, slot, slot_word, values_of, parse, fill, first}
use Rattle.syntax.specs.Syntax.{tail}
use Rattle.syntax.specs.Syntax.{row_count, pattern_at, line_with}
use Rattle.syntax.proofs.Patterns.{complete}
use Rattle.syntax.proofs.Rows.{T_true, row_parse, delimited_rows}
use Rattle.assembler.specs.Assemble.{Items, read_from}
use Rattle.text_laws.proofs.Slots.{Reads}

abbrev pub not_feed : ℕ → Bool
not_feed c = not (eqb c feed)

-- up to the line feed a text is a line
pub lines_line : (t r : Text) → every not_feed t ≡ true → lines_of (t ++ (feed ∷ r)) ≡ line t (lines_of r)
unfolding lines_of
lines_line [] r h = refl
lines_line (c ∷ t) r h =
    let n : eqb c feed ≡ false = not-true (eqb c feed) (and_left (not_feed c) (every not_feed t) h) in
    let e : lines_of (t ++ (feed ∷ r)) ≡ line t (lines_of r)
    = lines_line t r (and_right (not_feed c) (every not_feed t) h) in
    simp (n, e)

word_no_feed : (c : ℕ) → in_word c ≡ true → not_feed c ≡ true
word_no_feed c h = go (eqb c feed) refl
  where
    go : (b : Bool) → eqb c feed ≡ b → not b ≡ true
    go true e = absurd (false≢true (subst (λ (x : ℕ). in_word x ≡ true) (eqb-true c feed e) h))
    go false e = refl

pub line_no_feed : {p : Pattern} {vs : List ℕ} {t : Text} → LineOf p vs t → every not_feed p ≡ true
    → every not_feed t ≡ true
line_no_feed end h = refl
line_no_feed (literal {c = c} {p = p} n l) h =
    simp (and_left (not_feed c) (every not_feed p) h, line_no_feed l (and_right (not_feed c) (every not_feed p) h))
line_no_feed (slot {s = s} {p = p} {t = t} w n i q l) h =
    every_append not_feed w t (every_weak in_word not_feed word_no_feed w i)
    (line_no_feed l (and_right (not_feed s) (every not_feed p) h))

pub rows_no_feed : (j : ℕ) → j < row_count → every not_feed (pattern_at j) ≡ true
rows_no_feed j h = T_true _ (Every.at (λ i. every not_feed (pattern_at i)) row_count tt j h)

-- values vs, written in the slots of a pattern, are read as us
abbrev pub Filled : Pattern → List ℕ → List ℕ → Type 0
Filled [] vs [] = Unit {0}
Filled [] vs (u ∷ us) = ⊥
Filled (c ∷ p) vs [] = (is_small c ≡ false) × Filled p vs []
Filled (c ∷ p) vs (u ∷ us) =
    let atSlot = Reads c (first vs) u × Filled p (tail vs) us in
    let atLiteral = Filled p vs (u ∷ us) in
    cond (is_small c) atSlot atLiteral

fill_line : (p : Pattern) (vs us : List ℕ) → Filled p vs us → LineOf p us (fill p vs)
unfolding fill
fill_line [] vs [] f = end
fill_line [] vs (u ∷ us) f = absurd f
fill_line (c ∷ p) vs [] f = rw f.0 (literal f.0 (fill_line p vs [] f.1))
fill_line (c ∷ p) vs (u ∷ us) f =
    go (is_small c) refl (fill_line p (tail vs) us) (fill_line p vs (u ∷ us)) f
  where
    go : (b : Bool) → is_small c ≡ b → (Filled p (tail vs) us → LineOf p us (fill p (tail vs)))
        → (Filled p vs (u ∷ us) → LineOf p (u ∷ us) (fill p vs))
        → cond b (Reads c (first vs) u × Filled p (tail vs) us) (Filled p vs (u ∷ us))
        → LineOf (c ∷ p) (u ∷ us) (cond b (slot_word c (first vs) ++ fill p (tail vs)) (c ∷ fill p vs))
    go true n g h f = slot (slot_word c (first vs)) n f.0.whole f.0.value (g f.1)
    go false n g h f = literal n (h f)

-- a text is read as an item, and has no line feed in it
pub record LineReads (t : Text) (x : Item) : Type 0 where
  pub item : parse t ≡ some x
  pub one : every not_feed t ≡ true

line_reads : (row : ℕ) (vs us : List ℕ) → row < row_count → Filled (pattern_at row) vs us
    → (row ≡ 10 → (ws : List ℕ) → values_of (pattern_at 8) (fill (pattern_at row) vs) ≡ some ws → ⊥)
    → LineReads (fill (pattern_at row) vs) (record { row = row; values = us })
line_reads row vs us h f g =
    let l = fill_line (pattern_at row) vs us f in
    record {
      item = row_parse row (fill (pattern_at row) vs) us h (complete l (delimited_rows row h)) g;
      one = line_no_feed l (rows_no_feed row h);
    }

-- a text is a line with its line feed, and is read as an item
pub record Written (s : Text) (x : Item) : Type 0 where
  pub text : Text
  pub ended : s ≡ text ++ (feed ∷ [])
  pub reads : LineReads text x

-- of row 10, and of any other
pub cmp_written : (vs us : List ℕ) → Filled (pattern_at 10) vs us
    → ((ws : List ℕ) → values_of (pattern_at 8) (fill (pattern_at 10) vs) ≡ some ws → ⊥)
    → Written (line_with 10 vs) (record { row = 10; values = us })
cmp_written vs us f g =
    record {
      text = fill (pattern_at 10) vs;
      ended = refl;
      reads = line_reads 10 vs us (ltb→lt 10 row_count tt) f (λ e. g);
    }

pub row_written : (row : ℕ) (vs us : List ℕ) → T (ltb row row_count) → T (not (eqb row 10))
    → Filled (pattern_at row) vs us → Written (line_with row vs) (record { row = row; values = us })
row_written row vs us h n f =
    record {
      text = fill (pattern_at row) vs;
      ended = refl;
      reads = line_reads row vs us (ltb→lt row row_count h) f (λ e. absurd (other row n e));
    }
  where
    other : (row : ℕ) → T (not (eqb row 10)) → row ≡ 10 → ⊥
    other row n e = subst (λ (k : ℕ). T (not (eqb k 10))) e n

-- such a line in front of a text
pub read_written : (k : ℕ) (s r : Text) (x : Item) (xs : List Item) → Written s x
    → read_from (suc k) (lines_of r) ≡ Items xs → read_from k (lines_of (s ++ r)) ≡ Items (x ∷ xs)
unfolding read_from
read_written k s r x xs w e =
    let t = w.text in
    let l : lines_of (s ++ r) ≡ line t (lines_of r)
    = rw (w.ended, append_assoc) (lines_line t r w.reads.one) in
    simp (l, w.reads.item, e)
