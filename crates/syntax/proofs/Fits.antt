-- A pattern that ends with the line feed fits a text where the pattern fits the text's first line: so a line needs
-- not be cut off to be read.
use mathlib.Core.Bool.{Bool, true, false, true≢false, cond, not, ◌&&◌}
use mathlib.Core.List.{List, [], ◌∷◌, ◌++◌}
use mathlib.Core.Option.{Option, none, some}
use mathlib.Core.Path.{◌≡◌, refl, ap, sym, ◌∙◌}
use Prim.Native.Nat.{ℕ, suc, ◌+◌}
use native.Mathlib.Omega.{arith}
use lib.Dec.{eqb}
use lib.ListN.{length, length-append}
use borrow.Author.Tests.{eqb-true, eq-eqb, not-true}
use Rattle.text.specs.Text.{Text, is_small, in_word, word, after_word, feed, Lines, remainder, line, in_front}
use Rattle.text.specs.Text.{lines_of}
use Rattle.text.proofs.Words.{begins_word, and_left, and_right, word_whole, word_front, word_back}
use Rattle.syntax.specs.Syntax.{Pattern, slot_value, starts_with, tail, before, values_of, item_or, parse_from}
use Rattle.syntax.specs.Syntax.{parse, patterns}
use Rattle.syntax.specs.Parser.{parsed_as, parsed_at, Fit, misfit, fits, fit_before, fit_at, ended, fit_or}
use Rattle.syntax.specs.Parser.{first_fit}
use Rattle.std.specs.Prelude.{None}

-- what a pattern makes of a first line that starts at a place
abbrev fit_of : ℕ → Option (List ℕ) → Fit
fit_of n none = misfit
fit_of n (some vs) = fits vs n

abbrev fit_in : Pattern → ℕ → Lines → Fit
fit_in p i (remainder u) = misfit
fit_in p i (line u ls) = fit_of (i + length u + 1) (values_of p u)

-- a text in front of the first line
abbrev in_front_all : Text → Lines → Lines
in_front_all w (remainder u) = remainder (w ++ u)
in_front_all w (line u ls) = line (w ++ u) ls

front_one : (c : ℕ) (w : Text) (ls : Lines) → in_front c (in_front_all w ls) ≡ in_front_all (c ∷ w) ls
front_one c w (remainder u) = refl
front_one c w (line u ls) = refl

front_none : (ls : Lines) → ls ≡ in_front_all [] ls
front_none (remainder u) = refl
front_none (line u ls) = refl

-- a letter or digit is no line feed
word_no_feed : (c : ℕ) → in_word c ≡ true → eqb c feed ≡ false
word_no_feed c e = go (eqb c feed) refl
  where
    go : (b : Bool) → eqb c feed ≡ b → b ≡ false
    go false q = refl
    go true q = absurd (true≢false (sym e ∙ ap in_word (eqb-true c feed q)))

lines_word : (t : Text) → lines_of t ≡ in_front_all (word t) (lines_of (after_word t))
unfolding lines_of word after_word
lines_word [] = refl
lines_word (c ∷ t) = go (in_word c) refl (lines_word t)
  where
    go : (b : Bool) → in_word c ≡ b → lines_of t ≡ in_front_all (word t) (lines_of (after_word t))
        → cond (eqb c feed) (line [] (lines_of t)) (in_front c (lines_of t))
        ≡ in_front_all (cond b (c ∷ word t) []) (lines_of (cond b (after_word t) (c ∷ t)))
    go true e r = rw (word_no_feed c e, r) (front_one c (word t) (lines_of (after_word t)))
    go false e r = front_none (lines_of (c ∷ t))

-- the first line of what follows a word doesn't prolong the word
abbrev first_line : Lines → Text
first_line (remainder u) = u
first_line (line u ls) = u

begins_line : (t : Text) → begins_word t ≡ false → begins_word (first_line (lines_of t)) ≡ false
unfolding lines_of
begins_line [] e = refl
begins_line (c ∷ t) e = go (eqb c feed) (lines_of t)
  where
    go : (b : Bool) (ls : Lines) → begins_word (first_line (cond b (line [] ls) (in_front c ls))) ≡ false
    go true ls = refl
    go false (remainder u) = e
    go false (line u ls) = e

after_word_is : (t : Text) → begins_word (after_word t) ≡ false
unfolding after_word
after_word_is [] = refl
after_word_is (c ∷ t) = go (in_word c) refl (after_word_is t)
  where
    go : (b : Bool) → in_word c ≡ b → begins_word (after_word t) ≡ false
        → begins_word (cond b (after_word t) (c ∷ t)) ≡ false
    go true e h = h
    go false e h = e

before_misfit : (o : Option ℕ) → fit_before o misfit ≡ misfit
before_misfit none = refl
before_misfit (some v) = refl

before_of : (o : Option ℕ) (n m : ℕ) (l : Option (List ℕ)) → n ≡ m → fit_before o (fit_of n l) ≡ fit_of m (before o l)
before_of none n m l e = refl
before_of (some v) n m none e = refl
before_of (some v) n m (some vs) e = ap (fits (v ∷ vs)) e

-- no line feed in a pattern
abbrev feedless : Pattern → Bool
feedless [] = true
feedless (c ∷ p) = not (eqb c feed) && feedless p

fit_end : (i : ℕ) (t : Text) → fit_at (feed ∷ []) i t ≡ fit_in [] i (lines_of t)
unfolding fit_at lines_of values_of
fit_end i [] = refl
fit_end i (c ∷ t) = go (eqb c feed) (lines_of t)
  where
    go : (b : Bool) (ls : Lines)
        → cond b (fits [] (i + 1)) misfit ≡ fit_in [] i (cond b (line [] ls) (in_front c ls))
    go true ls = ap (fits []) (omega arith)
    go false (remainder u) = refl
    go false (line u ls) = refl

pub fit_line : (p : Pattern) (i : ℕ) (t : Text) → feedless p ≡ true → fit_at (ended p) i t ≡ fit_in p i (lines_of t)
unfolding fit_at values_of lines_of
fit_line [] i t f = fit_end i t
fit_line (c ∷ p) i t f = go (is_small c) refl (λ j u. fit_line p j u (and_right (not (eqb c feed)) (feedless p) f))
  where
    other : eqb c feed ≡ false
    other = not-true (eqb c feed) (and_left (not (eqb c feed)) (feedless p) f)

    -- at a literal
    at_literal : is_small c ≡ false → ((j : ℕ) (u : Text) → fit_at (ended p) j u ≡ fit_in p j (lines_of u)) → (u : Text)
        → cond (starts_with c u) (fit_at (ended p) (i + 1) (tail u)) misfit ≡ fit_in (c ∷ p) i (lines_of u)
    at_literal s r [] = refl
    at_literal s r (d ∷ u) = by (eqb d feed) (eqb d c) refl refl (lines_of u) (r (i + 1) u)
      where
        by : (a b : Bool) → eqb d feed ≡ a → eqb d c ≡ b → (ls : Lines)
            → fit_at (ended p) (i + 1) u ≡ fit_in p (i + 1) ls
            → cond b (fit_at (ended p) (i + 1) u) misfit ≡ fit_in (c ∷ p) i (cond a (line [] ls) (in_front d ls))
        by true true e g ls r =
            absurd (true≢false (sym (eq-eqb c feed (sym (eqb-true d c g) ∙ eqb-true d feed e)) ∙ other))
        by true false e g ls r = simp s
        by false true e g (remainder v) r = r
        by false true e g (line v ls) r =
            let m : i + 1 + length v + 1 ≡ i + suc (length v) + 1 = omega arith in
            simp (s, g) (r ∙ ap (λ (n : ℕ). fit_of n (values_of p v)) m)
        by false false e g (remainder v) r = refl
        by false false e g (line v ls) r = simp (s, g)

    -- at a slot
    at_slot : is_small c ≡ true → (ls : Lines) → begins_word (first_line ls) ≡ false
        → fit_before (slot_value c (word t)) (fit_in p (i + length (word t)) ls)
        ≡ fit_in (c ∷ p) i (in_front_all (word t) ls)
    at_slot s (remainder u) b = before_misfit (slot_value c (word t))
    at_slot s (line u ls) b =
        let m : i + length (word t) + length u + 1 ≡ i + length (word t ++ u) + 1 =
        omega (arith, length-append (word t) u) in
        simp (s, word_front (word t) u (word_whole t) b, word_back (word t) u (word_whole t) b)
        (before_of (slot_value c (word t)) _ _ (values_of p u) m)

    go : (b : Bool) → is_small c ≡ b → ((j : ℕ) (u : Text) → fit_at (ended p) j u ≡ fit_in p j (lines_of u))
        → cond b (fit_before (slot_value c (word t)) (fit_at (ended p) (i + length (word t)) (after_word t)))
        (cond (starts_with c t) (fit_at (ended p) (i + 1) (tail t)) misfit)
        ≡ fit_in (c ∷ p) i (lines_of t)
    go true s r =
        ap (fit_before (slot_value c (word t))) (r (i + length (word t)) (after_word t))
        ∙ at_slot s (lines_of (after_word t)) (begins_line (after_word t) (after_word_is t))
        ∙ ap (fit_in (c ∷ p) i) (sym (lines_word t))
    go false s r = at_literal s r t

-- the first row that fits
abbrev feedless_all : List Pattern → Bool
feedless_all [] = true
feedless_all (p ∷ ps) = feedless p && feedless_all ps

rows_unended : (k : ℕ) (ps : List Pattern) (i : ℕ) (t u : Text) → feedless_all ps ≡ true → lines_of t ≡ remainder u
    → first_fit k ps i t ≡ None
unfolding first_fit
rows_unended k [] i t u f e = refl
rows_unended k (p ∷ ps) i t u f e =
    let m : fit_at (ended p) i t ≡ misfit =
    fit_line p i t (and_left (feedless p) (feedless_all ps) f) ∙ ap (fit_in p i) e in
    rw m (rows_unended (suc k) ps i t u (and_right (feedless p) (feedless_all ps) f) e)

rows_ended : (k : ℕ) (ps : List Pattern) (i : ℕ) (t u : Text) (ls : Lines) → feedless_all ps ≡ true
    → lines_of t ≡ line u ls → first_fit k ps i t ≡ parsed_as (i + length u + 1) (parse_from k ps u)
unfolding first_fit parse_from
rows_ended k [] i t u ls f e = refl
rows_ended k (p ∷ ps) i t u ls f e =
    let m : fit_at (ended p) i t ≡ fit_of (i + length u + 1) (values_of p u) =
    fit_line p i t (and_left (feedless p) (feedless_all ps) f) ∙ ap (fit_in p i) e in
    rw m (go (values_of p u) (rows_ended (suc k) ps i t u ls (and_right (feedless p) (feedless_all ps) f) e))
  where
    go : (o : Option (List ℕ))
        → first_fit (suc k) ps i t ≡ parsed_as (i + length u + 1) (parse_from (suc k) ps u)
        → fit_or k (fit_of (i + length u + 1) o) (first_fit (suc k) ps i t)
        ≡ parsed_as (i + length u + 1) (item_or k o (parse_from (suc k) ps u))
    go none r = r
    go (some vs) r = refl

pub line_at : (i : ℕ) (t : Text) → first_fit 0 patterns i t ≡ parsed_at i (lines_of t)
unfolding parse
line_at i t = go (lines_of t) refl
  where
    go : (ls : Lines) → lines_of t ≡ ls → first_fit 0 patterns i t ≡ parsed_at i ls
    go (remainder u) e = rows_unended 0 patterns i t u refl e
    go (line u ls) e = rows_ended 0 patterns i t u ls refl e
