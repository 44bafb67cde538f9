-- What is read of a text are its lines: all of it, or the lines before the first that is none.
use mathlib.Core.Bool.{Bool, true, false, cond}
use mathlib.Core.List.{List, [], ◌∷◌, ◌++◌, append_assoc, append-nil}
use mathlib.Core.Option.{Option, none, some}
use mathlib.Core.Path.{◌≡◌, refl, ap, sym, ◌∙◌, subst}
use Prim.Native.Nat.{ℕ, suc, ◌+◌, ◌<◌}
use native.Mathlib.Omega.{arith}
use lib.Dec.{eqb}
use lib.ListN.{length}
use borrow.Author.Tests.{eqb-true}
use Rattle.units.proofs.Cases.{clash}
use Rattle.text.specs.Text.{Text, every, feed, Lines, line, remainder, in_front, lines_of}
use Rattle.syntax.specs.Syntax.{Item, LineOf, parse, row_count, pattern_at}
use Rattle.assembler.specs.Assemble.{Read, Items, NoLine, reading, read_from}
use Rattle.text_laws.specs.Reasons.{Says, nothing, more, Unread}
use Rattle.text_laws.proofs.Lines.{syntax_exact}
use Rattle.text_laws.proofs.Reading.{not_feed, lines_line, line_no_feed, rows_no_feed}

-- a text by its first line: cut off at its line feed, or not ended
abbrev Cut : Text → Lines → Type 0
Cut text (line t ls) = (rest : Text) × (text ≡ t ++ (feed ∷ rest)) × (lines_of rest ≡ ls)
Cut text (remainder t) = text ≡ t

cut : (text : Text) → Cut text (lines_of text)
unfolding lines_of
cut [] = refl
cut (c ∷ t) = go (eqb c feed) refl (cut t)
  where
    front : (ls : Lines) → Cut t ls → Cut (c ∷ t) (in_front c ls)
    front (line s ls) w = (w.0, ap (λ (x : Text). c ∷ x) w.1, w.2)
    front (remainder s) w = ap (λ (x : Text). c ∷ x) w

    go : (b : Bool) → eqb c feed ≡ b → Cut t (lines_of t)
        → Cut (c ∷ t) (cond b (line [] (lines_of t)) (in_front c (lines_of t)))
    go true e w = (t, ap (λ (x : ℕ). x ∷ t) (eqb-true c feed e), refl)
    go false e w = front (lines_of t) w

cut_as : (text : Text) (ls : Lines) → lines_of text ≡ ls → Cut text ls
cut_as text ls e = subst (Cut text) e (cut text)

-- what is a line has no line feed in it
read_no_feed : (t : Text) (x : Item) → parse t ≡ some x → every not_feed t ≡ true
read_no_feed t x e =
    let r = (syntax_exact t).read x e in
    line_no_feed r.1 (rows_no_feed x.row r.0)

-- an item in front of what is read
abbrev behind : Item → Read → Read
behind x (Items xs) = Items (x ∷ xs)
behind x (NoLine n) = NoLine n

reading_some : (k : ℕ) (x : Item) (r : Read) → reading k (some x) r ≡ behind x r
reading_some k x (Items xs) = refl
reading_some k x (NoLine n) = refl

-- all lines are read
pub read_says : (ls : Lines) (text : Text) (k : ℕ) (xs : List Item) → lines_of text ≡ ls → read_from k ls ≡ Items xs
    → Says text xs
unfolding read_from
read_says (remainder []) text k xs e q =
    let none_left : text ≡ [] = cut_as text (remainder []) e in
    let no_items : [] ≡ xs = cc in
    subst (Says text) no_items (subst (λ (s : Text). Says s []) (sym none_left) nothing)
read_says (remainder (c ∷ t)) text k xs e q = clash (cc)
read_says (line t ls) text k xs e q =
    let w = cut_as text (line t ls) e in
    go (parse t) (read_from (suc k) ls) refl w (λ ys. read_says ls w.0 (suc k) ys w.2) q
  where
    go : (o : Option Item) (r : Read) → parse t ≡ o → (w : Cut text (line t ls))
        → ((ys : List Item) → r ≡ Items ys → Says w.0 ys) → reading k o r ≡ Items xs → Says text xs
    go none r p w f q = clash (cc)
    go (some x) (NoLine n) p w f q = clash (cc)
    go (some x) (Items ys) p w f q =
        let all : x ∷ ys ≡ xs = cc in
        subst (Says text) all (subst (λ (s : Text). Says s (x ∷ ys)) (sym w.1) (more t p (f ys refl)))

-- line n is none, the first from line k on
abbrev UnreadFrom : Text → ℕ → ℕ → Type 0
UnreadFrom text k n = (m : ℕ) × (n ≡ k + m) × Unread text m

-- nothing is read in front of it
unread_here : (text : Text) → (text ≡ [] → ⊥)
    → ((t later : Text) (row : ℕ) (vs : List ℕ) → text ≡ t ++ (feed ∷ later) → row < row_count
    → LineOf (pattern_at row) vs t → ⊥) → Unread text 0
unread_here text f g =
    record {
      front = [];
      rest = text;
      split = refl;
      items = [];
      says = nothing;
      count = refl;
      goes_on = f;
      no_line = g;
    }

-- a line of any row at the front of a text is its first line
line_first : (text t later : Text) (row : ℕ) (vs : List ℕ) → text ≡ t ++ (feed ∷ later) → row < row_count
    → LineOf (pattern_at row) vs t → lines_of text ≡ line t (lines_of later)
line_first text t later row vs e h l =
    subst (λ (s : Text). lines_of s ≡ line t (lines_of later)) (sym e)
    (lines_line t later (line_no_feed l (rows_no_feed row h)))

unread_more : (text t : Text) (x : Item) (rest : Text) (m : ℕ) → text ≡ t ++ (feed ∷ rest) → parse t ≡ some x
    → Unread rest m → Unread text (suc m)
unread_more text t x rest m e p u =
    record {
      front = t ++ (feed ∷ u.front);
      rest = u.rest;
      split =
          e ∙ ap (λ (s : Text). t ++ (feed ∷ s)) u.split
          ∙ sym (append_assoc t (feed ∷ u.front) u.rest);
      items = x ∷ u.items;
      says = more t p u.says;
      count = ap suc u.count;
      goes_on = u.goes_on;
      no_line = u.no_line;
    }

pub read_unread : (ls : Lines) (text : Text) (k n : ℕ) → lines_of text ≡ ls → read_from k ls ≡ NoLine n
    → UnreadFrom text k n
unfolding read_from
read_unread (remainder []) text k n e q = clash (cc)
read_unread (remainder (c ∷ t)) text k n e q =
    let whole : text ≡ c ∷ t = cut_as text (remainder (c ∷ t)) e in
    let here : k ≡ n = cc in (
      0,
      omega arith,
      unread_here text (λ z. clash (cc))
          (λ s later row vs i h l. let first = line_first text s later row vs i h l in clash (cc)),
    )
read_unread (line t ls) text k n e q =
    let w = cut_as text (line t ls) e in
    go (parse t) (read_from (suc k) ls) refl w (λ p. read_unread ls w.0 (suc k) n w.2 p) q
  where
    not_empty : (s u : Text) → s ++ (feed ∷ u) ≡ [] → ⊥
    not_empty [] u z = clash (cc)
    not_empty (d ∷ s) u z = clash (cc)

    go : (o : Option Item) (r : Read) → parse t ≡ o → (w : Cut text (line t ls))
        → (r ≡ NoLine n → UnreadFrom w.0 (suc k) n) → reading k o r ≡ NoLine n → UnreadFrom text k n
    go none r p w f q =
        let here : k ≡ n = cc in (
          0,
          omega arith,
          unread_here text (λ z. not_empty t w.0 (sym w.1 ∙ z)) (λ s later row vs i h l.
              let first = line_first text s later row vs i h l in
              let same : t ≡ s = cc in
              (syntax_exact s).unread (subst (λ (u : Text). parse u ≡ none) same p) row vs h l),
        )
    go (some x) (Items ys) p w f q = clash (cc)
    go (some x) (NoLine j) p w f q =
        let told : NoLine j ≡ NoLine n = q in
        let r = f told in
        (suc r.0, omega (arith, r.1), unread_more text t x w.0 r.0 w.1 p r.2)

-- and the other way: lines in front of a text are read first
abbrev behind_all : List Item → Read → Read
behind_all [] r = r
behind_all (x ∷ xs) r = behind x (behind_all xs r)

behind_none : (xs : List Item) (n : ℕ) → behind_all xs (NoLine n) ≡ NoLine n
behind_none [] n = refl
behind_none (x ∷ xs) n = ap (behind x) (behind_none xs n)

behind_nothing : (xs : List Item) → behind_all xs (Items []) ≡ Items xs
behind_nothing [] = refl
behind_nothing (x ∷ xs) = ap (behind x) (behind_nothing xs)

says_front : {front : Text} {xs : List Item} → Says front xs → (rest : Text) (k : ℕ)
    → read_from k (lines_of (front ++ rest)) ≡ behind_all xs (read_from (k + length xs) (lines_of rest))
unfolding read_from
says_front nothing rest k =
    let n : k ≡ k + 0 = omega arith in
    ap (λ (j : ℕ). read_from j (lines_of rest)) n
says_front (more {rest = later} {x = x} {xs = xs} t p s) rest k =
    let first : lines_of ((t ++ (feed ∷ later)) ++ rest) ≡ line t (lines_of (later ++ rest))
    = rw append_assoc (lines_line t (later ++ rest) (read_no_feed t x p)) in
    let n : suc k + length xs ≡ k + suc (length xs) = omega arith in
    let further : read_from (suc k) (lines_of (later ++ rest))
    ≡ behind_all xs (read_from (k + suc (length xs)) (lines_of rest))
    = says_front s rest (suc k) ∙ ap (λ (j : ℕ). behind_all xs (read_from j (lines_of rest))) n in
    rw (first, p) (reading_some k x (read_from (suc k) (lines_of (later ++ rest))) ∙ ap (behind x) further)

pub says_read : (text : Text) (xs : List Item) → Says text xs → read_from 1 (lines_of text) ≡ Items xs
unfolding read_from lines_of
says_read text xs s =
    subst (λ (t : Text). read_from 1 (lines_of t) ≡ Items xs) (append-nil text)
    (says_front s [] 1 ∙ behind_nothing xs)

-- where no line begins
read_rest : (rest : Text) (k : ℕ) → (rest ≡ [] → ⊥)
    → ((t later : Text) (row : ℕ) (vs : List ℕ) → rest ≡ t ++ (feed ∷ later) → row < row_count
    → LineOf (pattern_at row) vs t → ⊥) → read_from k (lines_of rest) ≡ NoLine k
unfolding read_from
read_rest rest k f g = go (lines_of rest) (cut rest)
  where
    go : (ls : Lines) → Cut rest ls → read_from k ls ≡ NoLine k
    go (remainder []) w = absurd (f w)
    go (remainder (c ∷ t)) w = refl
    go (line t ls) w = at (parse t) refl
      where
        at : (o : Option Item) → parse t ≡ o → reading k o (read_from (suc k) ls) ≡ NoLine k
        at none p = refl
        at (some x) p =
            let r = (syntax_exact t).read x p in
            absurd (g t w.0 x.row x.values w.1 r.0 r.1)

pub unread_read : (text : Text) (n : ℕ) → Unread text n → read_from 1 (lines_of text) ≡ NoLine (suc n)
unread_read text n u =
    let k : 1 + length u.items ≡ suc n = omega (arith, u.count) in
    subst (λ (t : Text). read_from 1 (lines_of t) ≡ NoLine (suc n)) (sym u.split)
    (says_front u.says u.rest 1
    ∙ ap (behind_all u.items) (read_rest u.rest _ u.goes_on u.no_line ∙ ap NoLine k)
    ∙ behind_none u.items (suc n))
