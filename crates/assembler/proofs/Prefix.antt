-- A text up to a line's start: its lines were read when those before that place were.
use mathlib.Core.Bool.{Bool, true, false, cond}
use mathlib.Core.List.{List, [], ◌∷◌, ◌++◌, append_assoc}
use mathlib.Core.Option.{Option, none, some}
use mathlib.Core.Path.{◌≡◌, refl, ap, ap₂, sym, ◌∙◌}
use Prim.Native.Nat.{ℕ, zero, suc, ◌+◌, ◌≤◌}
use native.Mathlib.Omega.{arith}
use lib.Dec.{eqb}
use lib.ListN.{length, take, drop, length-append, length-drop}
use borrow.Author.Tests.{eqb-true}
use Rattle.units.proofs.Cases.{clash}
use Rattle.text.specs.Text.{Text, feed, Lines, remainder, line, in_front, lines_of}
use Rattle.syntax.specs.Syntax.{Item, parse}
use Rattle.assembler.specs.Assemble.{Read, Items, NoLine, reading, read_from}

-- items that were read before
abbrev pub prepend : List Item → Read → Read
prepend xs (Items ys) = Items (xs ++ ys)
prepend xs (NoLine k) = NoLine k

pub prepend_none : (r : Read) → r ≡ prepend [] r
prepend_none (Items ys) = refl
prepend_none (NoLine k) = refl

pub no_items : {A : Type 0} {k : ℕ} {xs : List Item} → NoLine k ≡ Items xs → A
no_items e = clash (cc)

pub same_items : {xs ys : List Item} → Items xs ≡ Items ys → xs ≡ ys
same_items e = cc

-- lines behind others
abbrev text_before : Text → Lines → Lines
text_before [] ls = ls
text_before (c ∷ t) ls = in_front c (text_before t ls)

abbrev joined : Lines → Lines → Lines
joined (remainder t) ls = text_before t ls
joined (line t ms) ls = line t (joined ms ls)

front_joined : (c : ℕ) (ms ls : Lines) → in_front c (joined ms ls) ≡ joined (in_front c ms) ls
front_joined c (remainder t) ls = refl
front_joined c (line t ms) ls = refl

lines_append : (s t : Text) → lines_of (s ++ t) ≡ joined (lines_of s) (lines_of t)
unfolding lines_of
lines_append [] t = refl
lines_append (c ∷ s) t = go (eqb c feed) (lines_append s t)
  where
    go : (b : Bool) → lines_of (s ++ t) ≡ joined (lines_of s) (lines_of t)
        → cond b (line [] (lines_of (s ++ t))) (in_front c (lines_of (s ++ t)))
        ≡ joined (cond b (line [] (lines_of s)) (in_front c (lines_of s))) (lines_of t)
    go true e = ap (line []) e
    go false e = ap (in_front c) e ∙ front_joined c (lines_of s) (lines_of t)

-- what was read behind an item
abbrev Behind : Read → List Item → Option Item → Type 0
Behind later xs none = ⊥
Behind later xs (some x) = (ys : List Item) × (later ≡ Items ys) × (xs ≡ x ∷ ys)

behind : (k : ℕ) (o : Option Item) (later : Read) (xs : List Item) → reading k o later ≡ Items xs → Behind later xs o
behind k none later xs e = no_items e
behind k (some x) (Items ys) xs e = (ys, refl, same_items (sym e))
behind k (some x) (NoLine n) xs e = no_items e

read_on : (k : ℕ) (x : Item) (ys : List Item) (r : Read) → reading k (some x) (prepend ys r) ≡ prepend (x ∷ ys) r
read_on k x ys (Items zs) = refl
read_on k x ys (NoLine n) = refl

read_joined : (k : ℕ) (ms ls : Lines) (xs : List Item) → read_from k ms ≡ Items xs
    → read_from k (joined ms ls) ≡ prepend xs (read_from (k + length xs) ls)
unfolding read_from
read_joined k (remainder []) ls xs e =
    let none_is : xs ≡ [] = same_items (sym e) in
    let same : k ≡ k + length xs = omega (arith, ap length none_is) in
    prepend_none (read_from k ls) ∙ ap₂ (λ (ys : List Item) (j : ℕ). prepend ys (read_from j ls)) (sym none_is) same
read_joined k (remainder (c ∷ t)) ls xs e = no_items e
read_joined k (line t ms) ls xs e =
    go (parse t) (behind k (parse t) (read_from (suc k) ms) xs e) (read_joined (suc k) ms ls)
  where
    go : (o : Option Item) → Behind (read_from (suc k) ms) xs o
        → ((ys : List Item) → read_from (suc k) ms ≡ Items ys
        → read_from (suc k) (joined ms ls) ≡ prepend ys (read_from (suc k + length ys) ls))
        → reading k o (read_from (suc k) (joined ms ls)) ≡ prepend xs (read_from (k + length xs) ls)
    go none b f = absurd b
    go (some x) (ys, is, all) f =
        let place : suc k + length ys ≡ k + length xs = omega (arith, ap length all) in
        ap (reading k (some x)) (f ys is) ∙ read_on k x ys (read_from (suc k + length ys) ls)
        ∙ ap₂ (λ (zs : List Item) (j : ℕ). prepend zs (read_from j ls)) (sym all) place

-- a text that begins with a line
pub record Split (u t : Text) (ls : Lines) : Type 0 where
  pub rest : Text
  pub text_is : u ≡ t ++ (feed ∷ rest)
  pub lines_are : lines_of rest ≡ ls
  pub ends : (w : Text) → lines_of (t ++ (feed ∷ w)) ≡ line t (lines_of w)

pub line_split : (u t : Text) (ls : Lines) → lines_of u ≡ line t ls → Split u t ls
unfolding lines_of
line_split [] t ls e = clash (cc)
line_split (c ∷ u) t ls e = go (eqb c feed) refl (line_split u) e
  where
    first_line : (ms : Lines) → in_front c ms ≡ line t ls
        → (s : Text) × (ms ≡ line s ls) × (t ≡ c ∷ s)
    first_line (remainder s) e = clash (cc)
    first_line (line s ms) e = (s, cc, cc)

    go : (b : Bool) → eqb c feed ≡ b
        → ((s : Text) (ms : Lines) → lines_of u ≡ line s ms → Split u s ms)
        → cond b (line [] (lines_of u)) (in_front c (lines_of u)) ≡ line t ls → Split (c ∷ u) t ls
    go true q f e =
        let nothing : t ≡ [] = cc in
        rw nothing (record {
          rest = u;
          text_is = ap (λ (d : ℕ). d ∷ u) (eqb-true c feed q);
          lines_are = cc;
          ends = λ w. refl;
        })
    go false q f e =
        let l = first_line (lines_of u) e in
        let s = f l.0 ls l.1 in
        rw l.2 (record {
          rest = s.rest;
          text_is = ap (λ (v : Text). c ∷ v) s.text_is;
          lines_are = s.lines_are;
          ends = λ w. rw q (ap (in_front c) (s.ends w));
        })

-- places of a text
take_front : (u v : Text) → take (length u) (u ++ v) ≡ u
take_front [] v = refl
take_front (c ∷ u) v = ap (λ (w : Text). c ∷ w) (take_front u v)

drop_front : (u v : Text) → drop (length u) (u ++ v) ≡ v
drop_front [] v = refl
drop_front (c ∷ u) v = drop_front u v

pub taken : (xs u v : Text) (n m : ℕ) → m ≡ n + length u → n ≤ length xs → drop n xs ≡ u ++ v
    → take m xs ≡ take n xs ++ u
taken xs u v zero m e h q =
    let same : m ≡ length u = omega arith in
    ap₂ (λ (j : ℕ) (ys : Text). take j ys) same q ∙ take_front u v
taken [] u v (suc n) m e h q = absurd (omega arith)
taken (c ∷ xs) u v (suc n) zero e h q = absurd (omega arith)
taken (c ∷ xs) u v (suc n) (suc m) e h q =
    ap (λ (w : Text). c ∷ w) (taken xs u v n m (omega arith) (omega arith) q)

pub dropped : (xs u v : Text) (n m : ℕ) → m ≡ n + length u → n ≤ length xs → drop n xs ≡ u ++ v → drop m xs ≡ v
dropped xs u v zero m e h q =
    let same : m ≡ length u = omega arith in
    ap₂ (λ (j : ℕ) (ys : Text). drop j ys) same q ∙ drop_front u v
dropped [] u v (suc n) m e h q = absurd (omega arith)
dropped (c ∷ xs) u v (suc n) zero e h q = absurd (omega arith)
dropped (c ∷ xs) u v (suc n) (suc m) e h q = dropped xs u v n m (omega arith) (omega arith) q

-- at a line's start, and behind the line
module _ (text : Text) (at : ℕ) (within : at ≤ length text) (t : Text) (ls : Lines)
    (here : lines_of (drop at text) ≡ line t ls) where
  abbrev next : ℕ
  next = at + length t + 1

  split : Split (drop at text) t ls
  split = line_split (drop at text) t ls here

  abbrev whole : Text
  whole = t ++ (feed ∷ [])

  parts : drop at text ≡ whole ++ split.rest
  parts = split.text_is ∙ sym (append_assoc t (feed ∷ []) split.rest)

  step : next ≡ at + length whole
  step = omega (arith, length-append t (feed ∷ []))

  pub next_within : next ≤ length text
  next_within =
      omega (arith, step, length-drop at text, ap length parts, length-append whole split.rest)

  -- the lines behind it
  pub lines_behind : lines_of (drop next text) ≡ ls
  lines_behind =
      ap lines_of (dropped text whole split.rest at next step within parts) ∙ split.lines_are

  -- the text up to there was read, with one item more
  pub above_read : (xs : List Item) (x : Item) → read_from 1 (lines_of (take at text)) ≡ Items xs → parse t ≡ some x
      → read_from 1 (lines_of (take next text)) ≡ Items (xs ++ (x ∷ []))
  unfolding read_from lines_of
  above_read xs x e p =
      ap (λ (u : Text). read_from 1 (lines_of u)) (taken text whole split.rest at next step within parts)
      ∙ ap (read_from 1) (lines_append (take at text) whole ∙ ap (joined (lines_of (take at text))) (split.ends []))
      ∙ read_joined 1 (lines_of (take at text)) (line t (remainder [])) xs e
      ∙ rw p refl
