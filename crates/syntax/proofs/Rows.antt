-- Which row a line has. That two rows have no line in common is a test of the two patterns, computed once for all
-- pairs.
use mathlib.Core.Bool.{Bool, true, false, true≢false, false≢true, cond, not, ◌&&◌, ◌||◌}
use mathlib.Core.List.{List, [], ◌∷◌, head-eq_of_cons-eq, tail-eq_of_cons-eq}
use mathlib.Core.Option.{Option, none, some, none-ne-some, some-injective}
use mathlib.Core.Path.{◌≡◌, refl, ap, sym, ◌∙◌, subst}
use Prim.Native.Nat.{ℕ, zero, suc, ◌+◌, ◌<◌}
use Prim.Native.Char.{code}
use native.Mathlib.Omega.{arith}
use lib.Dec.{T, eqb}
use lib.ListN.{length, get_or}
use borrow.Author.Tests.{eqb-true, eqb-false, not-true}
use Rattle.text.specs.Text.{Text, is_small, is_digit, in_word, word, after_word, is_number, is_name}
use Rattle.syntax.specs.Syntax.{Pattern, Item, patterns, row_count, pattern_at, number_value, register_value}
use Rattle.syntax.specs.Syntax.{condition_value, name_value, slot_value, before, given, below, values_of, item_or}
use Rattle.syntax.specs.Syntax.{parse_from, parse}
use Rattle.text.proofs.Words.{and_left, and_right}
use Rattle.syntax.proofs.Patterns.{delimited}
use Rattle.units.proofs.Every as Every

-- a character that the words of a slot may begin with
abbrev may_begin : ℕ → ℕ → Bool
may_begin s c =
    cond (eqb s (code "r") || eqb s (code "h")) (eqb c (code "R"))
    (cond (eqb s (code "n")) (is_digit c)
    (cond (eqb s (code "c")) true (is_small c)))

-- no text is a line of both patterns
abbrev apart : Pattern → Pattern → Bool
apart [] q = false
apart (c ∷ p) [] = false
apart (c ∷ p) (d ∷ q) =
    let further = apart p q in
    cond (is_small c)
    (cond (is_small d) further (not (may_begin c d)))
    (cond (is_small d) (not (may_begin d c)) (not (eqb c d) || further))

pub never : {A B : Type 0} {a : A} → none ≡ some a → B
never {a = a} e = absurd (none-ne-some a e)

-- the value of a word, by the five kinds of slots
abbrev value_by : Text → Bool → Bool → Bool → Bool → Bool → Option ℕ
value_by w r h n c l =
    cond r (register_value 8 w)
    (cond h (register_value 16 w) (cond n (number_value w) (cond c (condition_value w) (cond l (name_value w) none))))

slot_empty : (s v : ℕ) → slot_value s [] ≡ some v → ⊥
unfolding slot_value register_value number_value condition_value name_value is_number is_name
slot_empty s v e = go (eqb s (code "r")) (eqb s (code "h")) (eqb s (code "n")) (eqb s (code "c")) (eqb s (code "l")) e
  where
    go : (a b c d f : Bool) → value_by [] a b c d f ≡ some v → ⊥
    go true b c d f e = never e
    go false true c d f e = never e
    go false false true d f e = never e
    go false false false true f e = never e
    go false false false false true e = never e
    go false false false false false e = never e

register_begins : (count c v : ℕ) (w : Text) → register_value count (c ∷ w) ≡ some v → eqb c (code "R") ≡ true
unfolding register_value
register_begins count c v w e = go (eqb c (code "R")) e
  where
    go : (b : Bool) → cond b (below count (number_value w)) none ≡ some v → b ≡ true
    go true e = refl
    go false e = never e

given_true : (b : Bool) (n v : ℕ) → given b n ≡ some v → b ≡ true
given_true true n v e = refl
given_true false n v e = never e

number_begins : (c v : ℕ) (w : Text) → number_value (c ∷ w) ≡ some v → is_digit c ≡ true
unfolding number_value is_number
number_begins c v w e = and_left (is_digit c) _ (and_left _ _ (given_true _ _ v e))

name_begins : (c v : ℕ) (w : Text) → name_value (c ∷ w) ≡ some v → is_small c ≡ true
unfolding name_value is_name
name_begins c v w e = and_left (is_small c) _ (and_left _ _ (given_true _ _ v e))

slot_begins : (s c v : ℕ) (w : Text) → slot_value s (c ∷ w) ≡ some v → may_begin s c ≡ true
unfolding slot_value
slot_begins s c v w e =
    go (eqb s (code "r")) (eqb s (code "h")) (eqb s (code "n")) (eqb s (code "c")) (eqb s (code "l")) e
  where
    go : (a b n d f : Bool) → value_by (c ∷ w) a b n d f ≡ some v
        → cond (a || b) (eqb c (code "R")) (cond n (is_digit c) (cond d true (is_small c))) ≡ true
    go true b n d f e = register_begins 8 c v w e
    go false true n d f e = register_begins 16 c v w e
    go false false true d f e = number_begins c v w e
    go false false false true f e = refl
    go false false false false true e = name_begins c v w e
    go false false false false false e = never e

-- the parts of a line that was found
module _ (C : Type 0) where
  pub at_slot : (c : ℕ) (p : Pattern) (t : Text) (vs : List ℕ) → is_small c ≡ true → values_of (c ∷ p) t ≡ some vs
      → ((v : ℕ) (us : List ℕ) → slot_value c (word t) ≡ some v → values_of p (after_word t) ≡ some us → C) → C
  unfolding values_of
  at_slot c p t vs n e f = go (slot_value c (word t)) (values_of p (after_word t)) refl refl (simp n at e)
    where
      go : (o : Option ℕ) (l : Option (List ℕ)) → slot_value c (word t) ≡ o → values_of p (after_word t) ≡ l
          → before o l ≡ some vs → C
      go none l q r e = never e
      go (some v) none q r e = never e
      go (some v) (some us) q r e = f v us q r

  at_literal : (c : ℕ) (p : Pattern) (t : Text) (vs : List ℕ) → is_small c ≡ false → values_of (c ∷ p) t ≡ some vs
      → ((u : Text) → t ≡ c ∷ u → values_of p u ≡ some vs → C) → C
  unfolding values_of
  at_literal c p [] vs n e f = never (simp n at e)
  at_literal c p (d ∷ t) vs n e f = go (eqb d c) refl (simp n at e)
    where
      go : (b : Bool) → eqb d c ≡ b → cond b (values_of p t) none ≡ some vs → C
      go true q e = f t (ap (λ (x : ℕ). x ∷ t) (eqb-true d c q)) e
      go false q e = never e

-- a slot whose words can't begin with a character, where the text does
unlike : (s d v : ℕ) (t u : Text) → t ≡ d ∷ u → slot_value s (word t) ≡ some v → not (may_begin s d) ≡ true → ⊥
unfolding word
unlike s d v t u e q m = go (in_word d) (subst (λ (x : Text). slot_value s (word x) ≡ some v) e q)
  where
    go : (b : Bool) → slot_value s (cond b (d ∷ word u) []) ≡ some v → ⊥
    go true q = true≢false (sym (slot_begins s d v (word u) q) ∙ not-true (may_begin s d) m)
    go false q = slot_empty s v q

or_cases : (C : Type 0) (a b : Bool) → (a || b) ≡ true → (a ≡ true → C) → (b ≡ true → C) → C
or_cases C true b e f g = f refl
or_cases C false b e f g = g e

apart_sound : (p q : Pattern) (t : Text) (vs us : List ℕ) → apart p q ≡ true → values_of p t ≡ some vs
    → values_of q t ≡ some us → ⊥
apart_sound [] q t vs us a e f = false≢true a
apart_sound (c ∷ p) [] t vs us a e f = false≢true a
apart_sound (c ∷ p) (d ∷ q) t vs us a e f = go (is_small c) (is_small d) refl refl (apart_sound p q) a
  where
    go : (b g : Bool) → is_small c ≡ b → is_small d ≡ g
        → ((t : Text) (vs us : List ℕ) → apart p q ≡ true → values_of p t ≡ some vs → values_of q t ≡ some us → ⊥)
        → cond b (cond g (apart p q) (not (may_begin c d)))
        (cond g (not (may_begin d c)) (not (eqb c d) || apart p q)) ≡ true → ⊥
    go true true x y h a =
        at_slot ⊥ c p t vs x e (λ v ws i j.
        at_slot ⊥ d q t us y f (λ v' ws' i' j'. h (after_word t) ws ws' a j j'))
    go true false x y h a =
        at_slot ⊥ c p t vs x e (λ v ws i j. at_literal ⊥ d q t us y f (λ u k j'. unlike c d v t u k i a))
    go false true x y h a =
        at_slot ⊥ d q t us y f (λ v ws i j. at_literal ⊥ c p t vs x e (λ u k j'. unlike d c v t u k i a))
    go false false x y h a =
        at_literal ⊥ c p t vs x e (λ u k j. at_literal ⊥ d q t us y f (λ u' k' j'.
        or_cases ⊥ (not (eqb c d)) (apart p q) a
        (λ n. eqb-false c d (not-true (eqb c d) n) (head-eq_of_cons-eq (sym k ∙ k')))
        (λ n. h u vs us n j (subst (λ (z : Text). values_of q z ≡ some us) (tail-eq_of_cons-eq (sym k' ∙ k)) j'))))

-- the first row that fits
parse_at : (ps : List Pattern) (k j : ℕ) (t : Text) (vs : List ℕ) → j < length ps
    → values_of (get_or ps j []) t ≡ some vs
    → ((r : ℕ) → r < j → (us : List ℕ) → values_of (get_or ps r []) t ≡ some us → ⊥)
    → parse_from k ps t ≡ some (record { row = k + j; values = vs })
unfolding parse_from
parse_at [] k j t vs l e f = absurd (omega arith)
parse_at (p ∷ ps) k zero t vs l e f = simp e (ap (λ (x : ℕ). some (record { row = x; values = vs })) (omega arith))
parse_at (p ∷ ps) k (suc j) t vs l e f =
    go (values_of p t) refl (parse_at ps (suc k) j t vs (omega arith) e (λ r h us q. f (suc r) (omega arith) us q))
  where
    go : (o : Option (List ℕ)) → values_of p t ≡ o
        → parse_from (suc k) ps t ≡ some (record { row = suc k + j; values = vs })
        → item_or k o (parse_from (suc k) ps t) ≡ some (record { row = k + suc j; values = vs })
    go none q r = r ∙ ap (λ (x : ℕ). some (record { row = x; values = vs })) (omega arith)
    go (some us) q r = absurd (f 0 (omega arith) us q)

-- all pairs of rows but 8 and 10
abbrev pair_apart : ℕ → ℕ → Bool
pair_apart j r = apart (pattern_at r) (pattern_at j) || (eqb j 10 && eqb r 8)

rows_apart : (j r : ℕ) → j < row_count → r < j → T (pair_apart j r)
rows_apart j r h l = Every.at (pair_apart j) j (Every.at (λ i. Every.every (pair_apart i) i) row_count tt j h) r l

pub T_true : (b : Bool) → T b → b ≡ true
T_true true t = refl
T_true false t = absurd t

pub row_parse : (j : ℕ) (t : Text) (vs : List ℕ) → j < row_count → values_of (pattern_at j) t ≡ some vs
    → (j ≡ 10 → (us : List ℕ) → values_of (pattern_at 8) t ≡ some us → ⊥)
    → parse t ≡ some (record { row = j; values = vs })
unfolding parse
row_parse j t vs h e f =
    parse_at patterns 0 j t vs h e earlier ∙ ap (λ (x : ℕ). some (record { row = x; values = vs })) (omega arith)
  where
    earlier : (r : ℕ) → r < j → (us : List ℕ) → values_of (pattern_at r) t ≡ some us → ⊥
    earlier r l us q =
        or_cases ⊥ (apart (pattern_at r) (pattern_at j)) (eqb j 10 && eqb r 8)
        (T_true (pair_apart j r) (rows_apart j r h l))
        (λ a. apart_sound (pattern_at r) (pattern_at j) t us vs a q e)
        (λ b. f (eqb-true j 10 (and_left (eqb j 10) (eqb r 8) b)) us
        (subst (λ (x : ℕ). values_of (pattern_at x) t ≡ some us) (eqb-true r 8 (and_right (eqb j 10) (eqb r 8) b)) q))

-- what was read is a line of its row
abbrev pub Reads : List Pattern → ℕ → Text → Item → Type 0
Reads ps k t x = (j : ℕ) × (j < length ps) × (x.row ≡ k + j) × (values_of (get_or ps j []) t ≡ some x.values)

pub parsed : (ps : List Pattern) (k : ℕ) (t : Text) (x : Item) → parse_from k ps t ≡ some x → Reads ps k t x
unfolding parse_from
parsed [] k t x e = never e
parsed (p ∷ ps) k t x e = go (values_of p t) refl (parsed ps (suc k) t x) e
  where
    go : (o : Option (List ℕ)) → values_of p t ≡ o → (parse_from (suc k) ps t ≡ some x → Reads ps (suc k) t x)
        → item_or k o (parse_from (suc k) ps t) ≡ some x → Reads (p ∷ ps) k t x
    go none q f e = let r = f e in (suc r.0, omega arith, omega arith, r.3)
    go (some vs) q f e =
        let here : Reads (p ∷ ps) k t (record { row = k; values = vs }) = (0, omega arith, omega arith, q) in
        subst (λ (y : Item). Reads (p ∷ ps) k t y) (some-injective (record { row = k; values = vs }) x e) here

pub missed : (ps : List Pattern) (k : ℕ) (t : Text) → parse_from k ps t ≡ none → (j : ℕ) (vs : List ℕ)
    → j < length ps → values_of (get_or ps j []) t ≡ some vs → ⊥
unfolding parse_from
missed [] k t e j vs l q = omega arith
missed (p ∷ ps) k t e j vs l q = go (values_of p t) refl (missed ps (suc k) t) e j l q
  where
    go : (o : Option (List ℕ)) → values_of p t ≡ o
        → (parse_from (suc k) ps t ≡ none → (j : ℕ) (vs : List ℕ) → j < length ps
        → values_of (get_or ps j []) t ≡ some vs → ⊥)
        → item_or k o (parse_from (suc k) ps t) ≡ none → (j : ℕ) → j < suc (length ps)
        → values_of (get_or (p ∷ ps) j []) t ≡ some vs → ⊥
    go none r f e zero l q = never (sym r ∙ q)
    go none r f e (suc j) l q = f e j vs (omega arith) q
    go (some us) r f e j l q = never (sym e)

pub delimited_rows : (j : ℕ) → j < row_count → delimited (pattern_at j) ≡ true
delimited_rows j h = T_true (delimited (pattern_at j)) (Every.at (λ i. delimited (pattern_at i)) row_count tt j h)
