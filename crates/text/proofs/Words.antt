-- A word and what follows it make up the text; a word that is put before a text that doesn't prolong it is found
-- again.
use mathlib.Core.Bool.{Bool, true, false, cond, ◌&&◌, ◌||◌, and-eq-true_iff}
use mathlib.Core.List.{[], ◌∷◌, ◌++◌}
use mathlib.Core.Path.{◌≡◌, refl, ap, ap₂}
use Prim.Native.Nat.{ℕ}
use mir.Facts.{and_yes}
use lib.Dec.{T, eqb, eqb→eq}
use Rattle.text.specs.Text.{Text, in_word, every, word, after_word, is_same_text}

-- a text begins with a letter or digit
abbrev pub begins_word : Text → Bool
begins_word [] = false
begins_word (c ∷ t) = in_word c

pub and_left : (a b : Bool) → (a && b) ≡ true → a ≡ true
and_left a b e = ((and-eq-true_iff a b).0 e).0

pub and_right : (a b : Bool) → (a && b) ≡ true → b ≡ true
and_right a b e = ((and-eq-true_iff a b).0 e).1

pub or_right : (a b : Bool) → b ≡ true → (a || b) ≡ true
or_right true b e = refl
or_right false b e = e

pub every_append : (p : ℕ → Bool) (s t : Text) → every p s ≡ true → every p t ≡ true → every p (s ++ t) ≡ true
every_append p [] t g h = h
every_append p (c ∷ s) t g h =
    simp (and_left (p c) (every p s) g, every_append p s t (and_right (p c) (every p s) g) h)

-- what holds of each character by one test holds by a weaker one
pub every_weak : (p q : ℕ → Bool) → ((c : ℕ) → p c ≡ true → q c ≡ true) → (t : Text) → every p t ≡ true
    → every q t ≡ true
every_weak p q f [] h = refl
every_weak p q f (c ∷ t) h =
    simp (f c (and_left (p c) (every p t) h), every_weak p q f t (and_right (p c) (every p t) h))

pub word_split : (t : Text) → word t ++ after_word t ≡ t
unfolding word after_word
word_split [] = refl
word_split (c ∷ t) = go (in_word c) (word_split t)
  where
    go : (b : Bool) → word t ++ after_word t ≡ t → cond b (c ∷ word t) [] ++ cond b (after_word t) (c ∷ t) ≡ c ∷ t
    go true e = ap (λ (x : Text). c ∷ x) e
    go false e = refl

pub word_whole : (t : Text) → every in_word (word t) ≡ true
unfolding word
word_whole [] = refl
word_whole (c ∷ t) = go (in_word c) refl (word_whole t)
  where
    go : (b : Bool) → in_word c ≡ b → every in_word (word t) ≡ true → every in_word (cond b (c ∷ word t) []) ≡ true
    go true e h = simp (e, h)
    go false e h = refl

pub word_front : (w t : Text) → every in_word w ≡ true → begins_word t ≡ false → word (w ++ t) ≡ w
unfolding word
word_front [] [] h b = refl
word_front [] (c ∷ t) h b = simp b
word_front (c ∷ w) t h b =
    let e : in_word c ≡ true = and_left (in_word c) (every in_word w) h in
    let r : word (w ++ t) ≡ w = word_front w t (and_right (in_word c) (every in_word w) h) b in
    simp (e, r)

pub word_back : (w t : Text) → every in_word w ≡ true → begins_word t ≡ false → after_word (w ++ t) ≡ t
unfolding after_word
word_back [] [] h b = refl
word_back [] (c ∷ t) h b = simp b
word_back (c ∷ w) t h b =
    let e : in_word c ≡ true = and_left (in_word c) (every in_word w) h in
    let r : after_word (w ++ t) ≡ t = word_back w t (and_right (in_word c) (every in_word w) h) b in
    simp (e, r)

-- texts that a test finds to be the same
pub same_text : (s t : Text) → T (is_same_text s t) → s ≡ t
same_text [] [] e = refl
same_text [] (d ∷ t) e = absurd e
same_text (c ∷ s) [] e = absurd e
same_text (c ∷ s) (d ∷ t) e =
    let both = and_yes (eqb c d) (is_same_text s t) e in
    ap₂ (λ (x : ℕ) (u : Text). x ∷ u) (eqb→eq c d both.0) (same_text s t both.1)
