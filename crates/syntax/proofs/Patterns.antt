-- `values_of` finds exactly the lines of a pattern whose slots are never followed by a letter or digit.
use mathlib.Core.Bool.{Bool, true, false, true≢false, false≢true, cond, not, ◌&&◌, ◌||◌}
use mathlib.Core.List.{List, [], ◌∷◌, ◌++◌}
use mathlib.Core.Option.{Option, none, some}
use mathlib.Core.Path.{◌≡◌, refl, sym, ◌∙◌, subst}
use Prim.Native.Nat.{ℕ}
use lib.Dec.{eqb}
use borrow.Author.Tests.{eqb-true, eq-eqb, not-true}
use Rattle.units.proofs.Cases.{clash}
use Rattle.text.specs.Text.{Text, is_small, is_digit, is_capital, word, after_word}
use Rattle.syntax.specs.Syntax.{Pattern, slot_value, LineOf, end, literal, slot, starts_with, tail, before}
use Rattle.syntax.specs.Syntax.{values_of}
use Rattle.text.proofs.Words.{begins_word, and_left, and_right, or_right, word_split, word_whole, word_front}
use Rattle.text.proofs.Words.{word_back}

-- no slot is followed by a character that could prolong its word
abbrev pub delimited : Pattern → Bool
delimited [] = true
delimited (c ∷ p) = (not (is_small c) || not (begins_word p)) && delimited p

none_some : {A : Type 0} {a : A} → none ≡ some a → ⊥
none_some e = clash (cc)

-- both parts were there
module _ (P : List ℕ → Type 0) where
  before_elim : (o : Option ℕ) (l : Option (List ℕ)) (vs : List ℕ) → before o l ≡ some vs
      → ((v : ℕ) (us : List ℕ) → o ≡ some v → l ≡ some us → P (v ∷ us)) → P vs
  before_elim none l vs e f = absurd (none_some e)
  before_elim (some v) none vs e f = absurd (none_some e)
  before_elim (some v) (some us) vs e f = subst P (cc) (f v us refl refl)

pub sound : (p : Pattern) (t : Text) (vs : List ℕ) → values_of p t ≡ some vs → LineOf p vs t
unfolding values_of
sound [] [] vs e = subst (λ (us : List ℕ). LineOf [] us []) (cc) end
sound [] (c ∷ t) vs e = absurd (none_some e)
sound (c ∷ p) t vs e = go (is_small c) refl (sound p) e
  where
    at_literal : is_small c ≡ false → ((u : Text) (us : List ℕ) → values_of p u ≡ some us → LineOf p us u)
        → (s : Text) → cond (starts_with c s) (values_of p (tail s)) none ≡ some vs → LineOf (c ∷ p) vs s
    at_literal n f [] e = absurd (none_some e)
    at_literal n f (d ∷ s) e = at (eqb d c) refl e
      where
        at : (b : Bool) → eqb d c ≡ b → cond b (values_of p s) none ≡ some vs → LineOf (c ∷ p) vs (d ∷ s)
        at true q e = subst (λ (x : ℕ). LineOf (c ∷ p) vs (x ∷ s)) (sym (eqb-true d c q)) (literal n (f s vs e))
        at false q e = absurd (none_some e)

    go : (b : Bool) → is_small c ≡ b → ((u : Text) (us : List ℕ) → values_of p u ≡ some us → LineOf p us u)
        → cond b (before (slot_value c (word t)) (values_of p (after_word t)))
        (cond (starts_with c t) (values_of p (tail t)) none) ≡ some vs
        → LineOf (c ∷ p) vs t
    go false n f e = at_literal n f t e
    go true n f e =
        subst (λ (x : Text). LineOf (c ∷ p) vs x) (word_split t)
        (before_elim (λ us. LineOf (c ∷ p) us (word t ++ after_word t)) (slot_value c (word t))
        (values_of p (after_word t)) vs e (λ v us q r. slot (word t) n (word_whole t) q (f (after_word t) us r)))

-- a line begins with a letter or digit only if its pattern does
begins : {p : Pattern} {vs : List ℕ} {t : Text} → LineOf p vs t → begins_word p ≡ false → begins_word t ≡ false
begins end b = refl
begins (literal n l) b = b
begins (slot {s = s} w n h q l) b = absurd (true≢false (sym (or_right (is_digit s || is_capital s) (is_small s) n) ∙ b))

-- the first character of a delimited pattern, and what follows it
module _ (c : ℕ) (p : Pattern) (d : delimited (c ∷ p) ≡ true) where
  delimited_tail : delimited p ≡ true
  delimited_tail = and_right (not (is_small c) || not (begins_word p)) (delimited p) d

  -- a slot's pattern goes on with no letter or digit
  slot_ends : is_small c ≡ true → begins_word p ≡ false
  slot_ends n =
      go (is_small c) n (and_left (not (is_small c) || not (begins_word p)) (delimited p) d)
    where
      go : (s : Bool) → s ≡ true → (not s || not (begins_word p)) ≡ true → begins_word p ≡ false
      go true n e = not-true (begins_word p) e
      go false n e = absurd (false≢true n)

pub complete : {p : Pattern} {vs : List ℕ} {t : Text} → LineOf p vs t → delimited p ≡ true → values_of p t ≡ some vs
unfolding values_of
complete end d = refl
complete (literal {c = c} {p = p} {vs = vs} {t = t} n l) d =
    let r : values_of p t ≡ some vs = complete l (delimited_tail c p d) in
    simp (n, eq-eqb c c refl, r)
complete (slot {s = s} {p = p} {v = v} {vs = vs} {t = t} w n h q l) d =
    let r : values_of p t ≡ some vs = complete l (delimited_tail s p d) in
    let b : begins_word t ≡ false = begins l (slot_ends s p d n) in
    simp (n, word_front w t h b, word_back w t h b, q, r)
