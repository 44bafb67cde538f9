-- Conditions by their two letters, as they are read from a text.
use mathlib.Core.Bool.{Bool, true, false, true≢false, false≢true, cond, ◌&&◌}
use mathlib.Core.List.{List, [], ◌∷◌}
use mathlib.Core.Option.{Option, none, some}
use mathlib.Core.Path.{◌≡◌, refl, ap, ap₂, sym, ◌∙◌}
use Prim.Native.Nat.{ℕ, zero, suc, ◌+◌, ◌*◌, ◌<◌, ◌≤◌}
use native.Mathlib.Omega.{arith}
use lib.Dec.{eqb, ltb}
use lib.ListN.{length, get_or, drop}
use lib.Seq.{get_or-drop}
use borrow.Author.Tests.{eq-eqb, ne_eqb, eqb-true, eqb-false, ltb-true}
use Rattle.text.specs.Text.{Text, is_same_text, in_word, every, word}
use Rattle.text.proofs.Scans.{rest}
use Rattle.text.proofs.Words.{and_left, and_right}
use Rattle.units.proofs.Cases.{clash}
use Rattle.syntax.specs.Syntax.{condition_value, slot_value, place, conditions}
use Rattle.syntax.specs.Slots.{number_as, number_among, letters_value}
use Rattle.syntax.specs.Spots.{Missing, Spotted}
use Rattle.std.specs.Prelude.{Some, None}
use Rattle.syntax.proofs.Digits.{word_further, word_begun}
use Rattle.syntax.proofs.Steps.{missing, spotted_word, byte_inside}

-- what the code's answer says of the definition's
value_some : (o : Option ℕ) (v : ℕ) → number_as o ≡ Some v → o ≡ some v
value_some none v e = clash (cc)
value_some (some u) v e = ap some (cc)

none_none : (o : Option ℕ) → number_as o ≡ None → o ≡ none
none_none none e = refl
none_none (some u) e = clash (cc)

-- a condition's word has two letters, so it is that of their number
abbrev pairs : List Text → Bool
pairs [] = true
pairs ([] ∷ ts) = false
pairs ((c ∷ []) ∷ ts) = false
pairs ((c ∷ d ∷ []) ∷ ts) = ltb c 256 && ltb d 256 && pairs ts
pairs ((c ∷ d ∷ e ∷ t) ∷ ts) = false

same_pair : (a b c d : ℕ) → a < 256 → b < 256 → c < 256 → d < 256
    → (eqb a c && (eqb b d && true)) ≡ eqb (256 * a + b) (256 * c + d)
same_pair a b c d h i j k = go (eqb a c) (eqb b d) refl refl
  where
    go : (x y : Bool) → eqb a c ≡ x → eqb b d ≡ y → (x && (y && true)) ≡ eqb (256 * a + b) (256 * c + d)
    go true true p q = sym (eq-eqb (256 * a + b) (256 * c + d) (omega (arith, eqb-true a c p, eqb-true b d q)))
    go true false p q =
        let e = eqb-true a c p in
        sym (ne_eqb (256 * a + b) (256 * c + d) (λ z. eqb-false b d q (omega arith)))
    go false y p q = sym (ne_eqb (256 * a + b) (256 * c + d) (λ z. eqb-false a c p (omega arith)))

place_pair : (a b k : ℕ) (ts : List Text) → a < 256 → b < 256 → pairs ts ≡ true
    → place k (a ∷ b ∷ []) ts ≡ number_among k (256 * a + b) ts
place_pair a b k [] h i e = refl
place_pair a b k ([] ∷ ts) h i e = absurd (false≢true e)
place_pair a b k ((c ∷ []) ∷ ts) h i e = absurd (false≢true e)
place_pair a b k ((c ∷ d ∷ []) ∷ ts) h i e =
    let bytes = and_left (ltb c 256 && ltb d 256) (pairs ts) e in
    let l : c < 256 = ltb-true c 256 (and_left (ltb c 256) (ltb d 256) bytes) in
    let m : d < 256 = ltb-true d 256 (and_right (ltb c 256) (ltb d 256) bytes) in
    rw (same_pair a b c d h i l m, place_pair a b (suc k) ts h i (and_right (ltb c 256 && ltb d 256) (pairs ts) e))
place_pair a b k ((c ∷ d ∷ f ∷ t) ∷ ts) h i e = absurd (false≢true e)

same_length : (s t : Text) → is_same_text s t ≡ true → length s ≡ length t
same_length [] [] e = refl
same_length [] (d ∷ t) e = absurd (false≢true e)
same_length (c ∷ s) [] e = absurd (false≢true e)
same_length (c ∷ s) (d ∷ t) e = ap suc (same_length s t (and_right (eqb c d) (is_same_text s t) e))

place_long : (w : Text) (k : ℕ) (ts : List Text) → (length w ≡ 2 → ⊥) → pairs ts ≡ true → place k w ts ≡ none
place_long w k [] n e = refl
place_long w k ([] ∷ ts) n e = absurd (false≢true e)
place_long w k ((c ∷ []) ∷ ts) n e = absurd (false≢true e)
place_long w k ((c ∷ d ∷ []) ∷ ts) n e =
    go (is_same_text w (c ∷ d ∷ [])) refl (place_long w (suc k) ts n (and_right (ltb c 256 && ltb d 256) (pairs ts) e))
  where
    go : (b : Bool) → is_same_text w (c ∷ d ∷ []) ≡ b → place (suc k) w ts ≡ none
        → cond b (some k) (place (suc k) w ts) ≡ none
    go true q r = absurd (n (same_length w (c ∷ d ∷ []) q))
    go false q r = r
place_long w k ((c ∷ d ∷ f ∷ t) ∷ ts) n e = absurd (false≢true e)

condition_is : (t : Text) (a b : ℕ) → length t ≡ 2 → get_or t 0 0 ≡ a → get_or t 1 0 ≡ b → a < 256 → b < 256
    → letters_value (a * 256 + b) ≡ condition_value t
unfolding condition_value letters_value
condition_is [] a b l e f h i = absurd (omega arith)
condition_is (c ∷ []) a b l e f h i = absurd (omega arith)
condition_is (c ∷ d ∷ []) a b l e f h i =
    let m : a * 256 + b ≡ 256 * a + b = omega arith in
    rw (e, f, m) (sym (place_pair a b 0 conditions h i refl))
condition_is (c ∷ d ∷ g ∷ t) a b l e f h i = absurd (omega arith)

-- a word of another length is none
condition_long : (w : Text) → (length w ≡ 2 → ⊥) → condition_value w ≡ none
unfolding condition_value
condition_long w n = place_long w 0 conditions n refl

-- the letters of conditions make up words
abbrev words : List Text → Bool
words [] = true
words (t ∷ ts) = every in_word t && words ts

same_words : (w t : Text) → is_same_text w t ≡ true → every in_word t ≡ true → every in_word w ≡ true
same_words [] [] e h = refl
same_words [] (d ∷ t) e h = absurd (false≢true e)
same_words (c ∷ w) [] e h = absurd (false≢true e)
same_words (c ∷ w) (d ∷ t) e h =
    let q : c ≡ d = eqb-true c d (and_left (eqb c d) (is_same_text w t) e) in
    let i : in_word c ≡ true = ap in_word q ∙ and_left (in_word d) (every in_word t) h in
    simp (i, same_words w t (and_right (eqb c d) (is_same_text w t) e) (and_right (in_word d) (every in_word t) h))

place_words : (k v : ℕ) (w : Text) (ts : List Text) → words ts ≡ true → place k w ts ≡ some v → every in_word w ≡ true
place_words k v w [] h e = clash (cc)
place_words k v w (t ∷ ts) h e =
    go (is_same_text w t) refl e (place_words (suc k) v w ts (and_right (every in_word t) (words ts) h))
  where
    go : (b : Bool) → is_same_text w t ≡ b → cond b (some k) (place (suc k) w ts) ≡ some v
        → (place (suc k) w ts ≡ some v → every in_word w ≡ true) → every in_word w ≡ true
    go true q e f = same_words w t q (and_left (every in_word t) (words ts) h)
    go false q e f = f e

module _ (t : Text) (at x y : ℕ) (h : at ≤ length t) (p : x ≡ get_or t at 0) (q : y ≡ get_or t (at + 1) 0) (b : x < 256)
    (d : y < 256) where
  two_letters : (v : ℕ) → letters_value (x * 256 + y) ≡ some v → condition_value (x ∷ y ∷ []) ≡ some v
  two_letters v e = sym (condition_is (x ∷ y ∷ []) x y refl refl refl b d) ∙ e

  both_words : (v : ℕ) → letters_value (x * 256 + y) ≡ some v → every in_word (x ∷ y ∷ []) ≡ true
  unfolding condition_value
  both_words v e = place_words 0 v (x ∷ y ∷ []) conditions refl (two_letters v e)

  -- a letter or digit lies in the text
  word_inside : (i c : ℕ) → c ≡ get_or t i 0 → in_word c ≡ true → i < length t
  word_inside i zero r w = absurd (true≢false (sym w))
  word_inside i (suc c) r w = byte_inside t i (suc c) (omega arith) (sym r)

  pub condition_read : (v : ℕ) → Some v ≡ number_as (letters_value (x * 256 + y)) → Spotted 99 t at v (at + 2)
  unfolding slot_value
  condition_read v e =
      let s : letters_value (x * 256 + y) ≡ some v = value_some (letters_value (x * 256 + y)) v (sym e) in
      let w = both_words v s in
      let i : in_word x ≡ true = and_left (in_word x) (in_word y && true) w in
      let j : in_word y ≡ true = and_left (in_word y) true (and_right (in_word x) (in_word y && true) w) in
      let n : at + 1 + 1 ≡ at + 2 = omega arith in
      spotted_word 99 refl t at v h (x ∷ y ∷ []) (drop (at + 2) t) (at + 2)
      (rest t at (word_inside at x p i)
      ∙ ap₂ (λ (c : ℕ) (u : Text). c ∷ u) (sym p) (rest t (at + 1) (word_inside (at + 1) y q j)
      ∙ ap₂ (λ (c k : ℕ). c ∷ drop k t) (sym q) n))
      (omega arith) (omega arith) w (two_letters v s)
      (λ r. ap condition_value (word_further (x ∷ y ∷ []) (drop (at + 2) t) w)
      ∙ word_begun (λ (u : Text). condition_value (x ∷ y ∷ u) ≡ none) (drop (at + 2) t) r
      (λ c u f g. condition_long (x ∷ y ∷ c ∷ word u) (λ z. omega arith)))

  -- the word at the place, by its letters
  no_word : (u : Text) → letters_value (get_or u 0 0 * 256 + get_or u 1 0) ≡ none → get_or u 0 0 < 256
      → get_or u 1 0 < 256
      → condition_value (word u) ≡ none
  unfolding word
  no_word [] e m n = condition_long [] (λ z. omega arith)
  no_word (c ∷ []) e m n = go (in_word c)
    where
      go : (k : Bool) → condition_value (cond k (c ∷ []) []) ≡ none
      go true = condition_long (c ∷ []) (λ z. omega arith)
      go false = condition_long [] (λ z. omega arith)
  no_word (c ∷ f ∷ u) e m n = go (in_word c) (in_word f) (word u)
    where
      go : (k l : Bool) (w : Text) → condition_value (cond k (c ∷ cond l (f ∷ w) []) []) ≡ none
      go false l w = condition_long [] (λ z. omega arith)
      go true false w = condition_long (c ∷ []) (λ z. omega arith)
      go true true [] = sym (condition_is (c ∷ f ∷ []) c f refl refl refl m n) ∙ e
      go true true (g ∷ w) = condition_long (c ∷ f ∷ g ∷ w) (λ z. omega arith)

  pub condition_missing : None ≡ number_as (letters_value (x * 256 + y)) → Missing 99 t at
  unfolding slot_value
  condition_missing e =
      let first : get_or (drop at t) 0 0 ≡ x = get_or-drop at t 0 0 ∙ ap (λ (i : ℕ). get_or t i 0) (omega arith)
      ∙ sym p in
      let second : get_or (drop at t) 1 0 ≡ y = get_or-drop at t 1 0 ∙ sym q in
      missing 99 refl t at
      (no_word (drop at t)
      (rw (first, second) (none_none (letters_value (x * 256 + y)) (sym e)))
      (omega (arith, first)) (omega (arith, second)))
