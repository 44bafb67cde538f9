-- One step of a pattern over a text: a character, and a word that is read without a look at what follows it.
use mathlib.Core.Bool.{Bool, true, false, true≢false, cond, ◌&&◌, ◌||◌}
use mathlib.Core.List.{[], ◌∷◌, ◌++◌}
use mathlib.Core.Logic.{⊎_elim}
use mathlib.Core.Option.{none, some}
use mathlib.Core.Path.{◌≡◌, refl, ap, sym, ◌∙◌}
use Prim.Native.Nat.{ℕ, ◌+◌, ◌<◌, ◌≤◌}
use native.Mathlib.Omega.{arith}
use lib.Dec.{eqb}
use lib.ListN.{length, get_or, drop, drop_of_length-le, length-drop, length-append, get_or-eq_default}
use lib.Seq.{drop_at, drop-drop, get_or-drop}
use borrow.Author.Tests.{eqb-true, eqb-false, eq-eqb, ne_eqb}
use Rattle.units.proofs.Cases.{lt_or_ge}
use Rattle.text.specs.Text.{Text, is_small, is_digit, is_capital, in_word, every, word, feed}
use Rattle.text.proofs.Scans.{rest}
use Rattle.text.proofs.Words.{begins_word, and_left, and_right, or_right, word_front, word_back}
use Rattle.syntax.specs.Syntax.{Pattern, slot_value, starts_with}
use Rattle.syntax.specs.Parser.{misfit, fits, fit_before, fit_at, line_fit, line_end, behind}
use Rattle.syntax.specs.Spots.{Missing, Spotted}

-- a byte that is none of 0 lies in the text
pub byte_inside : (t : Text) (i c : ℕ) → 0 < c → get_or t i 0 ≡ c → i < length t
byte_inside t i c z e =
    ⊎_elim (λ h. h) (λ h. absurd (omega (arith, get_or-eq_default t 0 {n = i} h))) (lt_or_ge i (length t))

-- the byte that what is left of a text begins with
pub first_byte : (t : Text) (i x : ℕ) (u : Text) → drop i t ≡ x ∷ u → get_or t i 0 ≡ x
first_byte t i x u e =
    ap (λ (n : ℕ). get_or t n 0) (omega arith) ∙ sym (get_or-drop i t 0 0) ∙ ap (λ (s : Text). get_or s 0 0) e

-- a character that stands for itself
module _ (c : ℕ) (p : Pattern) (t : Text) (i : ℕ) (s : is_small c ≡ false) where
  pub byte_goes : 0 < c → get_or t i 0 ≡ c → fit_at (c ∷ p) i (drop i t) ≡ fit_at p (i + 1) (drop (i + 1) t)
  unfolding fit_at
  byte_goes z e = rw (rest t i (byte_inside t i c z e), s, eq-eqb (get_or t i 0) c e)

  pub byte_stops : (get_or t i 0 ≡ c → ⊥) → fit_at (c ∷ p) i (drop i t) ≡ misfit
  unfolding fit_at
  byte_stops n = ⊎_elim inside over (lt_or_ge i (length t))
    where
      inside : i < length t → fit_at (c ∷ p) i (drop i t) ≡ misfit
      inside h = rw (rest t i h, s, ne_eqb (get_or t i 0) c n)

      over : length t ≤ i → fit_at (c ∷ p) i (drop i t) ≡ misfit
      over h = rw (drop_of_length-le t h, s)

-- a character that is no letter or digit is no slot
no_word_literal : (c : ℕ) → in_word c ≡ false → is_small c ≡ false
no_word_literal c e = go (is_small c) refl
  where
    go : (b : Bool) → is_small c ≡ b → b ≡ false
    go false q = refl
    go true q = absurd (true≢false (sym (or_right (is_digit c || is_capital c) (is_small c) q) ∙ e))

-- and doesn't stand where a letter or digit does
word_apart : (c : ℕ) (p : Pattern) (i : ℕ) (u : Text) → in_word c ≡ false → begins_word u ≡ true
    → fit_at (c ∷ p) i u ≡ misfit
unfolding fit_at
word_apart c p i [] n b = absurd (true≢false (sym b))
word_apart c p i (d ∷ u) n b = simp (no_word_literal c n, ne_eqb d c (λ e. true≢false (sym b ∙ ap in_word e ∙ n)))

-- the front of a slot's word, with its value: what follows may prolong it if the whole word then has no value
module _ (k v : ℕ) (s : is_small k ≡ true) (w u : Text) (h : every in_word w ≡ true) (e : slot_value k w ≡ some v)
    (f : begins_word u ≡ true → slot_value k (word (w ++ u)) ≡ none) where
  slot_short : (c : ℕ) (p : Pattern) (i : ℕ) → begins_word u ≡ false
      → fit_at (k ∷ c ∷ p) i (w ++ u) ≡ fit_before (some v) (fit_at (c ∷ p) (i + length w) u)
  unfolding fit_at
  slot_short c p i b = simp s (rw (word_front w u h b, word_back w u h b, e) refl)

  slot_long : (c : ℕ) (p : Pattern) (i : ℕ) → in_word c ≡ false → begins_word u ≡ true
      → fit_at (k ∷ c ∷ p) i (w ++ u) ≡ fit_before (some v) (fit_at (c ∷ p) (i + length w) u)
  unfolding fit_at
  slot_long c p i n b = simp s (rw (f b, word_apart c p (i + length w) u n b) refl)

  slot_reads : (c : ℕ) (p : Pattern) (i : ℕ) → in_word c ≡ false
      → fit_at (k ∷ c ∷ p) i (w ++ u) ≡ fit_before (some v) (fit_at (c ∷ p) (i + length w) u)
  slot_reads c p i n = go (begins_word u) refl
    where
      go : (b : Bool) → begins_word u ≡ b
          → fit_at (k ∷ c ∷ p) i (w ++ u) ≡ fit_before (some v) (fit_at (c ∷ p) (i + length w) u)
      go false b = slot_short c p i b
      go true b = slot_long c p i n b

pub missing : (k : ℕ) → is_small k ≡ true → (t : Text) (at : ℕ) → slot_value k (word (drop at t)) ≡ none
    → Missing k t at
unfolding fit_at
missing k s t at e p = simp s (rw e refl)

module _ (k : ℕ) (s : is_small k ≡ true) (t : Text) (at value : ℕ) (i : at ≤ length t) where
  pub spotted_word : (w u : Text) (stop : ℕ) → drop at t ≡ w ++ u → 0 < length w → stop ≡ at + length w
      → every in_word w ≡ true → slot_value k w ≡ some value
      → (begins_word u ≡ true → slot_value k (word (w ++ u)) ≡ none) → Spotted k t at value stop
  spotted_word w u stop d z l h e f =
      let left : drop stop t ≡ u =
      ap (λ (n : ℕ). drop n t) l ∙ sym (drop-drop (length w) at t) ∙ ap (drop (length w)) d
      ∙ drop_at w u (length w) refl in
      let long : length t ≡ at + (length w + length u) =
      omega (arith, length-drop at t, ap length d, length-append w u) in
      record {
        behind = omega arith;
        inside = omega arith;
        reads = λ c p n.
            ap (fit_at (k ∷ c ∷ p) at) d ∙ slot_reads k value s w u h e f c p at n
            ∙ rw (left, l) refl;
      }

-- two characters
module _ (c d : ℕ) (p : Pattern) (t : Text) (i : ℕ) (s : is_small c ≡ false) (r : is_small d ≡ false) where
  pub two_goes : 0 < c → 0 < d → (eqb (get_or t i 0) c && eqb (get_or t (i + 1) 0) d) ≡ true
      → fit_at (c ∷ d ∷ p) i (drop i t) ≡ fit_at p (i + 2) (drop (i + 2) t)
  two_goes y z e =
      let n : i + 1 + 1 ≡ i + 2 = omega arith in
      byte_goes c (d ∷ p) t i s y (eqb-true (get_or t i 0) c (and_left _ (eqb (get_or t (i + 1) 0) d) e))
      ∙ byte_goes d p t (i + 1) r z (eqb-true (get_or t (i + 1) 0) d (and_right (eqb (get_or t i 0) c) _ e))
      ∙ ap (λ (k : ℕ). fit_at p k (drop k t)) n

  pub two_stops : 0 < c → (eqb (get_or t i 0) c && eqb (get_or t (i + 1) 0) d) ≡ false
      → fit_at (c ∷ d ∷ p) i (drop i t) ≡ misfit
  two_stops y e = go (eqb (get_or t i 0) c) refl e
    where
      go : (b : Bool) → eqb (get_or t i 0) c ≡ b → (b && eqb (get_or t (i + 1) 0) d) ≡ false
          → fit_at (c ∷ d ∷ p) i (drop i t) ≡ misfit
      go false q e = byte_stops c (d ∷ p) t i s (eqb-false (get_or t i 0) c q)
      go true q e =
          byte_goes c (d ∷ p) t i s y (eqb-true (get_or t i 0) c q)
          ∙ byte_stops d p t (i + 1) r (eqb-false (get_or t (i + 1) 0) d e)

pub two_inside : (c d : ℕ) (t : Text) (i : ℕ) → 0 < d → (eqb (get_or t i 0) c && eqb (get_or t (i + 1) 0) d) ≡ true
    → i + 2 ≤ length t
two_inside c d t i z e =
    omega (arith, byte_inside t (i + 1) d z (eqb-true (get_or t (i + 1) 0) d (and_right (eqb (get_or t i 0) c) _ e)))

-- the end of a line behind its values
module _ (row : ℕ) (t : Text) (i : ℕ) where
  pub end_one : (a : ℕ) → line_end row a 0 0 (fit_at (feed ∷ []) i t) ≡ line_fit row (behind a (fit_at (feed ∷ []) i t))
  unfolding fit_at
  end_one a = go (starts_with feed t)
    where
      go : (b : Bool)
          → line_end row a 0 0 (cond b (fits [] (i + 1)) misfit)
          ≡ line_fit row (behind a (cond b (fits [] (i + 1)) misfit))
      go true = refl
      go false = refl

  pub end_two : (a b : ℕ)
      → line_end row a b 0 (fit_at (feed ∷ []) i t) ≡ line_fit row (behind a (behind b (fit_at (feed ∷ []) i t)))
  unfolding fit_at
  end_two a b = go (starts_with feed t)
    where
      go : (x : Bool)
          → line_end row a b 0 (cond x (fits [] (i + 1)) misfit)
          ≡ line_fit row (behind a (behind b (cond x (fits [] (i + 1)) misfit)))
      go true = refl
      go false = refl

  pub end_three : (a b c : ℕ)
      → line_end row a b c (fit_at (feed ∷ []) i t)
      ≡ line_fit row (behind a (behind b (behind c (fit_at (feed ∷ []) i t))))
  unfolding fit_at
  end_three a b c = go (starts_with feed t)
    where
      go : (x : Bool)
          → line_end row a b c (cond x (fits [] (i + 1)) misfit)
          ≡ line_fit row (behind a (behind b (behind c (cond x (fits [] (i + 1)) misfit))))
      go true = refl
      go false = refl
