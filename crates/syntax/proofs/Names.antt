-- Names that are read without a look at what follows them.
use mathlib.Core.Bool.{Bool, true, false, true≢false, cond, ◌&&◌, ◌||◌}
use mathlib.Core.List.{[], ◌∷◌, ◌++◌, append_assoc}
use mathlib.Core.Logic.{⊎_elim}
use mathlib.Core.Option.{none, some}
use mathlib.Core.Path.{◌≡◌, refl, ap, sym, ◌∙◌, subst}
use Prim.Native.Nat.{ℕ, zero, suc, ◌+◌, ◌-◌, ◌*◌, ◌^◌, ◌<◌, ◌≤◌, min}
use native.Mathlib.Omega.{arith}
use lib.Dec.{leb}
use lib.ListN.{length, get_or, drop, drop_of_length-le, length-append, get_or-eq_default}
use borrow.Author.Tests.{le-leb, lt-leb, leb-true}
use Rattle.units.proofs.Cases.{lt_or_ge}
use Rattle.text.specs.Text.{Text, is_digit, is_capital, is_small, in_word, in_name, every, word, digits_after}
use Rattle.text.specs.Text.{is_name, name_of}
use Rattle.text.proofs.Naming.{byte_fits, byte_more}
use Rattle.text.proofs.Scans.{rest}
use Rattle.text.proofs.Words.{and_left, every_append, every_weak}
use Rattle.syntax.specs.Syntax.{slot_value, name_value, given}
use Rattle.syntax.specs.Spots.{Missing, Spotted}
use Rattle.syntax.proofs.Steps.{missing, spotted_word, byte_inside, first_byte}
use Rattle.syntax.proofs.Digits.{word_further, word_begun, every_breaks, digits_snoc}

name_in_word : (c : ℕ) → in_name c ≡ true → in_word c ≡ true
name_in_word c e = go (is_digit c) (is_capital c) (is_small c) e
  where
    go : (d k s : Bool) → (s || d) ≡ true → (d || k || s) ≡ true
    go true k s e = refl
    go false true s e = refl
    go false false true e = refl
    go false false false e = e

-- a name so far: its first letter, and what was read behind it
pub record Naming (t : Text) (at value i : ℕ) : Type 0 where
  pub read : Text
  pub split : drop (at + 1) t ≡ read ++ drop i t
  pub place : i ≡ at + (1 + length read)
  pub inside : i ≤ length t
  pub names : every in_name read ≡ true
  pub amount : value ≡ digits_after 256 0 (get_or t at 0) read
  pub small : value < 256 ^ (1 + length read)

-- a small letter lies in the text
pub small_inside : (t : Text) (at : ℕ) → is_small (get_or t at 0) ≡ true → at < length t
small_inside t at e =
    let c = get_or t at 0 in
    byte_inside t at c (omega (arith, leb-true 97 c (and_left (leb 97 c) (leb c 122) e))) refl

pub naming_start : (t : Text) (at c : ℕ) → c ≡ get_or t at 0 → is_small (get_or t at 0) ≡ true → c < 256
    → Naming t at c (at + 1)
unfolding digits_after
naming_start t at c q e b = record {
  read = [];
  split = refl;
  place = omega arith;
  inside = omega (arith, small_inside t at e);
  names = refl;
  amount = q;
  small = b;
}

-- a letter or digit lies in the text
name_inside : (t : Text) (i : ℕ) → in_name (get_or t i 0) ≡ true → i < length t
name_inside t i e = go (get_or t i 0) refl e
  where
    go : (c : ℕ) → get_or t i 0 ≡ c → in_name c ≡ true → i < length t
    go zero q e = absurd (true≢false (sym e))
    go (suc c) q e = byte_inside t i (suc c) (omega arith) q

pub naming_more : (t : Text) (at value i d : ℕ) → Naming t at value i → d ≡ get_or t i 0 → in_name (get_or t i 0) ≡ true
    → d < 256 → Naming t at (value * 256 + d) (i + 1)
naming_more t at value i d s q e b =
    let c = get_or t i 0 in
    let h : i < length t = name_inside t i e in
    let long = length-append s.read (c ∷ []) in
    let more = digits_snoc 256 0 (get_or t at 0) s.read c in
    record {
      read = s.read ++ (c ∷ []);
      split =
          s.split ∙ ap (λ (u : Text). s.read ++ u) (rest t i h)
          ∙ sym (append_assoc s.read (c ∷ []) (drop (i + 1) t));
      place = omega (arith, s.place, long);
      inside = omega arith;
      names = every_append in_name s.read (c ∷ []) s.names (simp e);
      amount = omega (arith, q, s.amount, more);
      small =
          subst (λ (n : ℕ). value * 256 + d < 256 ^ n) (omega (arith, long))
          (byte_more (1 + length s.read) value d s.small b);
    }

-- one more fits a word of the machine
pub naming_fits : (t : Text) (at value i d : ℕ) → Naming t at value i → i < at + 8 → d < 256
    → value * 256 + d < 18446744073709551616
naming_fits t at value i d s l b = byte_fits (1 + length s.read) value d (omega (arith, s.place)) s.small b

-- no name
name_missing : (t : Text) (at : ℕ) → is_small (get_or t at 0) ≡ false → slot_value 108 (word (drop at t)) ≡ none
unfolding slot_value name_value is_name word
name_missing t at e = ⊎_elim inside over (lt_or_ge at (length t))
  where
    at_first : (c : ℕ) (w : Text) → is_small c ≡ false → (b : Bool) → slot_value 108 (cond b (c ∷ w) []) ≡ none
    at_first c w e true = simp e
    at_first c w e false = refl

    inside : at < length t → slot_value 108 (word (drop at t)) ≡ none
    inside h = rw (rest t at h) (at_first (get_or t at 0) (word (drop (at + 1) t)) e (in_word (get_or t at 0)))

    over : length t ≤ at → slot_value 108 (word (drop at t)) ≡ none
    over h = rw (drop_of_length-le t h) refl

pub name_none : (t : Text) (at : ℕ) → is_small (get_or t at 0) ≡ false → Missing 108 t at
name_none t at e = missing 108 refl t at (name_missing t at e)

-- a letter and up to seven letters or digits
module _ (c : ℕ) (w : Text) (s : is_small c ≡ true) where
  name_is : every in_name w ≡ true → length w ≤ 7 → slot_value 108 (c ∷ w) ≡ some (digits_after 256 0 c w)
  unfolding slot_value name_value is_name name_of digits_after
  name_is h l =
      let m : 256 * 0 + (c - 0) ≡ c = omega arith in
      simp (s, h, le-leb (length w) 7 l) (ap (λ (x : ℕ). some (digits_after 256 0 x w)) m)

  name_breaks : (x : ℕ) (y : Text) → in_name x ≡ false → slot_value 108 (c ∷ (w ++ (x ∷ y))) ≡ none
  unfolding slot_value name_value is_name
  name_breaks x y f = simp (s, every_breaks in_name w x y f)

  name_long : (x : ℕ) (y : Text) → length w ≡ 7 → slot_value 108 (c ∷ (w ++ (x ∷ y))) ≡ none
  unfolding slot_value name_value is_name
  name_long x y l =
      let n : leb (length (w ++ (x ∷ y))) 7 ≡ false =
      lt-leb (length (w ++ (x ∷ y))) 7 (omega (arith, length-append w (x ∷ y))) in
      simp (s, n) (go (every in_name (w ++ (x ∷ y))))
    where
      go : (b : Bool) → given (b && false) (name_of (c ∷ (w ++ (x ∷ y)))) ≡ none
      go true = refl
      go false = refl

module _ (t : Text) (at value i : ℕ) (h : at ≤ length t) (e : is_small (get_or t at 0) ≡ true) (s : Naming t at value i)
    (l : i ≤ at + 8) where
  name_by : ((x : ℕ) (y : Text) → drop i t ≡ x ∷ y → slot_value 108 (get_or t at 0 ∷ (s.read ++ (x ∷ word y))) ≡ none)
      → Spotted 108 t at value i
  name_by f =
      let c = get_or t at 0 in
      let whole : every in_word (c ∷ s.read) ≡ true =
      simp (name_in_word c (small_name c e)) (every_weak in_name in_word name_in_word s.read s.names) in
      spotted_word 108 refl t at value h (c ∷ s.read) (drop i t) i
      (rest t at (small_inside t at e) ∙ ap (λ (u : Text). c ∷ u) s.split) (omega arith) (omega (arith, s.place))
      whole (name_is c s.read e s.names (omega (arith, s.place)) ∙ ap some (sym s.amount))
      (λ b. ap (slot_value 108) (word_further (c ∷ s.read) (drop i t) whole)
      ∙ word_begun (λ (w : Text). slot_value 108 (c ∷ (s.read ++ w)) ≡ none) (drop i t) b (λ x y r q. f x y r))
    where
      small_name : (c : ℕ) → is_small c ≡ true → in_name c ≡ true
      small_name c e = simp e

  pub name_ends : in_name (get_or t i 0) ≡ false → Spotted 108 t at value i
  name_ends n =
      name_by (λ x y r. name_breaks (get_or t at 0) s.read e x (word y)
      (ap in_name (sym (first_byte t i x y r)) ∙ n))

  full : i ≡ at + 8 → Spotted 108 t at value i
  full q = name_by (λ x y r. name_long (get_or t at 0) s.read e x (word y) (omega (arith, s.place)))

  -- eight characters, or all that there are
  pub name_full : i ≡ min (at + 8) (length t) → Spotted 108 t at value i
  name_full q =
      ⊎_elim (λ z. full (omega arith))
      (λ z. name_ends (ap in_name (get_or-eq_default t 0 {n = i} (omega arith)))) (lt_or_ge (at + 8) (length t))
