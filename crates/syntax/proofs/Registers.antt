-- Registers that are read without a look at what follows them: no number below 16 goes on behind what is read.
use mathlib.Core.Bool.{Bool, true, false, false≢true, cond, not, ◌&&◌, ◌||◌}
use mathlib.Core.List.{[], ◌∷◌, ◌++◌}
use mathlib.Core.Logic.{⊎_elim}
use mathlib.Core.Option.{Option, none, some}
use mathlib.Core.Path.{◌≡◌, refl, ap, ap₂, sym, ◌∙◌, subst}
use Prim.Native.Nat.{ℕ, ◌+◌, ◌-◌, ◌*◌, ◌<◌, ◌≤◌, min}
use native.Mathlib.Omega.{arith}
use lib.Dec.{eqb, ltb}
use lib.ListN.{length, get_or, drop, drop_of_length-le}
use borrow.Author.Tests.{eqb-false, ne_eqb, lt-ltb, le-ltb, ltb-false, le-leb}
use Rattle.units.proofs.Cases.{clash, lt_or_ge}
use Rattle.text.specs.Text.{Text, is_digit, in_word, every, word, digits_after, is_number, number_of}
use Rattle.text.proofs.Scans.{rest}
use Rattle.text.proofs.Words.{begins_word, and_left, and_right, every_weak, word_front}
use Rattle.syntax.specs.Syntax.{slot_value, number_value, register_value, below, given, too_large}
use Rattle.syntax.specs.Spots.{Register, NoRegister}
use Rattle.syntax.proofs.Steps.{missing, spotted_word, byte_inside, first_byte}
use Rattle.syntax.proofs.Digits.{word_further, word_begun, digit_in_word, digit_low, digit_high, number_missing}

-- a number from 16 on is no register's
digits_least : (n : ℕ) (t : Text) → n ≤ digits_after 10 48 n t
unfolding digits_after
digits_least n [] = omega arith
digits_least n (c ∷ t) = omega (arith, digits_least (10 * n + (c - 48)) t)

large_none : (w : Text) → (is_number w ≡ true → 16 ≤ number_of w) → below 16 (number_value w) ≡ none
unfolding number_value
large_none w f = go (is_number w) refl
  where
    go : (b : Bool) → is_number w ≡ b → below 16 (given b (min (number_of w) too_large)) ≡ none
    go true e = simp (le-ltb (min (number_of w) too_large) 16 (omega (arith, f e)))
    go false e = refl

below_less : (o : Option ℕ) → below 16 o ≡ none → below 8 o ≡ none
below_less none e = refl
below_less (some v) e = go (ltb v 16) refl e
  where
    go : (b : Bool) → ltb v 16 ≡ b → given b v ≡ none → given (ltb v 8) v ≡ none
    go true q e = clash (cc)
    go false q e = simp (le-ltb v 8 (omega (arith, ltb-false v 16 q)))

abbrev begins_with : ℕ → Text → Type 0
begins_with x u = (y : Text) × (u ≡ x ∷ y)

-- digits behind an R, of which a number below 16 is made, and none if they go on
module _ (t ds u : Text) (at v stop : ℕ) (h : at ≤ length t) (d : drop at t ≡ 82 ∷ (ds ++ u))
    (l : stop ≡ at + (1 + length ds)) (g : every is_digit ds ≡ true) (e : number_value ds ≡ some v) (m : v < 16)
    (f : (x : ℕ) (y : Text) → begins_with x u → below 16 (number_value (ds ++ (x ∷ y))) ≡ none) where
  whole : every in_word (82 ∷ ds) ≡ true
  whole = every_weak is_digit in_word digit_in_word ds g

  further : begins_word u ≡ true → below 16 (number_value (ds ++ word u)) ≡ none
  further b = word_begun (λ (w : Text). below 16 (number_value (ds ++ w)) ≡ none) u b (λ x y r i. f x (word y) (y, r))

  value_any : slot_value 104 (82 ∷ ds) ≡ some v
  unfolding slot_value register_value
  value_any = rw e (simp (lt-ltb v 16 m))

  value_low : v < 8 → slot_value 114 (82 ∷ ds) ≡ some v
  unfolding slot_value register_value
  value_low k = rw e (simp (lt-ltb v 8 k))

  stops_any : begins_word u ≡ true → slot_value 104 (word ((82 ∷ ds) ++ u)) ≡ none
  unfolding slot_value register_value
  stops_any b = rw (word_further (82 ∷ ds) u whole) (further b)

  stops_low : begins_word u ≡ true → slot_value 114 (word ((82 ∷ ds) ++ u)) ≡ none
  unfolding slot_value register_value
  stops_low b = rw (word_further (82 ∷ ds) u whole) (below_less (number_value (ds ++ word u)) (further b))

  none_high : 8 ≤ v → slot_value 114 (word ((82 ∷ ds) ++ u)) ≡ none
  unfolding slot_value register_value
  none_high k = go (begins_word u) refl
    where
      go : (b : Bool) → begins_word u ≡ b → slot_value 114 (word ((82 ∷ ds) ++ u)) ≡ none
      go true b = stops_low b
      go false b = rw (word_front (82 ∷ ds) u whole b, e) (simp (le-ltb v 8 k))

  pub register_read : Register t at v stop
  register_read = record {
    any = spotted_word 104 refl t at v h (82 ∷ ds) u stop d (omega arith) (omega arith) whole value_any stops_any;
    low = λ k.
        spotted_word 114 refl t at v h (82 ∷ ds) u stop d (omega arith) (omega arith) whole (value_low k) stops_low;
    high = λ k. missing 114 refl t at (ap (λ (s : Text). slot_value 114 (word s)) d ∙ none_high k);
  }

-- no register
module _ (t : Text) (at : ℕ) where
  no_letter : (k : ℕ) → (get_or t at 0 ≡ 82 → ⊥) → register_value k (word (drop at t)) ≡ none
  unfolding register_value word
  no_letter k n = ⊎_elim inside over (lt_or_ge at (length t))
    where
      at_first : (c : ℕ) (w : Text) → (c ≡ 82 → ⊥) → (b : Bool) → register_value k (cond b (c ∷ w) []) ≡ none
      at_first c w n true = simp (ne_eqb c 82 n)
      at_first c w n false = refl

      inside : at < length t → register_value k (word (drop at t)) ≡ none
      inside h =
          rw (rest t at h) (at_first (get_or t at 0) (word (drop (at + 1) t)) n (in_word (get_or t at 0)))

      over : length t ≤ at → register_value k (word (drop at t)) ≡ none
      over h = rw (drop_of_length-le t h) refl

  no_digit : (k : ℕ) → get_or t at 0 ≡ 82 → is_digit (get_or t (at + 1) 0) ≡ false
      → register_value k (word (drop at t)) ≡ none
  unfolding register_value word slot_value
  no_digit k e n =
      let q : number_value (word (drop (at + 1) t)) ≡ none = number_missing t (at + 1) n in
      rw (rest t at (byte_inside t at 82 (omega arith) e), e, q) refl

  none_both : ((k : ℕ) → register_value k (word (drop at t)) ≡ none) → NoRegister t at
  unfolding slot_value
  none_both f = record { any = missing 104 refl t at (f 16); low = missing 114 refl t at (f 8) }

  pub register_other : (get_or t at 0 ≡ 82 → ⊥) → NoRegister t at
  register_other n = none_both (λ k. no_letter k n)

  pub register_no_digit : get_or t at 0 ≡ 82 → is_digit (get_or t (at + 1) 0) ≡ false → NoRegister t at
  register_no_digit e n = none_both (λ k. no_digit k e n)

-- what follows the first digits of a text that has them behind an R
module _ (t : Text) (at : ℕ) (c : get_or t at 0 ≡ 82) where
  front_one : 0 < get_or t (at + 1) 0 → drop at t ≡ 82 ∷ ((get_or t (at + 1) 0 ∷ []) ++ drop (at + 2) t)
  front_one z =
      let n : at + 1 + 1 ≡ at + 2 = omega arith in
      rest t at (byte_inside t at 82 (omega arith) c)
      ∙ ap₂ (λ (x : ℕ) (u : Text). x ∷ u) c (rest t (at + 1) (byte_inside t (at + 1) _ z refl)
      ∙ ap (λ (i : ℕ). get_or t (at + 1) 0 ∷ drop i t) n)

  front_two : 0 < get_or t (at + 1) 0 → 0 < get_or t (at + 2) 0
      → drop at t ≡ 82 ∷ ((get_or t (at + 1) 0 ∷ get_or t (at + 2) 0 ∷ []) ++ drop (at + 3) t)
  front_two z y =
      let n : at + 2 + 1 ≡ at + 3 = omega arith in
      front_one z
      ∙ ap (λ (u : Text). 82 ∷ get_or t (at + 1) 0 ∷ u) (rest t (at + 2) (byte_inside t (at + 2) _ y refl)
      ∙ ap (λ (i : ℕ). get_or t (at + 2) 0 ∷ drop i t) n)

-- a number of one digit, and of two
digit_value : (d : ℕ) → is_digit d ≡ true → number_value (d ∷ []) ≡ some (d - 48)
unfolding number_value is_number number_of digits_after
digit_value d e = go (eqb d 48)
  where
    go : (b : Bool)
        → given (is_digit d && true && (not b || true)) (min (10 * 0 + (d - 48)) too_large) ≡ some (d - 48)
    go true = simp e (ap some (omega (arith, digit_high d e)))
    go false = simp e (ap some (omega (arith, digit_high d e)))

ten_value : (e : ℕ) → is_digit e ≡ true → number_value (49 ∷ e ∷ []) ≡ some (10 + (e - 48))
unfolding number_value is_number number_of digits_after
ten_value e h = simp h (ap some (omega (arith, digit_low e h, digit_high e h)))

-- and those that go on
more_than_one : (d x : ℕ) (y : Text) → is_digit d ≡ true → (d ≡ 49 → ⊥) → below 16 (number_value (d ∷ x ∷ y)) ≡ none
unfolding is_number number_of digits_after
more_than_one d x y e n = large_none (d ∷ x ∷ y) large
  where
    large : is_number (d ∷ x ∷ y) ≡ true → 16 ≤ number_of (d ∷ x ∷ y)
    large q =
        let z = and_right (is_digit d && every is_digit (x ∷ y)) (not (eqb d 48) || false) q in
        let m = digits_least (10 * (10 * 0 + (d - 48)) + (x - 48)) y in
        go (eqb d 48) refl z m
      where
        go : (b : Bool) → eqb d 48 ≡ b → (not b || false) ≡ true
            → 10 * (10 * 0 + (d - 48)) + (x - 48) ≤ digits_after 10 48 (10 * (10 * 0 + (d - 48)) + (x - 48)) y
            → 16 ≤ digits_after 10 48 (10 * (10 * 0 + (d - 48)) + (x - 48)) y
        go true r z m = absurd (false≢true z)
        go false r z m =
            let f : d ≡ 48 → ⊥ = eqb-false d 48 r in
            omega (arith, m, f, n, digit_low d e)

more_than_ten : (x : ℕ) (y : Text) → (is_digit x ≡ true → 54 ≤ x) → below 16 (number_value (49 ∷ x ∷ y)) ≡ none
unfolding is_number number_of digits_after
more_than_ten x y f = large_none (49 ∷ x ∷ y) large
  where
    large : is_number (49 ∷ x ∷ y) ≡ true → 16 ≤ number_of (49 ∷ x ∷ y)
    large q =
        let digits = and_left (is_digit x && every is_digit y) true q in
        let m = digits_least (10 * (10 * 0 + (49 - 48)) + (x - 48)) y in
        omega (arith, m, f (and_left (is_digit x) (every is_digit y) digits))

more_than_two : (e x : ℕ) (y : Text) → below 16 (number_value (49 ∷ e ∷ x ∷ y)) ≡ none
unfolding is_number number_of digits_after
more_than_two e x y = large_none (49 ∷ e ∷ x ∷ y) (λ q. omega (arith, m))
  where
    m : 10 * (10 * (10 * 0 + (49 - 48)) + (e - 48)) + (x - 48)
        ≤ digits_after 10 48 (10 * (10 * (10 * 0 + (49 - 48)) + (e - 48)) + (x - 48)) y
    m = digits_least (10 * (10 * (10 * 0 + (49 - 48)) + (e - 48)) + (x - 48)) y

module _ (t : Text) (at : ℕ) (h : at ≤ length t) (c : get_or t at 0 ≡ 82) where
  pub register_short : (d : ℕ) → d ≡ get_or t (at + 1) 0 → is_digit d ≡ true → (d ≡ 49 → ⊥)
      → Register t at (d - 48) (at + 2)
  register_short d q e n =
      let z = digit_low d e in
      register_read t (d ∷ []) (drop (at + 2) t) at (d - 48) (at + 2) h
      (front_one t at c (omega (arith, q)) ∙ ap (λ (x : ℕ). 82 ∷ ((x ∷ []) ++ drop (at + 2) t)) (sym q)) (omega arith)
      (simp e) (digit_value d e) (omega (arith, digit_high d e)) (λ x y b. more_than_one d x y e n)

  pub register_one : get_or t (at + 1) 0 ≡ 49 → (is_digit (get_or t (at + 2) 0) ≡ true → 54 ≤ get_or t (at + 2) 0)
      → Register t at 1 (at + 2)
  register_one q f =
      register_read t (49 ∷ []) (drop (at + 2) t) at 1 (at + 2) h
      (front_one t at c (omega (arith, q)) ∙ ap (λ (x : ℕ). 82 ∷ ((x ∷ []) ++ drop (at + 2) t)) q) (omega arith)
      refl (digit_value 49 refl) (omega arith)
      (λ x y b. more_than_ten x y (subst (λ (z : ℕ). is_digit z ≡ true → 54 ≤ z)
      (first_byte t (at + 2) x b.0 b.1) f))

  pub register_teen : (e : ℕ) → e ≡ get_or t (at + 2) 0 → get_or t (at + 1) 0 ≡ 49 → 48 ≤ e → e ≤ 53
      → Register t at (10 + (e - 48)) (at + 3)
  register_teen e r q l m =
      let d : is_digit e ≡ true = simp (le-leb 48 e l, le-leb e 57 (omega arith)) in
      register_read t (49 ∷ e ∷ []) (drop (at + 3) t) at (10 + (e - 48)) (at + 3) h
      (front_two t at c (omega (arith, q)) (omega (arith, r))
      ∙ ap₂ (λ (x y : ℕ). 82 ∷ ((x ∷ y ∷ []) ++ drop (at + 3) t)) q (sym r)) (omega arith)
      (simp d) (ten_value e d) (omega arith) (λ x y b. more_than_two e x y)
