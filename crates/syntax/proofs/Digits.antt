-- Numbers and registers that are read without a look at what follows them.
use mathlib.Core.Bool.{Bool, true, false, true≢false, cond, ◌&&◌}
use mathlib.Core.List.{[], ◌∷◌, ◌++◌, append_assoc}
use mathlib.Core.Logic.{⊎_elim}
use mathlib.Core.Option.{none, some}
use mathlib.Core.Path.{◌≡◌, refl, ap, sym, ◌∙◌}
use Prim.Native.Nat.{ℕ, ◌+◌, ◌-◌, ◌*◌, ◌<◌, ◌≤◌, min}
use native.Mathlib.Omega.{arith}
use lib.Dec.{eqb, leb}
use lib.ListN.{length, get_or, drop, length-append, drop_of_length-le}
use borrow.Author.Tests.{ne_eqb, leb-true}
use Rattle.units.proofs.Cases.{lt_or_ge}
use Rattle.text.specs.Text.{Text, is_digit, in_word, every, word, digits_after, is_number}
use Rattle.text.specs.Text.{number_of}
use Rattle.text.proofs.Scans.{rest}
use Rattle.text.proofs.Words.{begins_word, and_left, and_right, every_append, every_weak}
use Rattle.syntax.specs.Syntax.{slot_value, number_value, given, too_large}
use Rattle.syntax.specs.Slots.{with_digit}
use Rattle.syntax.specs.Spots.{Missing, Spotted, Digits, begins_digit}
use Rattle.syntax.proofs.Steps.{missing, spotted_word, byte_inside}

-- a word that goes on behind its front
pub word_further : (w u : Text) → every in_word w ≡ true → word (w ++ u) ≡ w ++ word u
unfolding word
word_further [] u h = refl
word_further (c ∷ w) u h =
    simp (and_left (in_word c) (every in_word w) h) (ap (λ (t : Text). c ∷ t)
    (word_further w u (and_right (in_word c) (every in_word w) h)))

-- what is not the case of one character isn't of all
pub every_breaks : (p : ℕ → Bool) (w : Text) (d : ℕ) (u : Text) → p d ≡ false → every p (w ++ (d ∷ u)) ≡ false
every_breaks p [] d u e = simp e
every_breaks p (c ∷ w) d u e = go (p c) (every_breaks p w d u e)
  where
    go : (b : Bool) → every p (w ++ (d ∷ u)) ≡ false → (b && every p (w ++ (d ∷ u))) ≡ false
    go true r = r
    go false r = refl

pub digit_in_word : (c : ℕ) → is_digit c ≡ true → in_word c ≡ true
digit_in_word c e = simp e

-- what a digit is
pub digit_low : (c : ℕ) → is_digit c ≡ true → 48 ≤ c
digit_low c e = leb-true 48 c (and_left (leb 48 c) (leb c 57) e)

pub digit_high : (c : ℕ) → is_digit c ≡ true → c ≤ 57
digit_high c e = leb-true c 57 (and_right (leb 48 c) (leb c 57) e)

-- one more digit
pub digits_snoc : (base lowest n : ℕ) (t : Text) (c : ℕ)
    → digits_after base lowest n (t ++ (c ∷ [])) ≡ base * digits_after base lowest n t + (c - lowest)
unfolding digits_after
digits_snoc base lowest n [] c = refl
digits_snoc base lowest n (d ∷ t) c = digits_snoc base lowest (base * n + (d - lowest)) t c

pub digits_start : (t : Text) (at first : ℕ) → at ≤ length t → first ≤ too_large → Digits t at first first at
unfolding digits_after
digits_start t at first h l = record {
  read = [];
  split = refl;
  place = omega arith;
  inside = h;
  digits = refl;
  amount = omega arith;
}

pub digits_more : (t : Text) (at first value i : ℕ) → Digits t at first value i → i < length t
    → is_digit (get_or t i 0) ≡ true → (next : ℕ) → next ≡ with_digit value (get_or t i 0)
    → Digits t at first next (i + 1)
digits_more t at first value i s h e next q =
    let c = get_or t i 0 in
    let long = length-append s.read (c ∷ []) in
    let more = digits_snoc 10 48 first s.read c in
    record {
      read = s.read ++ (c ∷ []);
      split =
          s.split ∙ ap (λ (u : Text). s.read ++ u) (rest t i h)
          ∙ sym (append_assoc s.read (c ∷ []) (drop (i + 1) t));
      place = omega (arith, s.place, long);
      inside = omega arith;
      digits = every_append is_digit s.read (c ∷ []) s.digits (simp e);
      amount = omega (arith, q, s.amount, more);
    }

pub digits_stop : (t : Text) (i : ℕ) → i < length t → is_digit (get_or t i 0) ≡ false → begins_digit (drop i t) ≡ false
digits_stop t i h e = rw (rest t i h) e

pub digits_over : (t : Text) (i : ℕ) → length t ≤ i → begins_digit (drop i t) ≡ false
digits_over t i h = rw (drop_of_length-le t h) refl

-- numbers
pub number_missing : (t : Text) (at : ℕ) → is_digit (get_or t at 0) ≡ false → slot_value 110 (word (drop at t)) ≡ none
unfolding slot_value number_value is_number word
number_missing t at e = ⊎_elim inside over (lt_or_ge at (length t))
  where
    at_first : (c : ℕ) (u : Text) → is_digit c ≡ false → (b : Bool) → slot_value 110 (cond b (c ∷ word u) []) ≡ none
    at_first c u e true = simp e
    at_first c u e false = refl

    inside : at < length t → slot_value 110 (word (drop at t)) ≡ none
    inside h = rw (rest t at h) (at_first (get_or t at 0) (drop (at + 1) t) e (in_word (get_or t at 0)))

    over : length t ≤ at → slot_value 110 (word (drop at t)) ≡ none
    over h = rw (drop_of_length-le t h) refl

-- a text that begins with a word has one
pub word_begun : (C : Text → Type 0) (u : Text) → begins_word u ≡ true
    → ((d : ℕ) (v : Text) → u ≡ d ∷ v → in_word d ≡ true → C (d ∷ word v)) → C (word u)
unfolding word
word_begun C [] b f = absurd (true≢false (sym b))
word_begun C (d ∷ v) b f = simp b (f d v refl b)

pub number_none : (t : Text) (at : ℕ) → is_digit (get_or t at 0) ≡ false → Missing 110 t at
number_none t at e = missing 110 refl t at (number_missing t at e)

-- behind a zero there is no digit
zero_alone : (d : ℕ) (v : Text) → slot_value 110 (48 ∷ d ∷ v) ≡ none
unfolding slot_value number_value is_number
zero_alone d v = go (every is_digit (d ∷ v))
  where
    go : (b : Bool) → given (b && false) (min (number_of (48 ∷ d ∷ v)) too_large) ≡ none
    go true = refl
    go false = refl

pub number_zero : (t : Text) (at : ℕ) → at ≤ length t → get_or t at 0 ≡ 48 → Spotted 110 t at 0 (at + 1)
unfolding slot_value number_value is_number number_of digits_after
number_zero t at h e =
    spotted_word 110 refl t at 0 h (48 ∷ []) (drop (at + 1) t) (at + 1)
    (rest t at (byte_inside t at 48 (omega arith) e) ∙ ap (λ (c : ℕ). c ∷ drop (at + 1) t) e)
    (omega arith) (omega arith) refl refl
    (λ b. ap (slot_value 110) (word_further (48 ∷ []) (drop (at + 1) t) refl)
    ∙ word_begun (λ (w : Text). slot_value 110 (48 ∷ w) ≡ none) (drop (at + 1) t) b
    (λ d v r i. zero_alone d (word v)))

-- digits that don't begin with a zero, and what follows them is no digit
module _ (c : ℕ) (w : Text) (e : is_digit c ≡ true) (n : eqb c 48 ≡ false) where
  number_is : every is_digit w ≡ true → (v : ℕ) → v ≡ min (digits_after 10 48 (c - 48) w) too_large
      → slot_value 110 (c ∷ w) ≡ some v
  unfolding slot_value number_value is_number number_of digits_after
  number_is h v q =
      let m : 10 * 0 + (c - 48) ≡ c - 48 = omega arith in
      simp (e, h, n) (ap some (ap (λ (x : ℕ). min (digits_after 10 48 x w) too_large) m ∙ sym q))

  number_breaks : (d : ℕ) (v : Text) → is_digit d ≡ false → slot_value 110 (c ∷ (w ++ (d ∷ v))) ≡ none
  unfolding slot_value number_value is_number
  number_breaks d v f = simp (e, every_breaks is_digit w d v f)

pub number_read : (t : Text) (at value stop : ℕ) → at ≤ length t → is_digit (get_or t at 0) ≡ true
    → (get_or t at 0 ≡ 48 → ⊥) → Digits t (at + 1) (get_or t at 0 - 48) value stop → begins_digit (drop stop t) ≡ false
    → Spotted 110 t at value stop
number_read t at value stop h e n s f =
    let c = get_or t at 0 in
    let q : eqb c 48 ≡ false = ne_eqb c 48 n in
    let inside : at < length t = byte_inside t at c (omega (arith, digit_low c e)) refl in
    let whole : every in_word (c ∷ s.read) ≡ true =
    simp (digit_in_word c e) (every_weak is_digit in_word digit_in_word s.read s.digits) in
    spotted_word 110 refl t at value h (c ∷ s.read) (drop stop t) stop
    (rest t at inside ∙ ap (λ (u : Text). c ∷ u) s.split) (omega arith) (omega (arith, s.place)) whole
    (number_is c s.read e q s.digits value s.amount)
    (λ b. ap (slot_value 110) (word_further (c ∷ s.read) (drop stop t) whole)
    ∙ word_begun (λ (w : Text). slot_value 110 (c ∷ (s.read ++ w)) ≡ none) (drop stop t) b
    (λ d v r i. number_breaks c s.read e q d (word v) (sym (ap begins_digit r) ∙ f)))
