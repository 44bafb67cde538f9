-- The decimal of a number is a number of the syntax, and has its value; behind a letter, two of them are the same only
-- for the same number.
use mathlib.Core.Bool.{Bool, true, false, cond, or-true}
use mathlib.Core.List.{[], ◌∷◌, ◌++◌}
use mathlib.Core.Path.{◌≡◌, refl, sym, ◌∙◌}
use mathlib.Core.Logic.{◌⊎◌, inl, inr, ⊎_elim}
use Prim.Native.Nat.{ℕ, zero, suc, ◌+◌, ◌-◌, ◌*◌, ◌/◌, ◌%◌, ◌<◌, ◌≤◌}
use native.Mathlib.Omega.{arith}
use lib.Dec.{ltb}
use borrow.Author.Tests.{ltb-true, ltb-false, lt-ltb, le-ltb, le-leb, ne_eqb}
use Rattle.text.specs.Text.{Text, is_digit, every, digits_after, is_number, number_of, digit, decimal}
use Rattle.text.proofs.Words.{and_left, and_right, every_append}

-- the decimal of a number of at most k digits, its last digit last
unfoldable pub decimal_within : ℕ → ℕ → Text
decimal_within zero n = []
decimal_within (suc k) n = cond (ltb n 10) ((48 + n) ∷ []) (decimal_within k (n / 10) ++ ((48 + n % 10) ∷ []))

-- by the size of a number: one digit, or a last one behind others
module _ (P : Text → Type 0) (k n : ℕ) where
  decimal_cases : (n < 10 → P ((48 + n) ∷ [])) → (10 ≤ n → P (decimal_within k (n / 10) ++ ((48 + n % 10) ∷ [])))
      → P (decimal_within (suc k) n)
  unfolding decimal_within
  decimal_cases f g = go (ltb n 10) refl
    where
      go : (b : Bool) → ltb n 10 ≡ b → P (cond b ((48 + n) ∷ []) (decimal_within k (n / 10) ++ ((48 + n % 10) ∷ [])))
      go true e = f (ltb-true n 10 e)
      go false e = g (ltb-false n 10 e)

-- the two ways to write a number are one, by the number of its digits
module _ (n : ℕ) where
  abbrev Same : Type 0
  Same = decimal n ≡ decimal_within 5 n

  one_digit : n < 10 → Same
  unfolding decimal_within
  one_digit h =
      let e : n % 10 ≡ n = omega arith in
      simp (lt-ltb n 10000 (omega arith), lt-ltb n 1000 (omega arith), lt-ltb n 100 (omega arith), lt-ltb n 10 h, e)

  two_digits : 10 ≤ n → n < 100 → Same
  unfolding decimal_within
  two_digits l h =
      let e : n / 10 % 10 ≡ n / 10 = omega arith in
      simp (
        lt-ltb n 10000 (omega arith),
        lt-ltb n 1000 (omega arith),
        lt-ltb n 100 h,
        le-ltb n 10 l,
        lt-ltb (n / 10) 10 (omega arith),
        e,
      )

  three_digits : 100 ≤ n → n < 1000 → Same
  unfolding decimal_within
  three_digits l h =
      let e : n / 100 % 10 ≡ n / 10 / 10 = omega arith in
      simp (
        lt-ltb n 10000 (omega arith),
        lt-ltb n 1000 h,
        le-ltb n 100 l,
        le-ltb n 10 (omega arith),
        le-ltb (n / 10) 10 (omega arith),
        lt-ltb (n / 10 / 10) 10 (omega arith),
        e,
      )

  four_digits : 1000 ≤ n → n < 10000 → Same
  unfolding decimal_within
  four_digits l h =
      let e : n / 1000 % 10 ≡ n / 10 / 10 / 10 = omega arith in
      let f : n / 100 ≡ n / 10 / 10 = omega arith in
      simp (
        lt-ltb n 10000 h,
        le-ltb n 1000 l,
        le-ltb n 100 (omega arith),
        le-ltb n 10 (omega arith),
        le-ltb (n / 10) 10 (omega arith),
        le-ltb (n / 10 / 10) 10 (omega arith),
        lt-ltb (n / 10 / 10 / 10) 10 (omega arith),
        e,
        f,
      )

  five_digits : 10000 ≤ n → n < 100000 → Same
  unfolding decimal_within
  five_digits l h =
      let e : n / 10000 % 10 ≡ n / 10 / 10 / 10 / 10 = omega arith in
      let f : n / 1000 ≡ n / 10 / 10 / 10 = omega arith in
      let g : n / 100 ≡ n / 10 / 10 = omega arith in
      simp (
        le-ltb n 10000 l,
        le-ltb n 1000 (omega arith),
        le-ltb n 100 (omega arith),
        le-ltb n 10 (omega arith),
        le-ltb (n / 10) 10 (omega arith),
        le-ltb (n / 10 / 10) 10 (omega arith),
        le-ltb (n / 10 / 10 / 10) 10 (omega arith),
        lt-ltb (n / 10 / 10 / 10 / 10) 10 (omega arith),
        e,
        f,
        g,
      )

pub decimal_within_is : (n : ℕ) → n < 100000 → decimal n ≡ decimal_within 5 n
decimal_within_is n h = go (ltb n 10) (ltb n 100) (ltb n 1000) (ltb n 10000) refl refl refl refl
  where
    go : (a b c d : Bool) → ltb n 10 ≡ a → ltb n 100 ≡ b → ltb n 1000 ≡ c → ltb n 10000 ≡ d → Same n
    go true b c d p q r s = one_digit n (ltb-true n 10 p)
    go false true c d p q r s = two_digits n (ltb-false n 10 p) (ltb-true n 100 q)
    go false false true d p q r s = three_digits n (ltb-false n 100 q) (ltb-true n 1000 r)
    go false false false true p q r s = four_digits n (ltb-false n 1000 r) (ltb-true n 10000 s)
    go false false false false p q r s = five_digits n (ltb-false n 10000 s) h

-- digits, whatever the number is
digit_is : (d : ℕ) → d < 10 → is_digit (48 + d) ≡ true
digit_is d h = simp (le-leb 48 (48 + d) (omega arith), le-leb (48 + d) 57 (omega arith))

digit_digits : (n unit : ℕ) → every is_digit (digit n unit) ≡ true
digit_digits n unit = go (ltb n unit)
  where
    go : (b : Bool) → every is_digit (cond b [] ((48 + n / unit % 10) ∷ [])) ≡ true
    go true = refl
    go false = simp (digit_is (n / unit % 10) (omega arith))

module _ (n : ℕ) where
  -- what stands before the ones
  abbrev front : Text
  front = digit n 10000 ++ digit n 1000 ++ digit n 100 ++ digit n 10

  pub decimal_digits : every is_digit (decimal n) ≡ true
  decimal_digits =
      every_append is_digit front _
      (every_append is_digit (digit n 10000 ++ digit n 1000 ++ digit n 100) (digit n 10)
      (every_append is_digit (digit n 10000 ++ digit n 1000) (digit n 100)
      (every_append is_digit (digit n 10000) (digit n 1000) (digit_digits n 10000) (digit_digits n 1000))
      (digit_digits n 100))
      (digit_digits n 10))
      (simp (digit_is (n % 10) (omega arith)))

-- n has at most k digits
abbrev Short : ℕ → ℕ → Type 0
Short zero n = n ≡ 0
Short (suc k) n = Short k (n / 10)

short : (n : ℕ) → n < 100000 → Short 5 n
short n h = omega arith

within_digits : (k n : ℕ) → every is_digit (decimal_within k n) ≡ true
unfolding decimal_within
within_digits zero n = refl
within_digits (suc k) n =
    let r = within_digits k (n / 10) in
    decimal_cases (λ t. every is_digit t ≡ true) k n
    (λ h. simp (digit_is n h))
    (λ h. every_append is_digit (decimal_within k (n / 10)) _ r (simp (digit_is (n % 10) (omega arith))))

-- its value
pub digits_snoc : (base lowest n : ℕ) (t : Text) (c : ℕ)
    → digits_after base lowest n (t ++ (c ∷ [])) ≡ base * digits_after base lowest n t + (c - lowest)
unfolding digits_after
digits_snoc base lowest n [] c = refl
digits_snoc base lowest n (d ∷ t) c = digits_snoc base lowest (base * n + (d - lowest)) t c

within_value : (k n : ℕ) → Short k n → number_of (decimal_within k n) ≡ n
unfolding number_of decimal_within digits_after
within_value zero n h = sym h
within_value (suc k) n h =
    let r = within_value k (n / 10) h in
    decimal_cases (λ t. number_of t ≡ n) k n
    (λ l. omega arith)
    (λ l. digits_snoc 10 48 0 (decimal_within k (n / 10)) (48 + n % 10) ∙ omega arith)

pub decimal_value : (n : ℕ) → n < 100000 → number_of (decimal n) ≡ n
decimal_value n h = rw (decimal_within_is n h) (within_value 5 n (short n h))

-- no zero in front
abbrev first_of : Text → ℕ
first_of [] = 48
first_of (c ∷ t) = c

first_snoc : (t : Text) (c : ℕ) → (first_of t ≡ 48 → ⊥) → first_of (t ++ (c ∷ [])) ≡ 48 → ⊥
first_snoc [] c h e = h refl
first_snoc (d ∷ t) c h e = h e

within_first : (k n : ℕ) → Short k n → 0 < n → first_of (decimal_within k n) ≡ 48 → ⊥
within_first zero n h p e = omega arith
within_first (suc k) n h p e =
    let r = within_first k (n / 10) h in
    decimal_cases (λ t. first_of t ≡ 48 → ⊥) k n
    (λ l. λ q. omega arith)
    (λ l. first_snoc (decimal_within k (n / 10)) (48 + n % 10) (r (omega arith))) e

-- digits that don't begin with a zero are a number
number_is : (t : Text) → every is_digit t ≡ true → (first_of t ≡ 48 → ⊥) → is_number t ≡ true
unfolding is_number
number_is [] h f = absurd (f refl)
number_is (c ∷ t) h f =
    simp (and_left (is_digit c) (every is_digit t) h, and_right (is_digit c) (every is_digit t) h, ne_eqb c 48 f)

within_number : (k n : ℕ) → Short (suc k) n → is_number (decimal_within (suc k) n) ≡ true
unfolding is_number
within_number k n h =
    let d = within_digits k (n / 10) in
    let f = within_first k (n / 10) h in
    decimal_cases (λ t. is_number t ≡ true) k n
    (λ l. simp (digit_is n l, or-true))
    (λ l. number_is (decimal_within k (n / 10) ++ ((48 + n % 10) ∷ []))
    (every_append is_digit (decimal_within k (n / 10)) _ d (simp (digit_is (n % 10) (omega arith))))
    (first_snoc (decimal_within k (n / 10)) (48 + n % 10) (f (omega arith))))

pub decimal_number : (n : ℕ) → n < 100000 → is_number (decimal n) ≡ true
decimal_number n h = rw (decimal_within_is n h) (within_number 4 n (short n h))

-- the decimal behind the letter a, to the base 256
abbrev behind_letter : ℕ → ℕ → ℕ
behind_letter k n = digits_after 256 0 97 (decimal_within k n)

-- of one digit, or of more
abbrev Cases : ℕ → ℕ → ℕ → Type 0
Cases k n x =
    ((n < 10) × (x ≡ 256 * 97 + (48 + n))) ⊎ ((10 ≤ n) × (x ≡ 256 * behind_letter k (n / 10) + (48 + n % 10)))

letter_cases : (k n : ℕ) → Cases k n (behind_letter (suc k) n)
unfolding digits_after
letter_cases k n =
    decimal_cases (λ t. Cases k n (digits_after 256 0 97 t)) k n
    (λ l. inl (l, omega arith))
    (λ l. inr (l, digits_snoc 256 0 97 (decimal_within k (n / 10)) (48 + n % 10) ∙ omega arith))

pub digits_grow : (n : ℕ) (t : Text) → n ≤ digits_after 256 0 n t
unfolding digits_after
digits_grow n [] = omega arith
digits_grow n (c ∷ t) = let r = digits_grow (256 * n + (c - 0)) t in omega arith

letter_more : (k n : ℕ) → Short k n → 0 < n → 97 < behind_letter k n
letter_more zero n h p = omega arith
letter_more (suc k) n h p =
    let g = digits_grow 97 (decimal_within k (n / 10)) in
    ⊎_elim (λ w. omega arith) (λ w. omega arith) (letter_cases k n)

within_injective : (k n m : ℕ) → Short k n → Short k m → behind_letter k n ≡ behind_letter k m → n ≡ m
within_injective zero n m h g e = h ∙ sym g
within_injective (suc k) n m h g e =
    let r = within_injective k (n / 10) (m / 10) h g in
    let a = letter_more k (n / 10) h in
    let b = letter_more k (m / 10) g in
    ⊎_elim
    (λ v. ⊎_elim (λ w. omega arith)
    (λ w. let more : 97 < behind_letter k (m / 10) = b (omega arith) in omega arith) (letter_cases k m))
    (λ v. ⊎_elim (λ w. let more : 97 < behind_letter k (n / 10) = a (omega arith) in omega arith)
    (λ w. let q : n / 10 ≡ m / 10 = r (omega arith) in omega arith) (letter_cases k m))
    (letter_cases k n)

pub letter_injective : (n m : ℕ) → n < 100000 → m < 100000
    → digits_after 256 0 97 (decimal n) ≡ digits_after 256 0 97 (decimal m) → n ≡ m
letter_injective n m h g e =
    within_injective 5 n m (short n h) (short m g) (rw (decimal_within_is n h, decimal_within_is m g) at e)
