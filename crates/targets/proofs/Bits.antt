-- One bit of a list of words.
use mathlib.Core.Bool.{Bool, true, false, ◌||◌}
use mathlib.Core.List.{List}
use mathlib.Core.Logic.{◌≢◌}
use mathlib.Core.Path.{◌≡◌, refl, sym, ap, ◌∙◌}
use Prim.Native.Nat.{ℕ, zero, suc, ◌+◌, ◌-◌, ◌*◌, ◌/◌, ◌%◌, ◌^◌, ◌<◌}
use native.Mathlib.Decide.{dec_lt}
use native.Mathlib.Nat.{one-mul, div-eq_of_lt, mul-mod_left, pow-suc, zero-div}
use native.Mathlib.Omega.{arith}
use borrow.Author.Tests.{eqb-true, eqb-false, eq-eqb, ne_eqb}
use lib.Bits.{bit_or, or_shr, or_mod, or_zero_r}
use lib.Dec.{eqb, lit<}
use lib.ListN.{length, get_or, set, replicate, get_or-replicate, get_or-eq_default}
use lib.Pow.{shl_exact, pow-add, pow-lt, shl-shr}
use lib.Seq.{get_or-set_same, get_or-set_other}
use Rattle.targets.specs.Targets.{mark_words, marked_at}

pub shl_one : (k : ℕ) → k < 64 → (1 * 2 ^ k) % 2 ^ 64 ≡ 2 ^ k
shl_one k h = shl_exact {a = 1} 1 k 64 (lit< tt) (omega arith) ∙ one-mul (2 ^ k)

-- two tests that say the same
eqb_iff : (a b c d : ℕ) → (a ≡ b → c ≡ d) → (c ≡ d → a ≡ b) → eqb a b ≡ eqb c d
eqb_iff a b c d f g = go (eqb c d) refl
  where
    go : (t : Bool) → eqb c d ≡ t → eqb a b ≡ t
    go true e = eq-eqb a b (g (eqb-true c d e))
    go false e = ne_eqb a b (λ p. eqb-false c d e (f p))

-- bit b of 2 ^ a
bit_same : (a : ℕ) → 2 ^ a / 2 ^ a % 2 ≡ 1
bit_same a = ap (λ (x : ℕ). x / 2 ^ a % 2) (sym (one-mul (2 ^ a))) ∙ ap (λ (x : ℕ). x % 2) (shl-shr 1 a)

bit_above : (d b : ℕ) → 2 ^ (suc d + b) / 2 ^ b % 2 ≡ 0
bit_above d b =
    ap (λ (x : ℕ). x / 2 ^ b % 2) (pow-add 2 (suc d) b) ∙ ap (λ (x : ℕ). x % 2) (shl-shr (2 ^ suc d) b)
    ∙ ap (λ (x : ℕ). x % 2) (pow-suc 2 d) ∙ mul-mod_left (2 ^ d) 2

bit_other : (a b : ℕ) → a ≢ b → 2 ^ a / 2 ^ b % 2 ≡ 0
bit_other a b ne = go (dec_lt a b)
  where
    go : Dec (a < b) → 2 ^ a / 2 ^ b % 2 ≡ 0
    go (yes h) = ap (λ (x : ℕ). x % 2) (div-eq_of_lt (pow-lt h))
    go (no h) =
        let e : suc (a - b - 1) + b ≡ a = omega arith in
        ap (λ (x : ℕ). 2 ^ x / 2 ^ b % 2) (sym e) ∙ bit_above (a - b - 1) b

-- bit b of an or with 2 ^ a
or_bit : (w a b : ℕ) → bit_or w (2 ^ a) / 2 ^ b % 2 ≡ bit_or (w / 2 ^ b % 2) (2 ^ a / 2 ^ b % 2)
or_bit w a b = ap (λ (x : ℕ). x % 2) (or_shr w (2 ^ a) b) ∙ or_mod (w / 2 ^ b) (2 ^ a / 2 ^ b) 1

or_digit : (x : ℕ) → x < 2 → eqb (bit_or x 1) 1 ≡ true
or_digit zero h = refl
or_digit (suc zero) h = refl
or_digit (suc (suc x)) h = absurd (omega arith)

bit_set : (w a b : ℕ) (t : Bool) → eqb a b ≡ t → eqb (bit_or w (2 ^ a) / 2 ^ b % 2) 1 ≡ (t || eqb (w / 2 ^ b % 2) 1)
bit_set w a b true q =
    ap (λ (y : ℕ). eqb y 1)
    (or_bit w a b
    ∙ ap (λ (y : ℕ). bit_or (w / 2 ^ b % 2) (2 ^ a / 2 ^ y % 2)) (sym (eqb-true a b q))
    ∙ ap (bit_or (w / 2 ^ b % 2)) (bit_same a))
    ∙ or_digit (w / 2 ^ b % 2) (omega arith)
bit_set w a b false q =
    ap (λ (y : ℕ). eqb y 1)
    (or_bit w a b ∙ ap (bit_or (w / 2 ^ b % 2)) (bit_other a b (eqb-false a b q)) ∙ or_zero_r (w / 2 ^ b % 2))

-- the words with bit i set
abbrev pub set_mark : List ℕ → ℕ → List ℕ
set_mark marks i = set marks (i / 64) (bit_or (get_or marks (i / 64) 0) (2 ^ (i % 64)))

pub marked_set : (marks : List ℕ) (i j : ℕ) → i / 64 < length marks
    → marked_at (set_mark marks i) j ≡ (eqb i j || marked_at marks j)
marked_set marks i j h = word (eqb (j / 64) (i / 64)) refl
  where
    word : (t : Bool) → eqb (j / 64) (i / 64) ≡ t → marked_at (set_mark marks i) j ≡ (eqb i j || marked_at marks j)
    word true e =
        let q : j / 64 ≡ i / 64 = eqb-true _ _ e in
        ap (λ (k : ℕ). eqb (get_or (set_mark marks i) k 0 / 2 ^ (j % 64) % 2) 1) q
        ∙ ap (λ (w : ℕ). eqb (w / 2 ^ (j % 64) % 2) 1) (get_or-set_same marks (i / 64) _ 0 h)
        ∙ bit_set (get_or marks (i / 64) 0) (i % 64) (j % 64) (eqb i j)
        (eqb_iff (i % 64) (j % 64) i j (λ p. omega arith) (λ p. omega arith))
        ∙ ap (λ (k : ℕ). eqb i j || eqb (get_or marks k 0 / 2 ^ (j % 64) % 2) 1) (sym q)
    word false e =
        ap (λ (w : ℕ). eqb (w / 2 ^ (j % 64) % 2) 1) (get_or-set_other marks (i / 64) (j / 64) _ 0 (eqb-false _ _ e))
        ∙ ap (λ (t : Bool). t || marked_at marks j)
        (sym (ne_eqb i j (λ p. eqb-false _ _ e (ap (λ (k : ℕ). k / 64) (sym p)))))

-- no bit of the first words is set
pub none_marked : (j : ℕ) → marked_at (replicate mark_words 0) j ≡ false
none_marked j = go (dec_lt (j / 64) mark_words)
  where
    zero_word : eqb (0 / 2 ^ (j % 64) % 2) 1 ≡ false
    zero_word = ap (λ (w : ℕ). eqb (w % 2) 1) (zero-div (2 ^ (j % 64)))

    go : Dec (j / 64 < mark_words) → marked_at (replicate mark_words 0) j ≡ false
    go (yes h) = ap (λ (w : ℕ). eqb (w / 2 ^ (j % 64) % 2) 1) (get_or-replicate mark_words (j / 64) 0 0 h) ∙ zero_word
    go (no h) =
        ap (λ (w : ℕ). eqb (w / 2 ^ (j % 64) % 2) 1)
        (get_or-eq_default (replicate mark_words 0) 0 {n = j / 64} (omega arith)) ∙ zero_word
