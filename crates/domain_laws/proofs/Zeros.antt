-- Numbers whose low bits are 0.
use mathlib.Core.Path.{◌≡◌, refl, sym, ap, ap₂, ◌∙◌}
use Prim.Native.Nat.{ℕ, zero, suc, ◌+◌, ◌-◌, ◌*◌, ◌/◌, ◌%◌, ◌^◌, ◌≤◌}
use native.Mathlib.Nat.{add-mod, zero-mod, mod-one, mod-eq-zero_of_dvd, dvd_of_mod-eq-zero, dvd-sub, sub-add_cancel}
use native.Mathlib.Numerals.{add-one}
use lib.Bits.{bit_and, bit_xor, and_mod, xor_mod, and_zero_r}
use lib.Count.{count_trailing_zeros, under}
use lib.Pow.{mod-mod-pow, mod-pow-add}

-- fewer of them are 0 too
pub zeros_less : (x z z' : ℕ) → z ≤ z' → x % 2 ^ z' ≡ 0 → x % 2 ^ z ≡ 0
zeros_less x z z' h e =
    sym (mod-mod-pow x (z' - z) z) ∙ ap (λ (n : ℕ). x % 2 ^ n % 2 ^ z) (sub-add_cancel h) ∙ ap (λ (n : ℕ). n % 2 ^ z) e
    ∙ zero-mod (2 ^ z)

pub zeros_wrap : (n z : ℕ) → z ≤ 16 → n % 65536 % 2 ^ z ≡ n % 2 ^ z
zeros_wrap n z h = ap (λ (k : ℕ). n % 2 ^ k % 2 ^ z) (sym (sub-add_cancel h)) ∙ mod-mod-pow n (16 - z) z

pub zeros_add : (x y z : ℕ) → x % 2 ^ z ≡ 0 → y % 2 ^ z ≡ 0 → (x + y) % 2 ^ z ≡ 0
zeros_add x y z p q = add-mod x y (2 ^ z) ∙ ap₂ (λ (a b : ℕ). (a + b) % 2 ^ z) p q ∙ zero-mod (2 ^ z)

pub zeros_and_l : (x y z : ℕ) → x % 2 ^ z ≡ 0 → bit_and x y % 2 ^ z ≡ 0
zeros_and_l x y z p = and_mod x y z ∙ ap (λ (a : ℕ). bit_and a (y % 2 ^ z)) p

pub zeros_and_r : (x y z : ℕ) → y % 2 ^ z ≡ 0 → bit_and x y % 2 ^ z ≡ 0
zeros_and_r x y z q = and_mod x y z ∙ ap (λ (b : ℕ). bit_and (x % 2 ^ z) b) q ∙ and_zero_r (x % 2 ^ z)

pub zeros_xor : (x y z : ℕ) → x % 2 ^ z ≡ 0 → y % 2 ^ z ≡ 0 → bit_xor x y % 2 ^ z ≡ 0
zeros_xor x y z p q = xor_mod x y z ∙ ap₂ bit_xor p q

pub zeros_neg : (x z : ℕ) → z ≤ 16 → x % 2 ^ z ≡ 0 → (65536 - x) % 65536 % 2 ^ z ≡ 0
zeros_neg x z h p =
    zeros_wrap (65536 - x) z h
    ∙ mod-eq-zero_of_dvd (2 ^ z)
    (dvd-sub (2 ^ z) (dvd_of_mod-eq-zero (2 ^ z) (zeros_less 65536 z 16 h refl)) (dvd_of_mod-eq-zero (2 ^ z) p))

-- a number's own trailing zeros
pub zeros_trailing : (k n : ℕ) → n % 2 ^ count_trailing_zeros k n ≡ 0
unfolding count_trailing_zeros
zeros_trailing zero n = mod-one n
zeros_trailing (suc k) n = go (n % 2) refl (zeros_trailing k (n / 2))
  where
    go : (d : ℕ) → n % 2 ≡ d → n / 2 % 2 ^ count_trailing_zeros k (n / 2) ≡ 0
        → n % 2 ^ under d (count_trailing_zeros k (n / 2)) ≡ 0
    go zero e p =
        ap (λ (k : ℕ). n % 2 ^ k) (sym (add-one _)) ∙ mod-pow-add n (count_trailing_zeros k (n / 2)) 1
        ∙ ap₂ (λ (a b : ℕ). a * 2 + b) p e
    go (suc d) e p = mod-one n
