-- Each rule is sound.
use mathlib.Core.Bool.{Bool, true, false, cond}
use mathlib.Core.Path.{◌≡◌, refl, subst}
use Prim.Native.Nat.{ℕ, ◌+◌, ◌-◌, ◌%◌, ◌^◌, ◌≤◌, min, max, zero-le}
use native.Mathlib.Decide.{dec_le}
use native.Mathlib.Nat.{le_refl, mod-one, lt_of_le_of_lt}
use native.Mathlib.Omega.{arith}
use borrow.Author.Tests.{eqb-true, ltb-false, leb-true}
use lib.Bits.{bit_and, bit_xor, and_le_l, and_le_r, xor_lt}
use lib.Count.{count_leading_zeros, count_trailing_zeros, trailing_le, leading_length}
use lib.Dec.{eqb, ltb, leb}
use lib.Pow.{pow_mono, le_ones}
use Rattle.domain.specs.Value.{largest, largest_positive, interval_of, add_of, and_of, bit_length_of, ones_of, eor_of}
use Rattle.domain.specs.Value.{asr_of}
use Rattle.domain.specs.declared.value.Value.{Value}
use Rattle.domain_laws.specs.Holds.{Holds}
use Rattle.domain_laws.specs.Sound.{UnknownSound, ExactlySound, ByteSound, AddSound, AndSound, EorSound, AsrSound}
use Rattle.domain_laws.specs.Sound.{NegSound, RulesSound}
use Rattle.domain_laws.proofs.Zeros.{zeros_less, zeros_wrap, zeros_add, zeros_and_l, zeros_and_r, zeros_xor}
use Rattle.domain_laws.proofs.Zeros.{zeros_neg, zeros_trailing}

-- three numbers that a rule gives hold of x, so the value that they make does
interval_sound : {low high zeros x : ℕ} → low ≤ x → x ≤ high → x % 2 ^ zeros ≡ 0 → high ≤ largest → zeros ≤ 16
    → Holds (interval_of low high zeros) x
unfolding interval_of
interval_sound {low} {high} {zeros} {x} l h z w n =
    record { low = l; high = h; zeros = go (eqb low high) refl; word = w; count = small (eqb low high) }
  where
    go : (t : Bool) → eqb low high ≡ t → x % 2 ^ cond t (count_trailing_zeros 16 low) zeros ≡ 0
    go true e =
        let q : low ≡ high = eqb-true _ _ e in
        let r : low ≡ x = omega arith in
        subst (λ (y : ℕ). y % 2 ^ count_trailing_zeros 16 low ≡ 0) r (zeros_trailing 16 low)
    go false e = z

    small : (t : Bool) → cond t (count_trailing_zeros 16 low) zeros ≤ 16
    small true = trailing_le 16 low
    small false = n

pub unknown_sound : UnknownSound
unknown_sound x h = interval_sound zero-le (omega arith) (mod-one x) (le_refl largest) zero-le

pub exactly_sound : ExactlySound
exactly_sound x h = interval_sound (le_refl x) (le_refl x) (mod-one x) (omega arith) zero-le

pub byte_sound : ByteSound
byte_sound x h = interval_sound zero-le (omega arith) (mod-one x) (omega arith) zero-le

pub neg_sound : NegSound
neg_sound v x h =
    interval_sound zero-le (omega arith) (zeros_neg x v.zeros h.count h.zeros) (le_refl largest) h.count

pub asr_sound : AsrSound
unfolding asr_of
asr_sound v x r h positive word = go (leb v.high largest_positive) refl
  where
    go : (t : Bool) → leb v.high largest_positive ≡ t → Holds (asr_of v) r
    go true e =
        let p : v.high ≤ largest_positive = leb-true _ _ e in
        let q : r ≤ x = positive (omega arith) in
        rw e (interval_sound zero-le (omega arith) (mod-one r) h.word zero-le)
    go false e = rw e (interval_sound zero-le word (mod-one r) (le_refl largest) zero-le)

module _ (v u : Value) (x y : ℕ) (hv : Holds v x) (hu : Holds u y) where
  -- the smaller count is right for both operands
  fewer_l : x % 2 ^ min v.zeros u.zeros ≡ 0
  fewer_l = zeros_less x (min v.zeros u.zeros) v.zeros (omega arith) hv.zeros

  fewer_r : y % 2 ^ min v.zeros u.zeros ≡ 0
  fewer_r = zeros_less y (min v.zeros u.zeros) u.zeros (omega arith) hu.zeros

  fewer : min v.zeros u.zeros ≤ 16
  fewer = omega arith

  sum_zeros : (x + y) % 65536 % 2 ^ min v.zeros u.zeros ≡ 0
  sum_zeros =
      rw (zeros_wrap (x + y) (min v.zeros u.zeros) fewer)
      (zeros_add x y (min v.zeros u.zeros) fewer_l fewer_r)

  -- the larger count is that of one of the operands
  and_zeros : Dec (v.zeros ≤ u.zeros) → bit_and x y % 2 ^ max v.zeros u.zeros ≡ 0
  and_zeros (yes h) =
      let e : max v.zeros u.zeros ≡ u.zeros = omega arith in rw e (zeros_and_r x y u.zeros hu.zeros)
  and_zeros (no h) =
      let e : max v.zeros u.zeros ≡ v.zeros = omega arith in rw e (zeros_and_l x y v.zeros hv.zeros)

-- numbers of no more bits than m give one of no more bits than m, and low bits that are 0 in both are 0 in it
eor_holds : (m n x y : ℕ) → m ≤ largest → x ≤ m → y ≤ m → x % 2 ^ n ≡ 0 → y % 2 ^ n ≡ 0 → n ≤ 16
    → Holds (interval_of 0 (ones_of (bit_length_of m)) n) (bit_xor x y)
eor_holds m n x y h hx hy zx zy count =
    let s = leading_length 16 m (omega arith) in
    let e : 16 - count_leading_zeros 16 m ≡ s.0 = omega (arith, s.1) in
    interval_sound zero-le
    (rw e (le_ones s.0 (xor_lt s.0 x y (lt_of_le_of_lt hx s.2) (lt_of_le_of_lt hy s.2))))
    (zeros_xor x y n zx zy)
    (omega (arith, pow_mono {i = 16 - count_leading_zeros 16 m} {j = 16} (omega arith)))
    count

pub add_sound : AddSound
unfolding add_of
add_sound v u x y hv hu = go (ltb largest (v.high + u.high)) refl
  where
    go : (t : Bool) → ltb largest (v.high + u.high) ≡ t → Holds (add_of v u) ((x + y) % 65536)
    go true e =
        rw e (interval_sound zero-le (omega arith) (sum_zeros v u x y hv hu) (le_refl largest) (fewer v u x y hv hu))
    go false e =
        let q : v.high + u.high ≤ largest = ltb-false _ _ e in
        rw e (interval_sound (omega arith) (omega arith) (sum_zeros v u x y hv hu) q (fewer v u x y hv hu))

pub and_sound : AndSound
unfolding and_of
and_sound v u x y hv hu =
    interval_sound zero-le (omega (arith, and_le_l x y, and_le_r x y))
    (and_zeros v u x y hv hu (dec_le v.zeros u.zeros))
    (omega arith) (omega arith)

pub eor_sound : EorSound
unfolding eor_of
eor_sound v u x y hv hu =
    eor_holds _ _ x y (omega arith) (omega arith) (omega arith) (fewer_l v u x y hv hu) (fewer_r v u x y hv hu)
    (fewer v u x y hv hu)

pub rules_sound : RulesSound
rules_sound =
    record {
      unknown = unknown_sound;
      exactly = exactly_sound;
      byte = byte_sound;
      add = add_sound;
      and = and_sound;
      eor = eor_sound;
      asr = asr_sound;
      neg = neg_sound;
    }
