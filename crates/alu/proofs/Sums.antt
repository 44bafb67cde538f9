-- The flags of sums, differences and shifts, as the code works them out.
use Rattle.std.proofs.Common.{◌≡◌, ℕ, ◌+◌, ◌-◌, ◌%◌, ◌<◌, ◌≤◌, Bool, true, false, not, ◌&&◌, eqb, leb, refl, ap, ◌∙◌}
use Rattle.std.proofs.Common.{arith, le-ltb, lt-ltb, ne_eqb, eqb-true, le-leb, leb-false, leb-true}
use mathlib.Core.Bool.{beq}
use borrow.Author.Tests.{lt-leb}
use Rattle.alu.specs.Flags.{Flags}
use Rattle.alu.specs.Alu.{negative, signs_differ, difference_of, difference_flags, shifted_of, shift_of}

-- what is held of a 16-bit result tells Z
pub zero_in : (r : ℕ) → r < 65536 → eqb (r % 65536) 0 ≡ eqb r 0
zero_in r l = let e : r % 65536 ≡ r = omega arith in rw e

-- flags that are alike
pub flags_are : {n n' z z' c c' v v' : Bool} → n ≡ n' → z ≡ z' → c ≡ c' → v ≡ v'
    → ◌≡◌ {A = Flags} (record { n = n; z = z; c = c; v = v }) (record { n = n'; z = z'; c = c'; v = v' })
flags_are p q r t = rw (p, q, r, t)

-- N and Z of a result that is known
pub result_are : (r known : ℕ) {c c' v v' : Bool} → r < 65536 → r ≡ known → c ≡ c' → v ≡ v'
    → ◌≡◌ {A = Flags}
    (record { n = negative r; z = eqb (r % 65536) 0; c = c; v = v })
    (record { n = negative known; z = eqb known 0; c = c'; v = v' })
result_are r known l is p q = flags_are (ap negative is) (zero_in r l ∙ ap (λ (x : ℕ). eqb x 0) is) p q

-- b with every bit the other way round
turned : (b : ℕ) → b < 65536 → negative (65535 - b) ≡ not (negative b)
turned b l = go (negative b) refl
  where
    go : (t : Bool) → negative b ≡ t → negative (65535 - b) ≡ not t
    go true e = let p : 32768 ≤ b = leb-true 32768 b e in lt-leb 32768 (65535 - b) (omega arith)
    go false e = let p : b < 32768 = leb-false 32768 b e in le-leb 32768 (65535 - b) (omega arith)

no_borrow : (a b : ℕ) → b < 65536 → leb 65536 (a + 65536 - b) ≡ leb b a
no_borrow a b l = go (leb b a) refl
  where
    go : (t : Bool) → leb b a ≡ t → leb 65536 (a + 65536 - b) ≡ t
    go true e = let p : b ≤ a = leb-true b a e in le-leb 65536 (a + 65536 - b) (omega arith)
    go false e = let p : a < b = leb-false b a e in lt-leb 65536 (a + 65536 - b) (omega arith)

-- a sign that neither a nor the turned b has, and one that a has not where b's differs from a's
signs_are : (p q n : Bool)
    → (not (beq p n) && not (beq (not q) n)) ≡ (not (beq p q) && not (beq p n))
signs_are true true true = refl
signs_are true true false = refl
signs_are true false true = refl
signs_are true false false = refl
signs_are false true true = refl
signs_are false true false = refl
signs_are false false true = refl
signs_are false false false = refl

pub difference_flags_are : (a b r : ℕ) → a < 65536 → b < 65536 → r < 65536 → r ≡ difference_of a b
    → ◌≡◌ {A = Flags}
    (record {
      n = negative r;
      z = eqb (r % 65536) 0;
      c = leb 65536 (a + 65536 - b);
      v = signs_differ a ((a + 65536 - b) % 65536) && signs_differ (65535 - b) ((a + 65536 - b) % 65536);
    })
    (difference_flags a b)
difference_flags_are a b r la lb lr is =
    let same : a + 65536 - b ≡ a + (65536 - b) = omega arith in
    result_are r (difference_of a b) lr is (no_borrow a b lb)
    (rw (turned b lb, same) (signs_are (negative a) (negative b) (negative (difference_of a b))))

-- the code's cases of a shift: below 16, where 0 is no case of its own, and from 16 on, where 15 bits leave the sign
unmoved : (a : ℕ) → a < 65536 → shifted_of a 0 ≡ a
unmoved a l = go (negative a) refl
  where
    go : (t : Bool) → negative a ≡ t → shifted_of a 0 ≡ a
    go true e = simp e (omega arith)
    go false e = simp e (omega arith)

pub shift_below : (a k : ℕ) → a < 65536 → k < 16 → shifted_of a k ≡ shift_of a k
shift_below a k l h = go (eqb k 0) refl
  where
    go : (t : Bool) → eqb k 0 ≡ t → shifted_of a k ≡ shift_of a k
    go true e = let z : k ≡ 0 = eqb-true k 0 e in rw z (unmoved a l)
    go false e = simp (e, lt-ltb k 16 h)

pub shift_above : (a k : ℕ) → a < 65536 → 16 ≤ k → shifted_of a 15 ≡ shift_of a k
shift_above a k l h = go (negative a) refl
  where
    go : (t : Bool) → negative a ≡ t → shifted_of a 15 ≡ shift_of a k
    go true e =
        let p : 32768 ≤ a = leb-true 32768 a e in
        simp (e, ne_eqb k 0 (λ z. omega arith), le-ltb k 16 h) (omega arith)
    go false e =
        let p : a < 32768 = leb-false 32768 a e in
        simp (e, ne_eqb k 0 (λ z. omega arith), le-ltb k 16 h) (omega arith)
