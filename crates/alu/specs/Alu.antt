-- Results and flags, as the manual's instruction pages fix them.
use Rattle.std.specs.Prelude.{ℕ, ◌+◌, ◌-◌, ◌/◌, ◌^◌, Bool, false, cond, not, ◌&&◌, ◌||◌, List, [], ◌∷◌, ◌==◌, nat_le}
use Rattle.std.specs.Prelude.{nat_lt, slice_index_or}
use Rattle.std.specs.Bool.{beq}
use Rattle.units.specs.Address.{wrap}
use Rattle.units.specs.Field.{field}
use Rattle.alu.specs.Flags.{Flags}

-- bit 15
abbrev pub negative : ℕ → Bool
negative x = nat_le 32768 x

-- N and Z speak of a result; C and V stay
abbrev pub result_flags : ℕ → Flags → Flags
result_flags r f = record { n = negative r; z = (r == 0); c = f.c; v = f.v }

abbrev pub signs_differ : ℕ → ℕ → Bool
signs_differ a b = not (beq (negative a) (negative b))

-- a + b
abbrev pub sum_of : ℕ → ℕ → ℕ
sum_of a b = wrap (a + b)

-- C is the carry. V, signed overflow: the sum has a sign that neither operand has
abbrev pub sum_flags : ℕ → ℕ → Flags
sum_flags a b = record {
  n = negative (sum_of a b);
  z = (sum_of a b == 0);
  c = nat_le 65536 (a + b);
  v = signs_differ a (sum_of a b) && signs_differ b (sum_of a b);
}

-- a - b
abbrev pub difference_of : ℕ → ℕ → ℕ
difference_of a b = wrap (a + (65536 - b))

-- C says that nothing was borrowed. V, signed overflow: the operands' signs differ, and the difference has not a's
abbrev pub difference_flags : ℕ → ℕ → Flags
difference_flags a b = record {
  n = negative (difference_of a b);
  z = (difference_of a b == 0);
  c = nat_le b a;
  v = signs_differ a b && signs_differ a (difference_of a b);
}

-- a shifted right by k bits, its sign coming in from the left
abbrev pub shifted_of : ℕ → ℕ → ℕ
shifted_of a k = cond (negative a) (65535 - (65535 - a) / 2 ^ k) (a / 2 ^ k)

-- a after an arithmetic shift by k: 0 leaves it alone, 16 and more leave only its sign
abbrev pub shift_of : ℕ → ℕ → ℕ
shift_of a k = cond (k == 0) a (cond (nat_lt k 16) (shifted_of a k) (cond (negative a) 65535 0))

-- C after that shift: the last bit that went out; as it was where none did
abbrev pub shift_carry : ℕ → ℕ → Bool → Bool
shift_carry a k c = cond (k == 0) c (cond (nat_lt k 16) (field a (k - 1) 1 == 1) (negative a))

-- V stays
abbrev pub shift_flags : ℕ → ℕ → Flags → Flags
shift_flags a k f = let r = shift_of a k in record { n = negative r; z = (r == 0); c = shift_carry a k f.c; v = f.v }

-- the conditions of a branch by number: eq, ne, cs, cc, mi, pl, vs, vc, hi, ls, ge, lt, gt, le
abbrev pub conditions : Flags → List Bool
conditions f =
    f.z
    ∷ not f.z
    ∷ f.c
    ∷ not f.c
    ∷ f.n
    ∷ not f.n
    ∷ f.v
    ∷ not f.v
    ∷ (f.c && not f.z)
    ∷ (not f.c || f.z)
    ∷ beq f.n f.v
    ∷ not (beq f.n f.v)
    ∷ (not f.z && beq f.n f.v)
    ∷ (f.z || not (beq f.n f.v))
    ∷ []

abbrev pub condition_of : ℕ → Flags → Bool
condition_of k f = slice_index_or (conditions f) k false
