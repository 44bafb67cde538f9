-- What the verifier knows of a register ("Facts the judge carries"): the least and the largest number that it
-- can be, and how many of its low bits are known to be 0.
use Rattle.std.specs.Prelude.{cond, ℕ, ◌+◌, ◌-◌, ◌^◌, min, max, eqb, ltb, leb}
use Rattle.std.specs.Int.Count.{count_leading_zeros, count_trailing_zeros}
use Rattle.domain.specs.declared.value.Value.{Value}

-- the largest number of 16 bits, and the largest whose top bit is 0
abbrev pub largest : ℕ
largest = 65535

abbrev pub largest_positive : ℕ
largest_positive = 32767

-- the value of the three numbers that a rule gives. Every rule below ends here: if only one number is left,
-- that number's trailing zeros are the count (16 for 0), whatever the rule's own count is
unfoldable pub interval_of : ℕ → ℕ → ℕ → Value
interval_of low high zeros = record
    { low = low; high = high; zeros = cond (eqb low high) (count_trailing_zeros 16 low) zeros }

-- nothing is known
abbrev pub unknown_of : Value
unknown_of = interval_of 0 largest 0

-- one known number: MOV of an immediate, ADD Rd PC, and R15 when it is read
abbrev pub exactly_of : ℕ → Value
exactly_of x = interval_of x x 0

-- ADD. Where the sum of the upper bounds does not fit, every number is possible. (The lower sum would be cut
-- only where a lower bound is above its upper bound. No value of a walk has such bounds: `LowBelowHigh` and
-- `AddsPlainly` of verifier_laws.)
unfoldable pub add_of : Value → Value → Value
add_of a b =
    cond (ltb largest (a.high + b.high))
    (interval_of 0 largest (min a.zeros b.zeros))
    (interval_of (min (a.low + b.low) largest) (a.high + b.high) (min a.zeros b.zeros))

-- AND: the larger count, since a 0 in either operand is a 0 in the result
unfoldable pub and_of : Value → Value → Value
and_of a b = interval_of 0 (min a.high b.high) (max a.zeros b.zeros)

-- how many bits a number has without its leading zeros, and the largest number of so many bits
abbrev pub bit_length_of : ℕ → ℕ
bit_length_of x = 16 - count_leading_zeros 16 x

abbrev pub ones_of : ℕ → ℕ
ones_of k = 2 ^ k - 1

-- EOR
unfoldable pub eor_of : Value → Value → Value
eor_of a b = interval_of 0 (ones_of (bit_length_of (max a.high b.high))) (min a.zeros b.zeros)

-- ASR, by any count: a is what is shifted
unfoldable pub asr_of : Value → Value
asr_of a = cond (leb a.high largest_positive) (interval_of 0 a.high 0) (interval_of 0 largest 0)

-- NEG
abbrev pub neg_of : Value → Value
neg_of a = interval_of 0 largest a.zeros

-- LDRB
abbrev pub byte_of : Value
byte_of = interval_of 0 255 0
