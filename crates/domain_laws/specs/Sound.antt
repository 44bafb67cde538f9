-- The rules of "Facts the judge carries" are sound: where values hold of the numbers in registers, the value
-- that a rule makes of them holds of the number that the machine makes of those. MOV needs no line here, since
-- it copies both.
use Rattle.std.specs.Prelude.{ℕ, ◌+◌, ◌-◌, ◌%◌, ◌≤◌, ◌<◌}
use Rattle.std.specs.Int.Bits.{bit_and, bit_xor}
use Rattle.domain.specs.Value.{largest, largest_positive, unknown_of, exactly_of, add_of, and_of, eor_of, asr_of}
use Rattle.domain.specs.Value.{neg_of}
use Rattle.domain.specs.Value.{byte_of}
use Rattle.domain.specs.declared.value.Value.{Value}
use Rattle.domain_laws.specs.Holds.{Holds}

-- a register of which nothing is known, and what LDR loads: any number of 16 bits
abbrev pub UnknownSound : Type 0
UnknownSound = (x : ℕ) → x < 65536 → Holds unknown_of x

-- one known number: MOV of an immediate, ADD Rd PC, and R15 when it is read
abbrev pub ExactlySound : Type 0
ExactlySound = (x : ℕ) → x < 65536 → Holds (exactly_of x) x

-- what LDRB loads: any byte
abbrev pub ByteSound : Type 0
ByteSound = (x : ℕ) → x < 256 → Holds byte_of x

-- a rule for two operands, and what the machine makes of two numbers
abbrev pub SoundFor : (ℕ → ℕ → ℕ) → (Value → Value → Value) → Type 0
SoundFor operation rule = (v u : Value) (x y : ℕ) → Holds v x → Holds u y → Holds (rule v u) (operation x y)

-- ADD: the sum wraps
abbrev pub AddSound : Type 0
AddSound = SoundFor (λ x y. (x + y) % 65536) add_of

abbrev pub AndSound : Type 0
AndSound = SoundFor bit_and and_of

abbrev pub EorSound : Type 0
EorSound = SoundFor bit_xor eor_of

-- ASR: r is x shifted by any count. Of 16 bits is all that is asked of it, and where x is not negative, that it
-- is no larger than x
abbrev pub AsrSound : Type 0
AsrSound = (v : Value) (x r : ℕ) → Holds v x → (x ≤ largest_positive → r ≤ x) → r ≤ largest → Holds (asr_of v) r

-- NEG: the difference from 0 wraps, so that of 0 is 0
abbrev pub NegSound : Type 0
NegSound = (v : Value) (x : ℕ) → Holds v x → Holds (neg_of v) ((65536 - x) % 65536)

-- all of them
pub record RulesSound : Type 0 where
  pub unknown : UnknownSound
  pub exactly : ExactlySound
  pub byte : ByteSound
  pub add : AddSound
  pub and : AndSound
  pub eor : EorSound
  pub asr : AsrSound
  pub neg : NegSound
