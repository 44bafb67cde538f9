-- Why a code is not listed ("Change 4"): a sentence for each refusal of the lister.
use Rattle.std.specs.Prelude.{true, false, List, ◌⊎◌, ◌≡◌, ℕ, ◌<◌, ◌≤◌, length, Some, None}
use Rattle.refusals.specs.declared.check.Check.TheVariants as check
use Rattle.refusals.specs.Refusal.{refusal, refusal_at}
use Rattle.refusals.specs.declared.refusal.Refusal.{Refusal}
use Rattle.isa.specs.declared.instruction.Instruction.{Instruction}
use Rattle.image.specs.Format.{most_code}
use Rattle.targets.specs.Targets.{address_of, decoded_at}
use Rattle.checks.specs.Questions.{check13}
use Rattle.lister.specs.List.{layout_for, listing_of}

-- instruction i is defined, and is no branch out of the code: the judge's checks 9 and 13
pub record Listable (code : List ℕ) (i : ℕ) : Type 0 where
  pub instruction : Instruction
  pub passes9 : decoded_at code i ≡ Some instruction
  pub passes13 : check13 (layout_for code) (address_of i) instruction ≡ true

-- a code that fits an image, with all instructions before instruction n listable
pub record ListableTo (code : List ℕ) (n : ℕ) : Type 0 where
  pub some_code : 1 ≤ length code
  pub fits_image : length code ≤ most_code
  pub before : (i : ℕ) → i < n → Listable code i

-- a refusal of a code, for an output of so many bytes
pub data ListReason (code : List ℕ) (size : ℕ) : Refusal → Type 0 where
  -- 15: it hasn't 1 to 15,936 instructions
  wrong_count : (length code ≡ 0) ⊎ (most_code < length code) → ListReason code size (refusal check.CodeLength)
  -- 9: the first instruction that isn't listable is undefined
  undefined : (n : ℕ) → n < length code → ListableTo code n → decoded_at code n ≡ None
      → ListReason code size (refusal_at check.Defined (address_of n))
  -- 13: it is a branch out of the code
  outside : (n : ℕ) (x : Instruction) → n < length code → ListableTo code n → decoded_at code n ≡ Some x
      → check13 (layout_for code) (address_of n) x ≡ false
      → ListReason code size (refusal_at check.Target (address_of n))
  -- 16: all are listable, and the output is shorter than the listing
  too_short : ListableTo code (length code) → size < length (listing_of code)
      → ListReason code size (refusal check.OutputLength)
