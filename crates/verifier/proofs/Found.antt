-- What the checks of a halfword find, and what its row of checks comes to.
use Rattle.std.specs.Prelude.{Bool, true, false, ◌≡◌, ℕ, [], ◌∷◌, Option, Some, None, Result, Ok, Err, ⊤}
use Rattle.std.proofs.Common.{refl, sym, ◌∙◌}
use Rattle.units.proofs.Cases.{clash}
use Rattle.units.specs.declared.address.ByteAddress.{ByteAddress}
use Rattle.refusals.specs.declared.refusal.Refusal.{Refusal}
use Rattle.refusals.specs.declared.check.Check.{Check}
use Rattle.refusals.specs.declared.check.Check.TheVariants as check
use Rattle.refusals.specs.Check.{outcome}
use Rattle.isa.specs.declared.instruction.Instruction.{Instruction}
use Rattle.image.specs.Check.{first_no}
use Rattle.image.specs.declared.checker.Layout.{Layout}
use Rattle.isa.specs.Access.{access_of}
use Rattle.checks.specs.State.{State, value}
use Rattle.checks.specs.Questions.{check10, check11, check12, check13, check14, at_address, halfword_checks, answer_at}
use Rattle.verifier.specs.Found.{first_of, found_in}

-- check 14 where the others have passed
abbrev with_last : Result ⊤ Check → Bool → Result ⊤ Check
with_last (Ok passed) t14 = outcome check.LastHalt t14
with_last (Err failed) t14 = Err failed

first_answer : (a : ByteAddress) (t10 t11 t12 t13 t14 : Bool)
    → answer_at a (with_last (first_of t10 t11 t12 t13) t14)
    ≡ first_no
    (at_address a check.Defined true ∷ at_address a check.Access t10 ∷ at_address a check.Alignment t11
    ∷ at_address a check.PcWrite t12 ∷ at_address a check.Target t13 ∷ at_address a check.LastHalt t14 ∷ [])
unfolding first_no
first_answer a true true true true true = refl
first_answer a true true true true false = refl
first_answer a true true true false t14 = refl
first_answer a true true false t13 t14 = refl
first_answer a true false t12 t13 t14 = refl
first_answer a false t11 t12 t13 t14 = refl

module _ (s : State) (layout : Layout) (a : ByteAddress) (is_last : Bool) (h : ℕ) where
  told : (d : Option Instruction) → answer_at a (with_last (found_in s layout a d) (check14 is_last h))
      ≡ first_no (halfword_checks s layout a is_last h d)
  unfolding first_no
  told None = refl
  told (Some i) =
      first_answer a (check10 (value s (access_of i).base) layout (access_of i))
      (check11 (value s (access_of i).base) (access_of i)) (check12 i) (check13 layout a i) (check14 is_last h)

  -- a check that fails is the answer
  pub told_first : (d : Option Instruction) (r : Refusal) → answer_at a (found_in s layout a d) ≡ Err r
      → Err r ≡ first_no (halfword_checks s layout a is_last h d)
  told_first d r e = sym (go (found_in s layout a d) e) ∙ told d
    where
      go : (f : Result ⊤ Check) → answer_at a f ≡ Err r → answer_at a (with_last f (check14 is_last h)) ≡ Err r
      go (Ok passed) e = clash (cc)
      go (Err failed) e = e

  -- else check 14 decides
  pub told_last : (d : Option Instruction) → answer_at a (found_in s layout a d) ≡ Ok tt
      → answer_at a (outcome check.LastHalt (check14 is_last h)) ≡ first_no (halfword_checks s layout a is_last h d)
  told_last d e = sym (go (found_in s layout a d) e) ∙ told d
    where
      go : (f : Result ⊤ Check) → answer_at a f ≡ Ok tt
          → answer_at a (with_last f (check14 is_last h)) ≡ answer_at a (outcome check.LastHalt (check14 is_last h))
      go (Ok passed) e = refl
      go (Err failed) e = clash (cc)
