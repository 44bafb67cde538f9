-- How far a walk over a code has come. Only the contracts of private functions speak of it.
use Rattle.std.specs.Prelude.{List, ◌≡◌, ℕ, zero, suc, eqb, length, get_or, Result, Ok, ⊤}
use Rattle.refusals.specs.declared.check.Check.TheVariants as check
use Rattle.refusals.specs.declared.refusal.Refusal.{Refusal}
use Rattle.refusals.specs.Check.{outcome}
use Rattle.image.specs.Check.{first_no}
use Rattle.image.specs.declared.checker.Layout.{Layout}
use Rattle.targets.specs.Targets.{address_of}
use Rattle.checks.specs.State.{State}
use Rattle.checks.specs.Questions.{check14, answer_at}
use Rattle.verifier.specs.Verify.{entering, code_checks}

-- what check 14 says of the first n instructions: something only where they are the whole code
abbrev pub last_answer : List ℕ → ℕ → Result ⊤ Refusal
last_answer code zero = Ok tt
last_answer code (suc n) =
    answer_at (address_of n) (outcome check.LastHalt (check14 (eqb (suc n) (length code)) (get_or code n 0)))

-- the first n instructions pass the other checks: 14 decides
abbrev pub PassedBelow : List ℕ → Layout → ℕ → Type 0
PassedBelow code layout n = first_no (code_checks code layout n) ≡ last_answer code n

-- a walk has come to instruction n, with the state that falls into it, and all before it pass but for check 14
pub record Walked (code : List ℕ) (layout : Layout) (n : ℕ) (s : State) : Type 0 where
  pub state : s ≡ entering code n
  pub passed : PassedBelow code layout n
