-- The verifier's walk over a code, and its verdict on a file ("Facts the judge carries", "The questions").
use Rattle.std.specs.Prelude.{cond, List, ℕ, zero, suc, eqb, length, get_or, Result, Ok, Err, ⊤}
use Rattle.image.specs.Check.{Asked, first_no, rows_below, check_of}
use Rattle.image.specs.Code.{code_of}
use Rattle.image.specs.declared.checker.Layout.{Layout}
use Rattle.targets.specs.Targets.{address_of, decoded_at, targeted}
use Rattle.checks.specs.State.{State, unknown_state, standing_at, after_of}
use Rattle.checks.specs.Questions.{halfword_checks}
use Rattle.refusals.specs.declared.refusal.Refusal.{Refusal}

-- the state in which instruction i is checked, from the state that falls into it: at a branch target nothing is
-- known but the address
abbrev pub arriving : List ℕ → ℕ → State → State
arriving code i s = standing_at (address_of i) (cond (targeted code i) unknown_state s)

-- the state that falls into instruction i: nothing is known at address 0; after that, what the instruction
-- above leaves, be it a branch or not
unfoldable pub entering : List ℕ → ℕ → State
entering code zero = unknown_state
entering code (suc i) = after_of (address_of i) (decoded_at code i) (arriving code i (entering code i))

-- the state before instruction i: a function of the code and i, whatever a run does
abbrev pub values_at : List ℕ → ℕ → State
values_at code i = arriving code i (entering code i)

-- what is put to instruction i of a code with a layout
abbrev pub checks_at : List ℕ → Layout → ℕ → List Asked
checks_at code layout i =
    halfword_checks (values_at code i) layout (address_of i) (eqb (suc i) (length code)) (get_or code i 0)
    (decoded_at code i)

-- what is put to the first n instructions, lowest address first
abbrev pub code_checks : List ℕ → Layout → ℕ → List Asked
code_checks code layout = rows_below (checks_at code layout)

abbrev pub verdict_as : Layout → Result ⊤ Refusal → Result Layout Refusal
verdict_as layout (Ok tt) = Ok layout
verdict_as layout (Err r) = Err r

-- checks 9 to 14 of a code with a layout; a pass answers the layout: c, w and l
unfoldable pub verify_code : List ℕ → Layout → Result Layout Refusal
verify_code code layout = verdict_as layout (first_no (code_checks code layout (length code)))

abbrev pub verify_checked : List ℕ → Result Layout Refusal → Result Layout Refusal
verify_checked file (Ok layout) = verify_code (code_of file) layout
verify_checked file (Err r) = Err r

-- checks 2 to 8 of a file, then 9 to 14 of its code with the layout that those gave
unfoldable pub verify_of : List ℕ → Result Layout Refusal
verify_of file = verify_checked file (check_of file)
