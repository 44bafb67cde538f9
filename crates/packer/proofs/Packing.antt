-- What it means that the packer's checks pass.
use Rattle.std.proofs.Common.{◌≡◌, ℕ, ◌*◌, ◌≤◌, List, length, sym, ◌∙◌, eqb-true, leb, leb-true}
use mathlib.Core.Bool.{and-eq-true_iff}
use Rattle.image.specs.Format.{block_bytes, most_code}
use Rattle.image.specs.Check.{first_no}
use Rattle.image.proofs.Answers.{head_passed, tail_passed}
use Rattle.packer.specs.Pack.{blocks_needed, check15, check16, pack_checks}
use Rattle.refusals.specs.declared.refusal.Refusal.{Refusal}
use Rattle.std.specs.Prelude.{Result, Ok, ⊤}

-- what the checks came to is a, and they passed: the code fits an image, and the output is as long as the image
pub pack_sizes : (code : List ℕ) (w l size : ℕ) (a : Result ⊤ Refusal) → a ≡ first_no (pack_checks code w l size)
    → a ≡ Ok tt → (length code ≤ most_code) × (size ≡ block_bytes * blocks_needed (length code))
unfolding check15 check16
pack_sizes code w l size a is e =
    let row = sym is ∙ e in (
      leb-true _ _ ((and-eq-true_iff (leb 1 (length code)) (leb (length code) 15936)).0 (head_passed _ _ row)).1,
      eqb-true _ _ (head_passed _ _ (tail_passed _ _ (tail_passed _ _ row))),
    )
