-- The proofs of the claims.
use mathlib.Core.Bool.{◌&&◌, and-eq-true_iff}
use mathlib.Core.Path.{◌≡◌, refl, sym, ap, ap₂, ◌∙◌}
use Prim.Native.Nat.{ℕ, ◌*◌}
use native.Mathlib.Omega.{arith}
use borrow.Author.Tests.{leb-true, le-leb, eq-eqb}
use lib.Dec.{leb}
use lib.ListN.{length}
use Rattle.units.specs.Bytes.{byte_of}
use Rattle.sums.specs.Sum.{sum_below}
use Rattle.image.specs.Format.{tabulate_from}
use Rattle.image.specs.Block.{block_of}
use Rattle.image.specs.Code.{code_at, code_length, code_of}
use Rattle.image.specs.Check.{first_no, check2, check3, check4, check5, check6, check7, check8, unused_zero, rows_below}
use Rattle.image.specs.Check.{layout_of, check_of}
use Rattle.packer.specs.Pack.{body_halfword, balance_of, image_halfword, image_of, check15, check16, blocks_needed}
use Rattle.packer.specs.Pack.{pack_of, output_as, output_of}
use Rattle.image.proofs.Answers.{passed_head, head_passed, tail_passed}
use Rattle.image.proofs.Valid.{valid_size, valid_code, valid_code_bytes, valid_fits}
use Rattle.image_laws.specs.Claims.{PackThenCheck, CheckThenPack, WorkedExample, layout}
use Rattle.image_laws.proofs.Made.{empty, accepted, code_again}
use Rattle.image_laws.proofs.Accepted.{blocks_needed_are, image_again}
use Rattle.std.specs.Prelude.{Result, Ok, ⊤}
use Rattle.refusals.specs.declared.refusal.Refusal.{Refusal}

pub pack_then_check : PackThenCheck
unfolding pack_of output_of check15
pack_then_check code w l out done =
    let sized = (and-eq-true_iff (leb 1 (length code)) (leb (length code) 15936)).0 (head_passed _ _ done) in
    let least = leb-true 1 (length code) sized.0 in
    let most = leb-true (length code) 15936 sized.1 in
    rw done (accepted code w l least most (head_passed _ _ (tail_passed _ _ done)), code_again code w l least most)

pub check_then_pack : CheckThenPack
unfolding pack_of output_of check15 check16
check_then_pack file c w l out bytes valid same =
    let said = layout c w l in
    let code = code_of file in
    let sized = valid_code file said valid in
    let size = valid_size file said valid in
    let needed = blocks_needed_are file said valid bytes in
    let passed15 = ap₂ ◌&&◌ (le-leb 1 (length code) sized.0) (le-leb (length code) 15936 sized.1) in
    let passed8 = ap (λ (n : ℕ). check8 n w l) (sym (valid_code_bytes file said valid)) ∙ valid_fits file said valid in
    let passed16 = eq-eqb (length out) (512 * blocks_needed (length code)) (omega arith) in
    let done : pack_of code w l (length out) ≡ Ok tt =
    passed_head _ _ passed15 ∙ passed_head _ _ passed8 ∙ passed_head _ _ passed16 ∙ empty in
    (done, ap (λ (a : Result ⊤ Refusal). output_as a (image_of code w l) out) done ∙ image_again file said valid bytes)

pub worked_example : WorkedExample
unfolding tabulate_from sum_below body_halfword balance_of image_halfword byte_of image_of block_of code_at code_length
    code_of
    first_no check2 check3 check4 check5 check6 check7 check8 unused_zero rows_below layout_of check_of
worked_example = (refl, refl, refl, refl)
