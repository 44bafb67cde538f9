-- What the packer makes: every check accepts it, and its code is the code that was packed.
use mathlib.Core.Bool.{true, ◌&&◌}
use mathlib.Core.Logic.{⊎_elim}
use mathlib.Core.Path.{◌≡◌, refl, sym, ap, ap₂, ◌∙◌}
use mathlib.Core.List.{List, []}
use Prim.Native.Nat.{ℕ, ◌+◌, ◌-◌, ◌*◌, ◌/◌, ◌%◌, ◌≤◌, ◌<◌}
use native.Mathlib.Nat.{eq-or-lt_of_le}
use native.Mathlib.Omega.{arith}
use borrow.Author.Tests.{eq-eqb, ne_eqb, le-leb}
use lib.Dec.{eqb}
use lib.ListN.{length, get_or, get_or-eq_default}
use lib.Seq.{ext_get_or}
use Rattle.units.proofs.Halves.{rejoined}
use Rattle.units.specs.Bytes.{halfword_at}
use Rattle.units.specs.Address.{wrap}
use Rattle.sums.specs.Sum.{sum_below}
use Rattle.image.specs.Format.{block_halfwords, block_code, header_halfwords, most_code}
use Rattle.image.specs.Block.{blocks_in, block_of, halfword, used_of, code_halfword, block_sum_of}
use Rattle.image.specs.Code.{code_at, code_length, code_of}
use Rattle.image.specs.Check.{first_no, check2, check3, check4, check5, check6, check7, check8, used_right, unused_zero}
use Rattle.image.specs.Check.{block_checks, layout_of, checked_as, check_of}
use Rattle.packer.specs.Pack.{blocks_needed, used_in, body_halfword, balance_of, image_halfword, image_of}
use Rattle.sums.proofs.Sums.{sum_less, sum_same, sum_back}
use Rattle.image.proofs.Blocks.{block_halfword}
use Rattle.image.proofs.Answers.{passed_head, all_passed}
use Rattle.image.proofs.Verdicts.{rest8}
use Rattle.packer.proofs.Images.{image_length, image_low, image_high, body_code, body_at, balance_at}
use Rattle.image.proofs.Valid.{code_length_is, code_halfword_is}
use Rattle.image_laws.specs.Claims.{layout}
use Rattle.image_laws.proofs.Unused.{unused_all}
use Rattle.std.specs.Prelude.{Ok}

-- the last block of n halfwords ends the code, and a block before it is full
used_right_is : (n k : ℕ) → k < blocks_needed n → used_right (eqb (k + 1) (blocks_needed n)) (used_in n k) ≡ true
used_right_is n k h =
    ⊎_elim
    (λ q.
    rw (eq-eqb (k + 1) (blocks_needed n) q)
    (ap₂ ◌&&◌ (le-leb 1 (used_in n k) (omega arith)) (le-leb (used_in n k) 249 (omega arith))))
    (λ lt. rw (ne_eqb (k + 1) (blocks_needed n) (λ q. omega arith)) (eq-eqb (used_in n k) 249 (omega arith)))
    (eq-or-lt_of_le {n = k + 1} {m = blocks_needed n} (omega arith))

pub empty : first_no [] ≡ Ok tt
unfolding first_no
empty = refl

module _ (code : List ℕ) (w l : ℕ) where
  abbrev image : List ℕ
  image = image_of code w l

  blocks_in_are : blocks_in image ≡ blocks_needed (length code)
  blocks_in_are = let size = image_length code w l in omega arith

  -- the halfwords of a block are those of the image
  module _ (k : ℕ) (hk : k < blocks_needed (length code)) where
    abbrev block : List ℕ
    block = block_of (image_of code w l) k

    abbrev used : ℕ
    used = used_in (length code) k

    block_at : (j : ℕ) → j < block_halfwords → halfword block j ≡ image_halfword code w l k j
    block_at j hj =
        block_halfword image k j hj
        ∙ rejoined (image_halfword code w l k j) _ _ (image_low code w l k j hk hj) (image_high code w l k j hk hj)

    header_at : (j : ℕ) → j < header_halfwords → halfword block j ≡ body_halfword code w l k j
    header_at j hj = block_at j (omega arith) ∙ body_at code w l k j (omega arith)

    code_at_is : (i : ℕ) → i < block_code → code_halfword block i ≡ get_or code (block_code * k + i) 0
    code_at_is i hi = block_at (6 + i) (omega arith) ∙ body_at code w l k (6 + i) (omega arith) ∙ body_code code w l k i

    sum_at : block_sum_of block ≡ 0
    unfolding sum_below balance_of
    sum_at =
        ap₂ (λ (s h : ℕ). wrap (s + h))
        (sum_same (halfword block) (body_halfword code w l k) 255
        (λ j hj. block_at j (omega arith) ∙ body_at code w l k j hj))
        (block_at 255 (omega arith) ∙ balance_at code w l k)
        ∙ sum_back (sum_below (body_halfword code w l k) 255) (sum_less (body_halfword code w l k) 255)

    unused_at : unused_zero block used (block_code - used) ≡ true
    unused_at =
        unused_all block used (249 - used)
        (λ m hm. code_at_is (used + m) (omega arith) ∙ get_or-eq_default code 0 (omega arith))

    -- each check of the block
    passes3 : check3 block ≡ true
    unfolding check3 body_halfword
    passes3 = eq-eqb _ _ (header_at 0 (omega arith))

    passes4 : check4 block ≡ true
    unfolding check4
    passes4 = eq-eqb _ _ sum_at

    passes5 : check5 k (blocks_in image) block ≡ true
    unfolding check5 body_halfword
    passes5 = ap₂ ◌&&◌ (eq-eqb _ _ (header_at 1 (omega arith)))
        (eq-eqb _ _ (header_at 5 (omega arith) ∙ sym blocks_in_are))

    used_at : used_of block ≡ used
    unfolding body_halfword
    used_at = header_at 2 (omega arith)

    passes6 : check6 (eqb (k + 1) (blocks_in image)) block ≡ true
    unfolding check6
    passes6 = rw (used_at, blocks_in_are) (ap₂ ◌&&◌ (used_right_is (length code) k hk) unused_at)

    start_at : halfword block 3 ≡ w
    unfolding body_halfword
    start_at = header_at 3 (omega arith)

    window_at : halfword block 4 ≡ l
    unfolding body_halfword
    window_at = header_at 4 (omega arith)

  halfword_again : (i : ℕ) → i < length code → code_at image i ≡ get_or code i 0
  unfolding code_at
  halfword_again i hi =
      let place : i / 249 * 512 + 12 + 2 * (i % 249) ≡ 512 * (i / 249) + 2 * (6 + i % 249) = omega arith in
      let whole_again : 249 * (i / 249) + i % 249 ≡ i = omega arith in
      ap (halfword_at image) place
      ∙ sym (block_halfword image (i / 249) (6 + i % 249) (omega arith))
      ∙ code_at_is (i / 249) (omega arith) (i % 249) (omega arith)
      ∙ ap (λ (x : ℕ). get_or code x 0) whole_again

  module _ (least : 1 ≤ length code) (most : length code ≤ most_code) where
    -- the window of block k is that of block 0
    passes7 : (k : ℕ) → k < blocks_needed (length code) → check7 (block_of image 0) (block_of image k) ≡ true
    unfolding check7
    passes7 k hk =
        ap₂ ◌&&◌
        (eq-eqb _ _ (start_at k hk ∙ sym (start_at 0 (omega arith))))
        (eq-eqb _ _ (window_at k hk ∙ sym (window_at 0 (omega arith))))

    block_passes : (k : ℕ) → k < blocks_needed (length code) → first_no (block_checks image k) ≡ Ok tt
    block_passes k hk =
        passed_head _ _ (passes3 k hk)
        ∙ passed_head _ _ (passes4 k hk)
        ∙ passed_head _ _ (passes5 k hk)
        ∙ passed_head _ _ (passes6 k hk)
        ∙ passed_head _ _ (passes7 k hk)
        ∙ empty

    length_again : code_length image ≡ length code
    unfolding code_length
    length_again =
        let last = blocks_needed (length code) - 1 in
        rw blocks_in_are (ap (λ (u : ℕ). 249 * last + u) (used_at last (omega arith)) ∙ omega arith)

    pub code_again : code_of (image_of code w l) ≡ code
    unfolding code_at
    code_again =
        let size : length (code_of image) ≡ length code = code_length_is image ∙ length_again in
        ext_get_or 0 (code_of image) code size (λ i hi. code_halfword_is image i hi ∙ halfword_again i (omega arith))

    passes2 : check2 image ≡ true
    unfolding check2
    passes2 =
        let size = image_length code w l in
        ap₂ ◌&&◌
        (ap₂ ◌&&◌ (eq-eqb (length image % 512) 0 (omega arith)) (le-leb 512 (length image) (omega arith)))
        (le-leb (length image) 32768 (omega arith))

    layout_again : layout_of image ≡ layout (2 * length code) w l
    unfolding layout_of
    layout_again = simp (length_again, start_at 0 (omega arith), window_at 0 (omega arith))

    pub accepted : check8 (2 * length code) w l ≡ true
        → check_of (image_of code w l) ≡ Ok (layout (2 * length code) w l)
    accepted fits =
        let said = layout (2 * length code) w l in
        let blocks = all_passed (block_checks image) (blocks_in image)
        (λ k h. block_passes k (rw blocks_in_are at h)) in
        let last = ap (checked_as said) (passed_head _ [] fits ∙ empty) in
        sym (rest8 image passes2 _ said _ (sym blocks) refl (sym layout_again) (sym last))
