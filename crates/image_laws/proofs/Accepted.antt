-- An accepted file: each of its bytes is the image's of its code and window.
use mathlib.Core.Bool.{Bool, true, false, and-eq-true_iff}
use mathlib.Core.Logic.{⊎_elim}
use mathlib.Core.Path.{◌≡◌, sym, ap, ◌∙◌}
use mathlib.Core.List.{List}
use Prim.Native.Nat.{ℕ, zero, suc, ◌+◌, ◌-◌, ◌*◌, ◌/◌, ◌%◌, ◌≤◌, ◌<◌}
use native.Mathlib.Nat.{add_comm, eq-or-lt_of_le}
use native.Mathlib.Omega.{arith}
use borrow.Author.Tests.{ne_eqb, eqb-true, lt-ltb, le-ltb}
use lib.Dec.{eqb}
use lib.ListN.{length, get_or, get_or-eq_default}
use lib.Seq.{ext_get_or}
use Rattle.units.proofs.Halves.{low_byte, high_byte}
use Rattle.units.specs.Bytes.{halfword_at, byte_of}
use Rattle.units.proofs.Cases.{clash, lt_or_ge}
use Rattle.sums.specs.Sum.{sum_below}
use Rattle.image.specs.Format.{block_bytes, block_halfwords, block_code, header_halfwords}
use Rattle.image.specs.Block.{blocks_in, block_of, halfword, used_of, code_halfword, block_sum_of}
use Rattle.image.specs.Code.{code_at, code_length, code_of}
use Rattle.image.specs.Check.{first_no, check3, check4, check5, check6, check7, used_right, unused_zero, block_checks}
use Rattle.image.specs.Check.{layout_of, check_of}
use Rattle.packer.specs.Pack.{blocks_needed, used_in, header_of, body_halfword, balance_of, image_halfword, image_byte}
use Rattle.packer.specs.Pack.{image_of}
use Rattle.image.specs.declared.checker.Layout.{Layout}
use Rattle.sums.proofs.Sums.{sum_same}
use Rattle.image.proofs.Answers.{head_passed, tail_passed}
use Rattle.image.proofs.Verdicts.{passed6, used_right_is}
use Rattle.image.proofs.Blocks.{block_halfword}
use Rattle.packer.proofs.Images.{image_length, image_at, balance_is, balance_at, body_at}
use Rattle.image.proofs.Valid.{code_length_is, code_halfword_is, valid_layout, valid_size, valid_block, last_used}
use Rattle.image_laws.specs.Claims.{Bytes}
use Rattle.image_laws.proofs.Unused.{unused_each}
use Rattle.image_laws.proofs.Places.{half_less, even_place, odd_place}
use Rattle.std.specs.Prelude.{Ok}

-- a count that is right for its place: the last block's, or a full block's
used_full : (is_last : Bool) (used : ℕ) → is_last ≡ false → used_right is_last used ≡ true → used ≡ block_code
used_full false used q e = eqb-true used 249 e
used_full true used q e = clash (cc)

module _ (file : List ℕ) (layout : Layout) (valid : check_of file ≡ Ok layout) (bytes : Bytes file) where
  -- its code and its window
  abbrev code : List ℕ
  code = code_of file

  abbrev w : ℕ
  w = layout.window_start

  abbrev l : ℕ
  l = layout.window_length

  pub blocks_needed_are : blocks_needed (length (code_of file)) ≡ blocks_in file
  unfolding code_length
  blocks_needed_are =
      let size = valid_size file layout valid in
      let used = last_used file layout valid in
      let n = code_length_is file in
      omega arith

  module _ (k : ℕ) (hk : k < blocks_in file) where
    abbrev block : List ℕ
    block = block_of file k

    abbrev used : ℕ
    used = used_of (block_of file k)

    row : first_no (block_checks file k) ≡ Ok tt
    row = valid_block file layout valid k hk

    says_mark : halfword block 0 ≡ 0xD0C1
    unfolding check3
    says_mark = eqb-true _ _ (head_passed _ _ row)

    adds_up : block_sum_of block ≡ 0
    unfolding check4
    adds_up = eqb-true _ _ (head_passed _ _ (tail_passed _ _ row))

    -- check 5
    says_number : (halfword block 1 ≡ k) × (halfword block 5 ≡ blocks_in file)
    unfolding check5
    says_number =
        let both = simp and-eq-true_iff at (head_passed _ _ (tail_passed _ _ (tail_passed _ _ row))) in
        (eqb-true _ _ both.0, eqb-true _ _ both.1)

    unused_zero_is : unused_zero block used (block_code - used) ≡ true
    unfolding check6
    unused_zero_is = ((and-eq-true_iff (used_right (eqb (k + 1) (blocks_in file)) used) _).0 (passed6 file k row)).1

    passed7 : check7 (block_of file 0) block ≡ true
    passed7 = head_passed _ _ (tail_passed _ _ (tail_passed _ _ (tail_passed _ _ (tail_passed _ _ row))))

    says_window : (halfword block 3 ≡ w) × (halfword block 4 ≡ l)
    unfolding check7 layout_of
    says_window =
        let both = simp and-eq-true_iff at passed7 in
        let said = sym (valid_layout file layout valid) in (
          eqb-true _ _ both.0 ∙ ap (λ (y : Layout). y.window_start) said,
          eqb-true _ _ both.1 ∙ ap (λ (y : Layout). y.window_length) said,
        )

    -- its used count is what the code leaves for it
    says_used : halfword block 2 ≡ used_in (length code) k
    unfolding code_length
    says_used =
        let size = valid_size file layout valid in
        let used_last = last_used file layout valid in
        let n = code_length_is file in
        ⊎_elim
        (λ q.
        let last : k ≡ blocks_in file - 1 = omega arith in
        let same = ap (λ (b : ℕ). used_of (block_of file b)) last in
        omega arith)
        (λ lt.
        let before = ne_eqb (k + 1) (blocks_in file) (λ q. omega arith) in
        let full = used_full (eqb (k + 1) (blocks_in file)) used before (used_right_is file k row) in
        omega arith)
        (eq-or-lt_of_le {n = k + 1} {m = blocks_in file} (omega arith))

    -- its code halfwords are the code's, and 0 past the code's end
    code_inside : (i : ℕ) → i < block_code → block_code * k + i < length code
        → code_halfword block i ≡ get_or code (block_code * k + i) 0
    unfolding code_at
    code_inside i hi inside =
        let place : 512 * k + 2 * (6 + i) ≡ (249 * k + i) / 249 * 512 + 12 + 2 * ((249 * k + i) % 249) = omega arith in
        block_halfword file k (6 + i) (omega arith)
        ∙ ap (halfword_at file) place
        ∙ sym (code_halfword_is file (249 * k + i) inside)

    code_past : (i : ℕ) → i < block_code → length code ≤ block_code * k + i
        → code_halfword block i ≡ get_or code (block_code * k + i) 0
    code_past i hi past =
        let count = says_used in
        let split : used + (i - used) ≡ i = omega arith in
        ap (code_halfword block) (sym split)
        ∙ unused_each block used (249 - used) (i - used) unused_zero_is (omega arith)
        ∙ sym (get_or-eq_default code 0 past)

    says_code : (i : ℕ) → i < block_code → code_halfword block i ≡ get_or code (block_code * k + i) 0
    says_code i hi =
        ⊎_elim
        (λ inside. code_inside i hi inside)
        (λ past. code_past i hi past)
        (lt_or_ge (249 * k + i) (length code))

    -- all halfwords but the last, and the last
    header_in : (j : ℕ) → j < header_halfwords → halfword block j ≡ get_or (header_of code w l k) j 0
    header_in zero h = says_mark
    header_in (suc zero) h = says_number.0
    header_in (suc (suc zero)) h = says_used
    header_in (suc (suc (suc zero))) h = says_window.0
    header_in (suc (suc (suc (suc zero)))) h = says_window.1
    header_in (suc (suc (suc (suc (suc zero))))) h = says_number.1 ∙ sym blocks_needed_are
    header_in (suc (suc (suc (suc (suc (suc j)))))) h = absurd (omega arith)

    body_in : (j : ℕ) → j < block_halfwords - 1 → halfword block j ≡ body_halfword code w l k j
    unfolding body_halfword
    body_in j hj =
        ⊎_elim
        (λ lt. simp (lt-ltb j 6 lt) (header_in j lt))
        (λ ge.
        let past : 6 + (j - 6) ≡ j = omega arith in
        let inside : j - 6 < 249 = omega arith in
        simp (le-ltb j 6 ge) (ap (halfword block) (sym past) ∙ says_code (j - 6) inside))
        (lt_or_ge j 6)

    last_in : halfword block 255 ≡ balance_of code w l k
    unfolding sum_below
    last_in =
        let at_last = 512 * k + 2 * 255 in
        let low = bytes at_last in
        let high = bytes (at_last + 1) in
        let less : halfword block 255 < 65536 = rw (block_halfword file k 255 (omega arith)) (omega arith) in
        let before = sum_same (halfword block) (body_halfword code w l k) 255 body_in in
        let turned = add_comm (halfword block 255) (sum_below (halfword block) 255) in
        balance_is code w l k _ _ before less (ap (λ (x : ℕ). x % 65536) turned ∙ adds_up)

    halfword_in : (j : ℕ) → j < block_halfwords → halfword block j ≡ image_halfword code w l k j
    halfword_in j hj =
        ⊎_elim
        (λ lt. body_in j lt ∙ sym (body_at code w l k j lt))
        (λ ge.
        let last : j ≡ 255 = omega arith in
        ap (halfword block) last ∙ last_in ∙ sym (balance_at code w l k) ∙ ap (image_halfword code w l k) (sym last))
        (lt_or_ge j 255)

    -- and so its bytes
    bytes_in : (j : ℕ) → j < block_halfwords
        → (get_or file (block_bytes * k + 2 * j) 0 ≡ image_halfword code w l k j % 256)
        × (get_or file (block_bytes * k + 2 * j + 1) 0 ≡ image_halfword code w l k j / 256)
    bytes_in j hj =
        let h = sym (block_halfword file k j hj) ∙ halfword_in j hj in
        let low = bytes (512 * k + 2 * j) in (
          sym (low_byte (get_or file (512 * k + 2 * j) 0) (get_or file (512 * k + 2 * j + 1) 0) low)
              ∙ ap (λ (x : ℕ). x % 256) h,
          sym (high_byte (get_or file (512 * k + 2 * j) 0) (get_or file (512 * k + 2 * j + 1) 0) low)
              ∙ ap (λ (x : ℕ). x / 256) h,
        )

  -- byte p, by its block and its halfword, and which of the two bytes it is
  byte_again : (p : ℕ) → p < length file → image_byte code w l p ≡ get_or file p 0
  unfolding byte_of
  byte_again p hp =
      let size = valid_size file layout valid in
      let both = bytes_in (p / 512) (omega arith) (p % 512 / 2) (half_less (p % 512) (omega arith)) in
      let made = image_halfword code w l (p / 512) (p % 512 / 2) in
      ⊎_elim
      (λ even.
      let first : p % 2 ≡ 0 = omega arith in
      let place = even_place p (p / 512) (p % 512) (omega arith) first in
      ap (byte_of made) first ∙ sym both.0 ∙ ap (λ (x : ℕ). get_or file x 0) place)
      (λ odd.
      let second : p % 2 ≡ 1 = omega arith in
      let place = odd_place p (p / 512) (p % 512) (omega arith) second in
      ap (byte_of made) second ∙ sym both.1 ∙ ap (λ (x : ℕ). get_or file x 0) place)
      (lt_or_ge (p % 2) 1)

  pub image_again : image_of (code_of file) layout.window_start layout.window_length ≡ file
  image_again =
      let size = valid_size file layout valid in
      let needed = blocks_needed_are in
      let long = image_length code w l in
      ext_get_or 0 (image_of code w l) file (omega arith)
      (λ p hp. image_at code w l p (omega arith) ∙ byte_again p (omega arith))
