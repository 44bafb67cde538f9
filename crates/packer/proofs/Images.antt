-- The image of a code, byte by byte.
use Rattle.std.proofs.Common.{◌≡◌, ℕ, ◌+◌, ◌-◌, ◌*◌, ◌/◌, ◌%◌, ◌<◌, ◌≤◌, List, ◌++◌, length, get_or, take, drop, sym}
use Rattle.std.proofs.Common.{refl, ap}
use Rattle.std.proofs.Common.{◌∙◌, ap₂, add-one, append_assoc, length-append, arith, le-ltb, lt-ltb}
use lib.ListN.{get_or-eq_default}
use Rattle.units.specs.Bytes.{byte_of, with_halfword}
use Rattle.units.specs.Address.{wrap}
use Rattle.sums.specs.Sum.{added_to, sum_below}
use Rattle.image.specs.Format.{block_bytes, block_halfwords, block_code, header_halfwords}
use Rattle.packer.specs.Pack.{blocks_needed, header_of, body_halfword, balance_of, image_halfword, image_byte, image_of}
use Rattle.packer.specs.Writing.{Written, code_end}
use Rattle.image.specs.Block.{block_of}
use Rattle.image.proofs.Blocks.{byte_at, block_length}
use borrow.Rule.Slice.PartMut.{put_mid, post_of}
use lib.Seq.{length-take-le, take-append_seam, take-add}
use Rattle.sums.proofs.Sums.{sum_less, back_unique}
use Rattle.image.proofs.Lists.{length_tabulate, tabulate_at}
use Rattle.packer.proofs.Overwriting.{two_more, same_all}

module _ (code : List ℕ) (w l : ℕ) where
  pub image_length : length (image_of code w l) ≡ block_bytes * blocks_needed (length code)
  unfolding image_of
  image_length = length_tabulate (image_byte code w l) 0 (512 * blocks_needed (length code))

  pub image_at : (p : ℕ) → p < block_bytes * blocks_needed (length code)
      → get_or (image_of code w l) p 0 ≡ image_byte code w l p
  unfolding image_of
  image_at p h = tabulate_at (image_byte code w l) (512 * blocks_needed (length code)) p h

  same_byte : {k k' j j' b b' : ℕ} → k ≡ k' → j ≡ j' → b ≡ b'
      → byte_of (image_halfword code w l k j) b ≡ byte_of (image_halfword code w l k' j') b'
  same_byte p q r = rw (p, q, r)

  -- the two bytes of halfword j of block k
  module _ (k j : ℕ) (hk : k < blocks_needed (length code)) (hj : j < block_halfwords) where
    pub image_low : get_or (image_of code w l) (block_bytes * k + 2 * j) 0 ≡ image_halfword code w l k j % 256
    unfolding byte_of
    image_low =
        let block : (512 * k + 2 * j) / 512 ≡ k = omega arith in
        let in_block : (512 * k + 2 * j) % 512 ≡ 2 * j = omega arith in
        let place : (512 * k + 2 * j) % 512 / 2 ≡ j = rw in_block (omega arith) in
        let byte : (512 * k + 2 * j) % 2 ≡ 0 = omega arith in
        image_at (512 * k + 2 * j) (omega arith) ∙ same_byte block place byte

    pub image_high : get_or (image_of code w l) (block_bytes * k + 2 * j + 1) 0 ≡ image_halfword code w l k j / 256
    unfolding byte_of
    image_high =
        let block : (512 * k + 2 * j + 1) / 512 ≡ k = omega arith in
        let in_block : (512 * k + 2 * j + 1) % 512 ≡ 2 * j + 1 = omega arith in
        let place : (512 * k + 2 * j + 1) % 512 / 2 ≡ j = rw in_block (omega arith) in
        let byte : (512 * k + 2 * j + 1) % 2 ≡ 1 = omega arith in
        image_at (512 * k + 2 * j + 1) (omega arith) ∙ same_byte block place byte

  -- a block's halfwords before the last: the header, the code, and 0 past the code's end
  pub body_header : (k j h : ℕ) → j < header_halfwords → h ≡ get_or (header_of code w l k) j 0
      → h ≡ body_halfword code w l k j
  unfolding body_halfword
  body_header k j h less e = simp (lt-ltb j 6 less) e

  pub body_code : (k i : ℕ) → body_halfword code w l k (header_halfwords + i) ≡ get_or code (block_code * k + i) 0
  unfolding body_halfword
  body_code k i =
      let past : 6 ≤ 6 + i = omega arith in
      let place : 6 + i - 6 ≡ i = omega arith in
      simp (le-ltb (6 + i) 6 past, place)

  pub body_zero : (k j : ℕ) → code_end code k ≤ j → j < block_halfwords - 1 → body_halfword code w l k j ≡ 0
  body_zero k j h last =
      let place : 6 + (j - 6) ≡ j = omega arith in
      ap (body_halfword code w l k) (sym place) ∙ body_code k (j - 6) ∙ get_or-eq_default code 0 (omega arith)

  pub body_at : (k j : ℕ) → j < block_halfwords - 1 → image_halfword code w l k j ≡ body_halfword code w l k j
  unfolding image_halfword
  body_at k j h = simp (lt-ltb j 255 h)

  pub balance_is : (k r s : ℕ) → s ≡ sum_below (body_halfword code w l k) (block_halfwords - 1)
      → r < 65536 → (r + s) % 65536 ≡ 0 → r ≡ balance_of code w l k
  unfolding balance_of
  balance_is k r s q h e =
      let less : s < 65536 = rw q (sum_less (body_halfword code w l k) 255) in
      back_unique r s h less e ∙ ap (λ (x : ℕ). wrap (65536 - x)) q

  pub balance_at : (k : ℕ) → image_halfword code w l k 255 ≡ balance_of code w l k
  unfolding image_halfword
  balance_at k = refl

  -- block k of the image, byte by byte
  module _ (k : ℕ) (hk : k < blocks_needed (length code)) where
    pub block_long : length (block_of (image_of code w l) k) ≡ block_bytes
    block_long = block_length (image_of code w l) k (rw image_length (omega arith))

    block_low : (j : ℕ) → j < block_halfwords
        → get_or (block_of (image_of code w l) k) (2 * j) 0 ≡ image_halfword code w l k j % 256
    block_low j hj = byte_at (image_of code w l) k (2 * j) (omega arith) ∙ image_low k j hk hj

    block_high : (j : ℕ) → j < block_halfwords
        → get_or (block_of (image_of code w l) k) (2 * j + 1) 0 ≡ image_halfword code w l k j / 256
    block_high j hj =
        let place : 512 * k + (2 * j + 1) ≡ 512 * k + 2 * j + 1 = omega arith in
        byte_at (image_of code w l) k (2 * j + 1) (omega arith)
        ∙ ap (λ (p : ℕ). get_or (image_of code w l) p 0) place
        ∙ image_high k j hk hj

  -- nothing of a block is written yet
  pub written_none : (k : ℕ) (block : List ℕ) → Written code w l k 0 block 0
  unfolding sum_below
  written_none k block = record { sum_is = refl; same = refl }

  -- a halfword put after what is written of block k
  module _ (k j p : ℕ) (block next : List ℕ) (h sum : ℕ) (hk : k < blocks_needed (length code))
      (long : length block ≡ block_bytes) (so : Written code w l k j block sum)
      (place : p ≡ 2 * j) (store : next ≡ with_halfword block p h) where
    put : j < block_halfwords → h ≡ image_halfword code w l k j
        → take (2 * j + 2) next ≡ take (2 * j + 2) (block_of (image_of code w l) k)
    put hj q =
        ap (take (2 * j + 2)) (store ∙ ap (λ (a : ℕ). with_halfword block a h) place)
        ∙ two_more block (block_of (image_of code w l) k) (2 * j) (h % 256) (h / 256)
        so.same (omega (arith, long)) (rw (block_long k hk) (omega arith))
        (ap (λ (x : ℕ). x % 256) q ∙ sym (block_low k hk j hj))
        (ap (λ (x : ℕ). x / 256) q ∙ sym (block_high k hk j hj))

    -- one more, before the last
    pub written_more : (r : ℕ) → j < block_halfwords - 1 → h ≡ body_halfword code w l k j → r ≡ added_to sum h
        → Written code w l k (j + 1) next r
    unfolding sum_below
    written_more r hj q e =
        let step : 2 * (j + 1) ≡ 2 * j + 2 = omega arith in
        record {
          sum_is = rw add-one (e ∙ ap₂ added_to so.sum_is q);
          same = rw step (put (omega arith) (q ∙ sym (body_at k j hj)));
        }

    -- a 0, which adds nothing to the sum
    pub written_zero : code_end code k ≤ j → j < block_halfwords - 1 → h ≡ 0 → Written code w l k (j + 1) next sum
    written_zero end hj z =
        let less : sum_below (body_halfword code w l k) j < 65536 = sum_less (body_halfword code w l k) j in
        written_more sum hj (z ∙ sym (body_zero k j end hj)) (omega (arith, so.sum_is, less, z))

    -- the last
    pub written_all : j ≡ block_halfwords - 1 → h < 65536 → (h + sum) % 65536 ≡ 0 → length next ≡ block_bytes
        → next ≡ block_of (image_of code w l) k
    written_all hj less e same =
        let step : 512 ≡ 2 * j + 2 = omega arith in
        let is = balance_is k h sum (so.sum_is ∙ ap (sum_below (body_halfword code w l k)) hj) less e in
        let size = block_long k hk in
        same_all 512 next (block_of (image_of code w l) k) (omega arith) (omega arith)
        (rw step (put (omega arith) (is ∙ sym (balance_at k) ∙ ap (image_halfword code w l k) (sym hj))))

-- a block more of an image, put over its place
pub block_put : (out image : List ℕ) (k : ℕ) → block_bytes * k + block_bytes ≤ length out
    → length (block_of image k) ≡ block_bytes → take (block_bytes * k) out ≡ take (block_bytes * k) image
    → take (block_bytes * (k + 1))
    (put_mid (block_bytes * k) (block_bytes * k + block_bytes - block_bytes * k) out (block_of image k))
    ≡ take (block_bytes * (k + 1)) image
unfolding block_of
block_put out image k inside size e =
    let front = take (512 * k) out in
    let block = take 512 (drop (512 * k) image) in
    let rest = post_of (512 * k) (512 * k + 512 - 512 * k) out in
    let first : length front ≡ 512 * k = length-take-le (512 * k) out (omega arith) in
    let long : 512 * (k + 1) ≡ length (front ++ block) = rw (length-append front block, first, size) (omega arith) in
    let next : 512 * k + 512 ≡ 512 * (k + 1) = omega arith in
    ap (take (512 * (k + 1))) (sym (append_assoc front block rest))
    ∙ ap (λ (n : ℕ). take n ((front ++ block) ++ rest)) long
    ∙ take-append_seam (front ++ block) rest
    ∙ ap (λ (x : List ℕ). x ++ block) e
    ∙ sym (take-add (512 * k) 512 image)
    ∙ ap (λ (n : ℕ). take n image) next
