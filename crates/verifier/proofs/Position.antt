-- From one block of a code to the next.
use mathlib.Core.List.{List}
use mathlib.Core.Path.{◌≡◌, sym, ap, ◌∙◌}
use Prim.Native.Nat.{ℕ, suc, ◌+◌, ◌*◌, ◌<◌, ◌≤◌}
use native.Mathlib.Omega.{arith}
use lib.ListN.{length, get_or}
use Rattle.units.specs.Bytes.{halfword_at}
use Rattle.image.specs.Block.{blocks_in}
use Rattle.image.specs.Check.{check_of}
use Rattle.image.specs.Code.{code_position, code_at, code_length, code_of}
use Rattle.image.specs.Format.{block_bytes, block_code, header_bytes}
use Rattle.image.specs.declared.checker.Layout.{Layout}
use Rattle.image.proofs.Valid.{code_length_is, code_halfword_is, code_in_file, last_used, valid_size}
use Rattle.verifier.specs.Position.{before_block}
use Rattle.std.specs.Prelude.{Ok}

pub none_before : (n : ℕ) → before_block 0 n ≡ 0
none_before n = omega arith

-- a turn counts one more
pub next_number : (k n : ℕ) → block_code * k + (n + 1) ≡ suc (block_code * k + n)
next_number k n = omega arith

-- the blocks of an accepted file are as many as its code needs
module _ (file : List ℕ) (layout : Layout) (ok : check_of file ≡ Ok layout) where
  all_blocks : length (code_of file) ≤ block_code * blocks_in file
  unfolding code_length
  all_blocks =
      let size = valid_size file layout ok in
      let used = last_used file layout ok in
      omega (arith, code_length_is file)

  pub no_more : (k : ℕ) → k < blocks_in file → block_code * k < length (code_of file)
  unfolding code_length
  no_more k h =
      let used = last_used file layout ok in
      omega (arith, code_length_is file)

  pub behind : (k : ℕ) → blocks_in file ≤ k → before_block k (length (code_of file)) ≡ length (code_of file)
  behind k h = omega (arith, all_blocks)

  -- instruction n of block k stands in the file, and is the code's
  module _ (k n : ℕ) (in_code : block_code * k + n < length (code_of file)) (in_block : n < block_code) where
    position_is : code_position (block_code * k + n) ≡ block_bytes * k + header_bytes + 2 * n
    position_is = omega arith

    pub position_inside : block_bytes * k + header_bytes + 2 * n + 2 ≤ length file
    position_inside = omega (arith, position_is, code_in_file file layout ok _ in_code)

    pub halfword_is : halfword_at file (block_bytes * k + header_bytes + 2 * n)
        ≡ get_or (code_of file) (block_code * k + n) 0
    unfolding code_at
    halfword_is = ap (halfword_at file) (sym position_is) ∙ sym (code_halfword_is file _ in_code)
