-- A block of a file: which part it is, its length, and where its halfwords stand in the file.
use mathlib.Core.Path.{◌≡◌, refl, sym, ap, ap₂, ◌∙◌}
use mathlib.Core.List.{List, []}
use Prim.Native.Nat.{ℕ, zero, suc, ◌+◌, ◌*◌, ◌≤◌, ◌<◌}
use native.Mathlib.Omega.{arith}
use native.Mathlib.Nat.{add_comm, mul-suc}
use lib.ListN.{length, get_or, take, drop, length-drop}
use lib.Seq.{get_or-take, get_or-drop, length-take-le, drop-drop}
use Rattle.units.specs.Bytes.{halfword_at}
use Rattle.image.specs.Format.{block_bytes, block_halfwords}
use Rattle.image.specs.Block.{blocks_in, block_of, halfword}
use Rattle.std.specs.Simd.{first_chunks}

-- of a file that is cut into rows of n, row k
row_at : (n count k : ℕ) (file : List ℕ) → k < count
    → get_or (first_chunks n count file) k [] ≡ take n (drop (n * k) file)
row_at n zero k file h = absurd (omega arith)
row_at n (suc count) zero file h = let none : n * 0 ≡ 0 = omega arith in rw none refl
row_at n (suc count) (suc k) file h =
    let past : n + n * k ≡ n * suc k = add_comm n (n * k) ∙ sym (mul-suc n k) in
    row_at n count k (drop n file) (omega arith)
    ∙ ap (take n) (drop-drop (n * k) n file ∙ ap (λ (p : ℕ). drop p file) past)

-- row k of 512 is block k
pub block_row : (file : List ℕ) (rows : List (List ℕ)) (k : ℕ)
    → rows ≡ first_chunks block_bytes (blocks_in file) file → block_bytes * k + block_bytes ≤ length file
    → get_or rows k [] ≡ block_of file k
unfolding block_of
block_row file rows k cut h =
    ap (λ (r : List (List ℕ)). get_or r k []) cut ∙ row_at 512 (blocks_in file) k file (omega arith)

pub block_length : (file : List ℕ) (k : ℕ) → block_bytes * k + block_bytes ≤ length file
    → length (block_of file k) ≡ block_bytes
unfolding block_of
block_length file k h = length-take-le 512 (drop (512 * k) file) (simp length-drop (omega arith))

pub byte_at : (file : List ℕ) (k p : ℕ) → p < block_bytes → get_or (block_of file k) p 0
    ≡ get_or file (block_bytes * k + p) 0
unfolding block_of
byte_at file k p h = get_or-take 512 (drop (512 * k) file) p 0 h ∙ get_or-drop (512 * k) file p 0

-- halfword j of block k is in the file at the block's start and 2 j
pub block_halfword : (file : List ℕ) (k j : ℕ) → j < block_halfwords
    → halfword (block_of file k) j ≡ halfword_at file (block_bytes * k + 2 * j)
block_halfword file k j h =
    ap₂ (λ (a b : ℕ). a + b * 256)
    (byte_at file k (2 * j) (omega arith))
    (byte_at file k (2 * j + 1) (omega arith) ∙ ap (λ (p : ℕ). get_or file p 0) (omega arith))
