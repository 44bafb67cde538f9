-- Checks 2 to 8 of a file ("The questions"): each is a test, and the first no is the answer.
use Rattle.std.specs.Prelude.{Bool, true, ◌&&◌, cond, List, [], ◌∷◌, ◌++◌, ℕ, zero, suc, ◌+◌, ◌-◌, ◌*◌, ◌%◌, eqb, leb}
use Rattle.std.specs.Prelude.{length, Result, Ok, Err, ⊤}
use Rattle.units.specs.Address.{memory_bytes}
use Rattle.refusals.specs.declared.check.Check.{Check}
use Rattle.refusals.specs.declared.check.Check.TheVariants as check
use Rattle.refusals.specs.Refusal.{refusal, refusal_in_block}
use Rattle.refusals.specs.declared.refusal.Refusal.{Refusal}
use Rattle.image.specs.Format.{mark, block_bytes, block_code, most_bytes}
use Rattle.image.specs.Block.{blocks_in, block_of, halfword, number_of, used_of, window_start_of, window_length_of}
use Rattle.image.specs.Block.{count_of, code_halfword, block_sum_of}
use Rattle.image.specs.Code.{code_length}
use Rattle.image.specs.declared.checker.Layout.{Layout}

-- a check that was put: whether it passed, and the refusal if it didn't
pub record Asked : Type 0 where
  pub passed : Bool
  pub otherwise : Refusal

-- a check of a whole file or code, and one of block k
abbrev pub whole : Check → Bool → Asked
whole check test = record { passed = test; otherwise = refusal check }

abbrev pub in_block : Check → ℕ → Bool → Asked
in_block check k test = record { passed = test; otherwise = refusal_in_block check k }

-- checks are put in order, and the first no gives the refusal
unfoldable pub first_no : List Asked → Result ⊤ Refusal
first_no [] = Ok tt
first_no (q ∷ qs) = cond q.passed (first_no qs) (Err q.otherwise)

-- rows 0 to n - 1 of checks, one after the other: a row is what is put to one block, or to one instruction
unfoldable pub rows_below : (ℕ → List Asked) → ℕ → List Asked
rows_below row zero = []
rows_below row (suc n) = rows_below row n ++ row n

-- 2: the file is 1 to 64 whole blocks long
unfoldable pub check2 : List ℕ → Bool
check2 file = eqb (length file % block_bytes) 0 && leb block_bytes (length file) && leb (length file) most_bytes

-- 3: a block starts with the mark
unfoldable pub check3 : List ℕ → Bool
check3 block = eqb (halfword block 0) mark

-- 4: its halfwords add up to 0
unfoldable pub check4 : List ℕ → Bool
check4 block = eqb (block_sum_of block) 0

-- 5: block k says its own number and how many blocks the file has
unfoldable pub check5 : ℕ → ℕ → List ℕ → Bool
check5 k blocks block = eqb (number_of block) k && eqb (count_of block) blocks

-- the last block holds some code, a block before it is full
abbrev pub used_right : Bool → ℕ → Bool
used_right is_last used = cond is_last (leb 1 used && leb used block_code) (eqb used block_code)

-- n code halfwords of a block are 0, from the one numbered `used`
unfoldable pub unused_zero : List ℕ → ℕ → ℕ → Bool
unused_zero block used zero = true
unused_zero block used (suc n) = unused_zero block used n && eqb (code_halfword block (used + n)) 0

-- 6: a block, the last or not, uses as much of its code as it should, and what it doesn't use is 0
unfoldable pub check6 : Bool → List ℕ → Bool
check6 is_last block = let used = used_of block in used_right is_last used && unused_zero block used (block_code - used)

-- 7: its window is that of block 0
unfoldable pub check7 : List ℕ → List ℕ → Bool
check7 first block =
    eqb (window_start_of block) (window_start_of first) && eqb (window_length_of block) (window_length_of first)

-- 8, of c bytes of code and the window w, l: it is aligned, not empty, after the code, and ends in memory
unfoldable pub check8 : ℕ → ℕ → ℕ → Bool
check8 c w l = eqb (w % 4) 0 && eqb (l % 4) 0 && leb 4 l && leb c w && leb (w + l) memory_bytes

-- what is put to block k, and to the blocks before block k
abbrev pub block_checks : List ℕ → ℕ → List Asked
block_checks file k =
    in_block check.Mark k (check3 (block_of file k))
    ∷ in_block check.Sum k (check4 (block_of file k))
    ∷ in_block check.Numbering k (check5 k (blocks_in file) (block_of file k))
    ∷ in_block check.Filling k (check6 (eqb (k + 1) (blocks_in file)) (block_of file k))
    ∷ in_block check.SameWindow k (check7 (block_of file 0) (block_of file k))
    ∷ []

abbrev pub checks_below : List ℕ → ℕ → List Asked
checks_below file = rows_below (block_checks file)

-- c, w and l as an accepted file says them
unfoldable pub layout_of : List ℕ → Layout
layout_of file = record {
  code_bytes = 2 * code_length file;
  window_start = window_start_of (block_of file 0);
  window_length = window_length_of (block_of file 0);
}

-- 8, of the layout that a file says
abbrev pub layout_fits : Layout → Bool
layout_fits layout = check8 layout.code_bytes layout.window_start layout.window_length

-- all that is put to a file, in order
abbrev pub checks_of : List ℕ → List Asked
checks_of file =
    whole check.FileLength (check2 file)
    ∷ (checks_below file (blocks_in file) ++ (whole check.Window (layout_fits (layout_of file)) ∷ []))

abbrev pub checked_as : Layout → Result ⊤ Refusal → Result Layout Refusal
checked_as layout (Ok tt) = Ok layout
checked_as layout (Err r) = Err r

-- the layout of a file that gets a yes from each, or the first no
unfoldable pub check_of : List ℕ → Result Layout Refusal
check_of file = checked_as (layout_of file) (first_no (checks_of file))
