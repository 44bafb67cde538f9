-- What an accepted file is known to be.
use mathlib.Core.Bool.{true, and-eq-true_iff}
use mathlib.Core.Path.{◌≡◌, refl, sym, ap, ◌∙◌}
use mathlib.Core.List.{List, [], ◌∷◌}
use Prim.Native.Nat.{ℕ, ◌+◌, ◌-◌, ◌*◌, ◌%◌, ◌≤◌, ◌<◌}
use native.Mathlib.Omega.{arith}
use borrow.Author.Tests.{leb-true, eqb-true}
use lib.Dec.{eqb}
use lib.ListN.{length, get_or}
use Rattle.units.specs.Address.{memory_bytes}
use Rattle.units.proofs.Cases.{clash}
use Rattle.image.specs.Format.{block_bytes, block_code, most_bytes, most_code}
use Rattle.image.specs.Block.{blocks_in, block_of, used_of}
use Rattle.image.specs.Code.{code_position, code_at, code_length, code_of}
use Rattle.image.specs.Check.{whole, first_no, check8, block_checks, checks_below, checks_of, layout_of, layout_fits}
use Rattle.image.specs.Check.{checked_as, check_of}
use Rattle.image.specs.declared.checker.Layout.{Layout}
use Rattle.image.proofs.Lists.{length_tabulate, tabulate_at}
use Rattle.image.proofs.Answers.{head_passed, tail_passed, left_passed, right_passed, each_passed}
use Rattle.image.proofs.Verdicts.{size_right, used_right_is, used_most, used_least}
use Rattle.std.specs.Prelude.{Result, Ok, Err, ⊤}
use Rattle.refusals.specs.declared.check.Check.TheVariants as check
use Rattle.refusals.specs.declared.refusal.Refusal.{Refusal}

-- the code as a list: its length, and its halfwords
pub code_length_is : (file : List ℕ) → length (code_of file) ≡ code_length file
unfolding code_of
code_length_is file = length_tabulate (code_at file) 0 (code_length file)

pub code_halfword_is : (file : List ℕ) (i : ℕ) → i < length (code_of file) → get_or (code_of file) i 0 ≡ code_at file i
unfolding code_of
code_halfword_is file i h =
    tabulate_at (code_at file) (code_length file) i (rw (length_tabulate (code_at file) 0 (code_length file)) at h)

-- two bytes make a halfword
pub code_fits : (file : List ℕ) (i : ℕ) → ((p : ℕ) → get_or file p 0 < 256) → code_at file i < 65536
unfolding code_at
code_fits file i bytes = omega (arith, bytes (code_position i), bytes (code_position i + 1))

-- what check 8 says of a window
pub record Window (c w l : ℕ) : Type 0 where
  pub start_aligned : w % 4 ≡ 0
  pub length_aligned : l % 4 ≡ 0
  pub not_empty : 4 ≤ l
  pub after_code : c ≤ w
  pub in_memory : w + l ≤ memory_bytes

pub window_right : (c w l : ℕ) → check8 c w l ≡ true → Window c w l
unfolding check8
window_right c w l e = let each = simp and-eq-true_iff at e in search (eqb-true, leb-true)

valid_answer : (said layout : Layout) (a : Result ⊤ Refusal) → checked_as said a ≡ Ok layout
    → (a ≡ Ok tt) × (layout ≡ said)
valid_answer said layout (Ok tt) e = (refl, cc)
valid_answer said layout (Err r) e = clash (cc)

-- code halfword i lies in the b blocks, of which the last uses so many
position_in : (i b used : ℕ) → 1 ≤ b → used ≤ block_code → i < block_code * (b - 1) + used
    → code_position i + 2 ≤ block_bytes * b
position_in i b used hb hu hi = omega arith

module _ (file : List ℕ) (layout : Layout) (valid : check_of file ≡ Ok layout) where
  passed : (first_no (checks_of file) ≡ Ok tt) × (layout ≡ layout_of file)
  unfolding check_of
  passed = valid_answer (layout_of file) layout (first_no (checks_of file)) valid

  pub valid_layout : layout ≡ layout_of file
  valid_layout = passed.1

  pub valid_size : (length file % block_bytes ≡ 0) × (block_bytes ≤ length file) × (length file ≤ most_bytes)
  valid_size = size_right file (head_passed _ _ passed.0)

  -- the checks behind check 2: those of the blocks, and check 8
  blocks_passed : first_no (checks_below file (blocks_in file)) ≡ Ok tt
  blocks_passed = left_passed _ (whole check.Window (layout_fits (layout_of file)) ∷ []) (tail_passed _ _ passed.0)

  last_passed : first_no (whole check.Window (layout_fits (layout_of file)) ∷ []) ≡ Ok tt
  last_passed = right_passed (checks_below file (blocks_in file)) _ (tail_passed _ _ passed.0)

  pub valid_block : (k : ℕ) → k < blocks_in file → first_no (block_checks file k) ≡ Ok tt
  valid_block k h = each_passed (block_checks file) k (blocks_in file) h blocks_passed

  pub valid_fits : layout_fits layout ≡ true
  valid_fits = ap layout_fits valid_layout ∙ head_passed _ _ last_passed

  pub valid_window : Window layout.code_bytes layout.window_start layout.window_length
  valid_window = window_right _ _ _ valid_fits

  pub last_used : (1 ≤ used_of (block_of file (blocks_in file - 1)))
      × (used_of (block_of file (blocks_in file - 1)) ≤ block_code)
  last_used =
      let size = valid_size in
      let last = blocks_in file - 1 in
      let right = used_right_is file last (valid_block last (omega arith)) in
      (used_least (eqb (last + 1) (blocks_in file)) _ right, used_most (eqb (last + 1) (blocks_in file)) _ right)

  -- its code is 1 to 15,936 halfwords, and the layout says how many bytes that is
  pub valid_code : (1 ≤ length (code_of file)) × (length (code_of file) ≤ most_code)
  unfolding code_length
  valid_code =
      let size = valid_size in
      let used = last_used in
      let n = code_length_is file in
      (omega arith, omega arith)

  pub valid_code_bytes : layout.code_bytes ≡ 2 * length (code_of file)
  unfolding layout_of
  valid_code_bytes = ap (λ (y : Layout). y.code_bytes) valid_layout ∙ ap (λ (n : ℕ). 2 * n) (sym (code_length_is file))

  -- every halfword of it lies in the file
  pub code_in_file : (i : ℕ) → i < length (code_of file) → code_position i + 2 ≤ length file
  unfolding code_length
  code_in_file i h =
      let size = valid_size in
      let used = last_used in
      let n = code_length_is file in
      let inside = position_in i (blocks_in file) _ (omega arith) used.1 (omega arith) in
      omega arith
