-- What the checks of one block come to: the first that fails refuses it.
use mathlib.Core.Bool.{Bool, true, false, and-eq-true_iff}
use mathlib.Core.Path.{◌≡◌, refl, sym, ap, ◌∙◌}
use mathlib.Core.List.{List, [], ◌∷◌, ◌++◌}
use Prim.Native.Nat.{ℕ, ◌+◌, ◌-◌, ◌*◌, ◌%◌, ◌≤◌}
use native.Mathlib.Omega.{arith}
use borrow.Author.Tests.{leb-true, eqb-true}
use lib.Dec.{eqb, leb}
use Rattle.refusals.specs.declared.check.Check.TheVariants as check
use Rattle.refusals.specs.declared.refusal.Refusal.{Refusal}
use lib.ListN.{length}
use Rattle.image.specs.Format.{block_bytes, block_code, most_bytes}
use Rattle.image.specs.Block.{blocks_in, block_of, used_of, window_start_of, window_length_of}
use Rattle.image.specs.Code.{code_length}
use Rattle.image.specs.Check.{Asked, whole, first_no, check2, check6, used_right}
use Rattle.image.specs.Check.{unused_zero, block_checks, checks_below, layout_of, layout_fits, checked_as, check_of}
use Rattle.image.specs.declared.checker.Layout.{Layout}
use Rattle.image.proofs.Answers.{or_else, first_append, passed_head, head_passed, tail_passed, each_passed}
use Rattle.std.specs.Prelude.{Result, Ok, Err, ⊤}

-- a used count that is right for its block is at least 1 and fits the block
pub used_most : (is_last : Bool) (used : ℕ) → used_right is_last used ≡ true → used ≤ block_code
used_most true used e = leb-true used 249 ((and-eq-true_iff (leb 1 used) (leb used 249)).0 e).1
used_most false used e = let q = eqb-true used 249 e in omega arith

pub used_least : (is_last : Bool) (used : ℕ) → used_right is_last used ≡ true → 1 ≤ used
used_least true used e = leb-true 1 used ((and-eq-true_iff (leb 1 used) (leb used 249)).0 e).0
used_least false used e = let q = eqb-true used 249 e in omega arith

-- a block that has passed uses as much as it should
module _ (file : List ℕ) (k : ℕ) (e : first_no (block_checks file k) ≡ Ok tt) where
  pub passed6 : check6 (eqb (k + 1) (blocks_in file)) (block_of file k) ≡ true
  passed6 = head_passed _ _ (tail_passed _ _ (tail_passed _ _ (tail_passed _ _ e)))

  pub used_right_is : used_right (eqb (k + 1) (blocks_in file)) (used_of (block_of file k)) ≡ true
  unfolding check6
  used_right_is = ((and-eq-true_iff _ (unused_zero (block_of file k) _ _)).0 passed6).0

  pub used_in_block : used_of (block_of file k) ≤ block_code
  used_in_block = used_most (eqb (k + 1) (blocks_in file)) (used_of (block_of file k)) used_right_is

-- a full block, the last or not
pub filled_full : (is_last : Bool) (block : List ℕ) (used : ℕ) → used ≡ used_of block → used ≡ block_code
    → true ≡ check6 is_last block
unfolding check6 unused_zero
filled_full true block used q e = let is : used_of block ≡ block_code = cc in rw is refl
filled_full false block used q e = let is : used_of block ≡ block_code = cc in rw is refl

-- the last block of a file whose blocks have passed, and the layout of that file
module _ (file : List ℕ) (blocks : ℕ) (last : List ℕ) (used : ℕ) where
  pub last_used_most : blocks ≡ blocks_in file → 1 ≤ blocks → first_no (checks_below file blocks) ≡ Ok tt
      → last ≡ block_of file (blocks - 1) → used ≡ used_of last → used ≤ block_code
  last_used_most n h e b u =
      let row = each_passed (block_checks file) (blocks - 1) blocks (omega arith) e in
      rw (u, b) (used_in_block file (blocks - 1) row)

  pub layout_is : (first : List ℕ) (c w l : ℕ) → c ≡ 2 * (block_code * (blocks - 1) + used)
      → blocks ≡ blocks_in file → last ≡ block_of file (blocks - 1) → first ≡ block_of file 0
      → used ≡ used_of last → w ≡ window_start_of first → l ≡ window_length_of first
      → ◌≡◌ {A = Layout} (record { code_bytes = c; window_start = w; window_length = l }) (layout_of file)
  unfolding layout_of code_length
  layout_is first c w l ec n b f u ew el = simp (ec, ew, el, u, b, f, n)

-- check 2 says how long a file is
pub size_right : (file : List ℕ) → check2 file ≡ true
    → (length file % block_bytes ≡ 0) × (block_bytes ≤ length file) × (length file ≤ most_bytes)
unfolding check2
size_right file e = let each = simp and-eq-true_iff at e in search (eqb-true, leb-true)

-- what all checks of a file come to
module _ (file : List ℕ) where
  -- check 8, the last one
  abbrev last : List Asked
  last = whole check.Window (layout_fits (layout_of file)) ∷ []

  module _ (e2 : check2 file ≡ true) where
    rest : (a : Result ⊤ Refusal) → first_no (checks_below file (blocks_in file)) ≡ a
        → check_of file ≡ checked_as (layout_of file) (or_else a (first_no last))
    unfolding check_of
    rest a e =
        ap (checked_as (layout_of file))
        (passed_head (whole check.FileLength (check2 file)) (checks_below file (blocks_in file) ++ last) e2
        ∙ first_append (checks_below file (blocks_in file)) last
        ∙ ap (λ (b : Result ⊤ Refusal). or_else b (first_no last)) e)

    pub refused_block : (a : Result ⊤ Refusal) (r : Refusal) → a ≡ first_no (checks_below file (blocks_in file))
        → a ≡ Err r → Err r ≡ check_of file
    refused_block a r is e = sym (rest (Err r) (sym is ∙ e))

    -- what check 8 makes of a layout
    abbrev checked : Layout → Result Layout Refusal
    checked layout = checked_as layout (first_no (whole check.Window (layout_fits layout) ∷ []))

    pub rest8 : (a : Result ⊤ Refusal) (layout : Layout) (r : Result Layout Refusal)
        → a ≡ first_no (checks_below file (blocks_in file)) → a ≡ Ok tt → layout ≡ layout_of file
        → r ≡ checked_as layout (first_no (whole check.Window (layout_fits layout) ∷ [])) → r ≡ check_of file
    rest8 a layout r is e q p = p ∙ ap checked q ∙ sym (rest (Ok tt) (sym is ∙ e))
