-- What is known of a block that a reader gives: it is the next one, and lies in the file, and so in the longest image.
use mathlib.Core.Bool.{Bool, true, false, cond}
use mathlib.Core.Path.{◌≡◌, refl, sym, ap, ◌∙◌}
use mathlib.Core.List.{List}
use Prim.Native.Nat.{ℕ, ◌+◌, ◌-◌, ◌*◌, ◌≤◌, ◌<◌}
use lib.ListN.{length, take, drop}
use native.Mathlib.Omega.{arith}
use borrow.Author.Tests.{ltb-true}
use Rattle.units.proofs.Cases.{clash}
use Rattle.image.specs.Format.{block_bytes, most_bytes}
use Rattle.image.specs.Block.{blocks_in}
use Rattle.image.specs.Check.{check_of}
use Rattle.image.proofs.Valid.{valid_size}
use Rattle.reader.specs.Reader.{Given, is_left, block_at, given_as, given_of, answer_of, next_of, after_next}
use Rattle.reader.specs.declared.reader.BlockReader.{BlockReader}
use Rattle.std.specs.Prelude.{Option, Some, None, Result, Ok, Err}
use Rattle.image.specs.declared.checker.Layout.{Layout}
use Rattle.refusals.specs.declared.refusal.Refusal.{Refusal}

left_given : (file : List ℕ) (n start : ℕ) (t : Bool) → is_left file n ≡ t
    → cond t (Some (block_bytes * n)) None ≡ Some start → (start ≡ block_bytes * n) × (n < blocks_in file)
left_given file n start true e h = (cc, ltb-true n (blocks_in file) e)
left_given file n start false e h = clash (cc)

given_as_block : (file : List ℕ) (n : ℕ) (answer : Result Layout Refusal) (start : ℕ)
    → given_as file n answer ≡ Ok (Some start) → (start ≡ block_bytes * n) × (n < blocks_in file)
unfolding block_at
given_as_block file n (Ok layout) start h = left_given file n start (is_left file n) refl (cc)
given_as_block file n (Err r) start h = clash (cc)

-- the answer to a reader's call, where it is a block
module _ (r : BlockReader) (a : Given) (f : Option ℕ) (start : ℕ) (is : a ≡ answer_of r) (ok : a ≡ Ok f)
    (some : f ≡ Some start) where
  given : answer_of r ≡ Ok (Some start)
  given = sym is ∙ ok ∙ ap Ok some

  pub in_file : (r.next < blocks_in r.file.now) × (start + block_bytes ≤ length r.file.now)
  in_file =
      let there = given_as_block r.file.now r.next r.checked start given in
      (there.1, omega arith)

  -- the part from its start to its end is given, and the next one comes
  pub taken : (take (start + block_bytes - start) (drop start r.file.now) ≡ next_of r)
      × ◌≡◌ {A = BlockReader} (record { file = r.file; next = r.next + 1; checked = r.checked }) (after_next r)
  taken =
      let size : start + 512 - start ≡ 512 = omega arith in
      rw (given, size) (refl, refl)

in_image : (file : List ℕ) (n start : ℕ) (answer : Result Layout Refusal) → check_of file ≡ answer
    → given_as file n answer ≡ Ok (Some start) → start + block_bytes ≤ most_bytes
in_image file n start (Ok layout) e h =
    let size = valid_size file layout e in
    let there = given_as_block file n (Ok layout) start h in
    omega arith
in_image file n start (Err r) e h = clash (cc)

pub block_in_image : (file : List ℕ) (n start : ℕ) → given_of file n ≡ Ok (Some start)
    → start + block_bytes ≤ most_bytes
unfolding given_of
block_in_image file n start h = in_image file n start (check_of file) refl h
