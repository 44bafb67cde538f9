-- The reader's calls, one after the other.
use mathlib.Core.Bool.{Bool, true, false, cond}
use mathlib.Core.Logic.{⊎_elim}
use mathlib.Core.Path.{◌≡◌, refl, sym, ap, ◌∙◌}
use mathlib.Core.List.{List}
use Prim.Native.Nat.{ℕ, zero, suc, min, ◌*◌, ◌≤◌, ◌<◌}
use native.Mathlib.Numerals.{add-one}
use native.Mathlib.Omega.{arith}
use borrow.Author.Tests.{lt-ltb, le-ltb, ltb-false}
use denote.Ref.{Bor}
use Rattle.units.proofs.Cases.{clash, lt_or_ge}
use Rattle.refusals.specs.declared.refusal.Refusal.{Refusal}
use Rattle.image.specs.Format.{block_bytes}
use Rattle.image.specs.Block.{blocks_in, block_of}
use Rattle.image.specs.Check.{layout_of, check_of}
use Rattle.reader.specs.Reader.{is_left, block_at, given_as, given_of, bytes_of, after_of, answer_of, next_of}
use Rattle.reader.specs.Reader.{Given, after_next}
use Rattle.image.specs.declared.checker.Layout.{Layout}
use Rattle.reader.specs.declared.reader.BlockReader.{BlockReader}
use Rattle.image.proofs.Blocks.{block_length}
use Rattle.image.proofs.Valid.{valid_layout}
use Rattle.image_laws.specs.Claims.{reader_after, ReaderGives, AcceptedGives, RefusedGives, NoneLeftAtEnd}
use Rattle.std.specs.Prelude.{Some, None, Result, Ok, Err}

module _ (file : List ℕ) where
  module _ (said : Layout) (valid : check_of file ≡ Ok said) where
    given_there : (n : ℕ) → given_of file n ≡ Ok (block_at file n)
    unfolding given_of
    given_there n = ap (given_as file n) valid

    block_there : (n : ℕ) → n < blocks_in file → given_of file n ≡ Ok (Some (block_bytes * n))
    unfolding block_at
    block_there n h = given_there n ∙ ap Ok (simp (lt-ltb n (blocks_in file) h))

    none_left : (n : ℕ) → blocks_in file ≤ n → given_of file n ≡ Ok None
    unfolding block_at
    none_left n h = given_there n ∙ ap Ok (simp (le-ltb n (blocks_in file) h))

    -- the bytes from its start on are the block
    bytes_there : (n : ℕ) → n < blocks_in file → bytes_of file (given_of file n) ≡ block_of file n
    unfolding block_of
    bytes_there n h = ap (bytes_of file) (block_there n h)

    goes_on : (n : ℕ) → n < blocks_in file → after_of n (given_of file n) ≡ suc n
    goes_on n h = ap (after_of n) (block_there n h) ∙ add-one n

    stays : (n : ℕ) → blocks_in file ≤ n → after_of n (given_of file n) ≡ n
    stays n h = ap (after_of n) (none_left n h)

  module _ (r : Refusal) (refused : check_of file ≡ Err r) where
    refusal_there : (n : ℕ) → given_of file n ≡ Err r
    unfolding given_of
    refusal_there n = ap (given_as file n) refused

  past_last : (n : ℕ) (t : Bool) → is_left file n ≡ t
      → cond t (Some (block_bytes * n)) None ≡ None → blocks_in file ≤ n
  past_last n true e h = clash (cc)
  past_last n false e h = ltb-false n (blocks_in file) e

  at_end : (n : ℕ) (a : Result Layout Refusal) → check_of file ≡ a → given_as file n a ≡ Ok None
      → (check_of file ≡ Ok (layout_of file)) × (blocks_in file ≤ n)
  unfolding block_at
  at_end n (Ok said) e h = (e ∙ ap Ok (valid_layout file said e), past_last n (is_left file n) refl (cc))
  at_end n (Err r) e h = clash (cc)

-- the reader of a file that comes to block k next
module _ (file : Bor (List ℕ)) where
  abbrev at_block : ℕ → BlockReader
  at_block k = record { file = file; next = k; checked = check_of file.now }

  goes_from : (k : ℕ) → after_next (at_block k) ≡ at_block (after_of k (given_of file.now k))
  unfolding given_of
  goes_from k = refl

  -- what the reader answers after n calls, and gives out, is what is said of call n
  abbrev Gives : ℕ → Type 0
  Gives n =
      (answer_of (reader_after file n) ≡ given_of file.now n)
      × (next_of (reader_after file n) ≡ bytes_of file.now (given_of file.now n))

  gives_from : (n k : ℕ) → reader_after file n ≡ at_block k → given_of file.now k ≡ given_of file.now n → Gives n
  unfolding given_of
  gives_from n k e same = (ap answer_of e ∙ same, ap next_of e ∙ ap (bytes_of file.now) same)

  abbrev blocks : ℕ
  blocks = blocks_in file.now

  accepted_after : (said : Layout) → check_of file.now ≡ Ok said → (n : ℕ)
      → reader_after file n ≡ at_block (min n blocks)
  unfolding reader_after
  accepted_after said valid zero = let start : 0 ≡ min 0 blocks = omega arith in ap at_block start
  accepted_after said valid (suc n) =
      let next : after_of (min n blocks) (given_of file.now (min n blocks)) ≡ min (suc n) blocks =
      ⊎_elim
      (λ lt. goes_on file.now said valid (min n blocks) (omega arith) ∙ omega arith)
      (λ ge. stays file.now said valid (min n blocks) (omega arith) ∙ omega arith)
      (lt_or_ge n blocks) in
      ap after_next (accepted_after said valid n) ∙ goes_from (min n blocks) ∙ ap at_block next

  refused_after : (r : Refusal) → check_of file.now ≡ Err r → (n : ℕ) → reader_after file n ≡ at_block 0
  unfolding reader_after
  refused_after r refused zero = refl
  refused_after r refused (suc n) =
      ap after_next (refused_after r refused n)
      ∙ goes_from 0
      ∙ ap (λ (g : Given). at_block (after_of 0 g)) (refusal_there file.now r refused 0)

  reads : (n : ℕ) (a : Result Layout Refusal) → check_of file.now ≡ a → Gives n
  reads n (Ok said) e =
      let same : given_of file.now (min n blocks) ≡ given_of file.now n =
      ⊎_elim
      (λ lt. let all : min n blocks ≡ n = omega arith in ap (given_of file.now) all)
      (λ ge. none_left file.now said e (min n blocks) (omega arith) ∙ sym (none_left file.now said e n ge))
      (lt_or_ge n blocks) in
      gives_from n (min n blocks) (accepted_after said e n) same
  reads n (Err r) e =
      gives_from n 0 (refused_after r e n)
      (refusal_there file.now r e 0 ∙ sym (refusal_there file.now r e n))

pub reader_gives : ReaderGives
reader_gives file n = reads file n (check_of file.now) refl

pub accepted_gives : AcceptedGives
accepted_gives file said valid n = (
  λ h. (block_there file said valid n h, bytes_there file said valid n h, block_length file n (omega arith)),
  λ h. none_left file said valid n h,
)

pub refused_gives : RefusedGives
refused_gives file r refused n = (refusal_there file r refused n, ap (bytes_of file) (refusal_there file r refused n))

pub none_left_at_end : NoneLeftAtEnd
unfolding given_of
none_left_at_end file n h = at_end file n (check_of file) refl h
