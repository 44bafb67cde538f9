-- A listing, instruction by instruction.
use mathlib.Core.Bool.{Bool}
use mathlib.Core.List.{List}
use mathlib.Core.Path.{◌≡◌, refl, sym, ap, ◌∙◌}
use Prim.Native.Nat.{ℕ, zero, suc, ◌+◌, ◌*◌, ◌≤◌, ◌<◌}
use native.Mathlib.Decide.{le_ind}
use native.Mathlib.Numerals.{add-one}
use native.Mathlib.Omega.{arith}
use lib.ListN.{length, get_or, length-append}
use Rattle.units.specs.Address.{byte_address_of}
use Rattle.units.specs.declared.address.ByteAddress.{ByteAddress}
use Rattle.units.specs.declared.address.InstructionIndex.{InstructionIndex}
use Rattle.isa.specs.Decode.{decode_of}
use Rattle.image.specs.Format.{most_code}
use Rattle.targets.specs.Targets.{address_of, decoded_at, targeted, marked_at}
use Rattle.text.specs.Writes.{Fits, Grew}
use Rattle.text.specs.declared.writer.Writer.{Writer}
use Rattle.text.proofs.Writing.{grew_as, ◌then◌}
use Rattle.lister.specs.List.{label_line, instruction_line, lines_at, listing_below, listing_of}
use Rattle.lister.specs.Passes.{lines_with, Labelled}
use Rattle.lister.proofs.Lines.{lines_most}
use Rattle.std.specs.Prelude.{Option}
use Rattle.isa.specs.declared.instruction.Instruction.{Instruction}

-- one instruction more
module _ (code : List ℕ) where
  pub listing_more : (n : ℕ)
      → length (listing_below code (suc n)) ≡ length (listing_below code n) + length (lines_at code n)
  unfolding listing_below
  listing_more n = length-append (listing_below code n) (lines_at code n)

  lines_at_most : (n : ℕ) → length (lines_at code n) ≤ 27
  unfolding lines_at decoded_at
  lines_at_most n =
      simp length-append (omega (arith, lines_most (targeted code n) (address_of n) (get_or code n 0)))

  pub listing_most : (n : ℕ) → length (listing_below code n) ≤ 27 * n
  unfolding listing_below
  listing_most zero = omega arith
  listing_most (suc n) = omega (arith, listing_most n, listing_more n, lines_at_most n)

  pub listing_grows : (k n : ℕ) → k ≤ n → length (listing_below code k) ≤ length (listing_below code n)
  listing_grows k n h =
      le_ind (λ (m : ℕ). length (listing_below code k) ≤ length (listing_below code m)) (omega arith)
      (λ m _ ih. omega (arith, listing_more m)) n h

-- instruction k of a code whose targets are marked
module _ (code marks : List ℕ) (is : Labelled code marks) (k : ℕ) (inside : k < length code) where
  pub number_small : k < most_code
  number_small = omega (arith, is.fits)

  pub lines_are : lines_with (marked_at marks k) (address_of k) (decode_of (get_or code k 0)) ≡ lines_at code k
  unfolding lines_at decoded_at
  lines_are = ap (λ (t : Bool). lines_with t (address_of k) (decoded_at code k)) (is.marked k number_small)

  -- its length is added to that of the listing so far
  pub measured_more : (n r : ℕ) → n ≡ length (listing_below code k)
      → r ≡ length (lines_with (marked_at marks k) (address_of k) (decode_of (get_or code k 0)))
      → n + r ≡ length (listing_below code (k + 1))
  measured_more n r e f =
      let line : r ≡ length (lines_at code k) = f ∙ ap length lines_are in
      rw add-one (omega (arith, listing_more code k))

  pub measured_small : (n r : ℕ) → n ≡ length (listing_below code k)
      → r ≡ length (lines_with (marked_at marks k) (address_of k) (decode_of (get_or code k 0)))
      → n + r ≤ 27 * most_code
  measured_small n r e f =
      omega (arith, measured_more n r e f, listing_most code (k + 1), number_small)

  -- it is written behind the listing so far
  module _ {before now : Writer} (g : Grew (listing_below code k) before now) where
    pub lines_fit : before.at + length (listing_of code) ≤ length before.room.now
        → Fits (lines_with (marked_at marks k) (address_of k) (decode_of (get_or code k 0))) now
    lines_fit room =
        let all = measured_more _ _ refl refl in
        omega (arith, g.place, g.kept, all, listing_grows code (k + 1) (length code) (omega arith))

    pub lines_next : {after : Writer}
        → Grew (lines_with (marked_at marks k) (address_of k) (decode_of (get_or code k 0))) now after
        → Grew (listing_below code (k + 1)) before after
    unfolding listing_below
    lines_next p = rw add-one (g then grew_as (sym lines_are) p)

-- label and line, at the address and with the mark of instruction i
module _ (marks : List ℕ) (i : InstructionIndex) (a : ByteAddress) (there : a ≡ byte_address_of i) (t : Bool)
    (told : t ≡ marked_at marks i.0) (d : Option Instruction) where
  pub lines_told : lines_with t a d ≡ lines_with (marked_at marks i.0) (byte_address_of i) d
  lines_told = rw (there, told) refl

-- their length
pub lines_short : (t : Bool) (a : ByteAddress) (h : ℕ) → length (lines_with t a (decode_of h)) ≤ 27
lines_short t a h = omega (arith, length-append (label_line t a) (instruction_line a (decode_of h)), lines_most t a h)
