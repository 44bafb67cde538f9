-- A listing has at most 19 bytes for each instruction: no two labels are of the same branch.
use mathlib.Core.Bool.{Bool, true, false, cond, ◌||◌}
use mathlib.Core.List.{List}
use mathlib.Core.Path.{◌≡◌, refl, ap}
use Prim.Native.Nat.{ℕ, zero, suc, ◌+◌, ◌*◌, ◌≤◌}
use native.Mathlib.Omega.{arith}
use borrow.Author.Tests.{eqb-true, ne_eqb}
use lib.Dec.{eqb}
use lib.ListN.{length, get_or, length-append}
use Rattle.units.specs.Address.{instruction_index_of}
use Rattle.isa.specs.Decode.{decode_of}
use Rattle.targets.specs.Targets.{address_of, decoded_at, jump_at, lands_on, goes_to, targeted_below, targeted}
use Rattle.lister.specs.List.{label_line, instruction_line, lines_at, listing_below, listing_of}
use Rattle.lister.proofs.Lines.{jumps, instruction_line_is, label_most}
use Rattle.lister.proofs.Listing.{listing_more}
use Rattle.std.specs.Prelude.{Option, Some, None}
use Rattle.units.specs.declared.address.ByteAddress.{ByteAddress}

-- how many of the first n numbers pass a test
abbrev one : Bool → ℕ
one t = cond t 1 0

abbrev count : (ℕ → Bool) → ℕ → ℕ
count f zero = 0
count f (suc n) = count f n + one (f n)

count_none : (n : ℕ) → count (λ _. false) n ≡ 0
count_none zero = refl
count_none (suc n) = omega (arith, count_none n)

count_either : (f g : ℕ → Bool) (n : ℕ) → count (λ j. f j || g j) n ≤ count f n + count g n
count_either f g zero = omega arith
count_either f g (suc n) = omega (arith, count_either f g n, go (f n) (g n))
  where
    go : (s t : Bool) → one (s || t) ≤ one s + one t
    go true t = omega arith
    go false t = omega arith

-- one number at most is x
count_past : (x n : ℕ) → n ≤ x → count (eqb x) n ≡ 0
count_past x zero h = refl
count_past x (suc n) h =
    let other : eqb x n ≡ false = ne_eqb x n (omega arith) in
    omega (arith, count_past x n (omega arith), ap one other)

count_one : (x n : ℕ) → count (eqb x) n ≤ 1
count_one x zero = omega arith
count_one x (suc n) = go (eqb x n) refl (count_one x n)
  where
    go : (t : Bool) → eqb x n ≡ t → count (eqb x) n ≤ 1 → count (eqb x) n + one t ≤ 1
    go true e few = let same : x ≡ n = eqb-true x n e in omega (arith, count_past x n (omega arith))
    go false e few = omega arith

-- so no more instructions are targets than there are branches
count_landing : (t : Option ByteAddress) (n : ℕ) → count (lands_on t) n ≤ jumps t
count_landing (Some a) n = count_one (instruction_index_of a).0 n
count_landing None n = omega (arith, count_none n)

module _ (code : List ℕ) where
  abbrev jumps_below : ℕ → ℕ
  jumps_below zero = 0
  jumps_below (suc n) = jumps_below n + jumps (jump_at (address_of n) (decoded_at code n))

  targets_few : (m n : ℕ) → count (targeted_below code m) n ≤ jumps_below m
  unfolding targeted_below goes_to
  targets_few zero n = omega (arith, count_none n)
  targets_few (suc m) n =
      omega (
        arith,
        count_either (goes_to code m) (targeted_below code m) n,
        targets_few m n,
        count_landing (jump_at (address_of m) (decoded_at code m)) n,
      )

  -- the lines of an instruction, without the label that it can bring about and with its own
  lines_room : (n : ℕ)
      → length (lines_at code n) + 8 * jumps (jump_at (address_of n) (decoded_at code n))
      ≤ 19 + 8 * one (targeted code n)
  unfolding lines_at decoded_at
  lines_room n =
      let a = address_of n in
      let h = get_or code n 0 in
      omega (
        arith,
        length-append (label_line (targeted code n) a) (instruction_line a (decode_of h)),
        label_most (targeted code n) a,
        (instruction_line_is a h).room,
      )

  listing_room : (n : ℕ) → length (listing_below code n) + 8 * jumps_below n ≤ 19 * n + 8 * count (targeted code) n
  unfolding listing_below
  listing_room zero = omega arith
  listing_room (suc n) = omega (arith, listing_room n, listing_more code n, lines_room n)

  pub room_enough : length (listing_of code) ≤ 19 * length code
  unfolding targeted
  room_enough = omega (arith, listing_room (length code), targets_few (length code) (length code))
