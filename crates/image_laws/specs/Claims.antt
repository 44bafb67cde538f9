-- What is claimed of images as a whole ("Image blocks", "The questions", "Bench table"; Change 3).
use Rattle.std.specs.Prelude.{◌≡◌, List, [], ◌∷◌, ℕ, zero, suc, ◌-◌, ◌*◌, ◌≤◌, ◌<◌, eqb, length, get_or}
use Rattle.std.specs.Prelude.{Some, None, Ok, Err}
use Rattle.std.specs.Borrow.{Bor}
use Rattle.units.specs.Address.{wrap}
use Rattle.refusals.specs.declared.refusal.Refusal.{Refusal}
use Rattle.sums.specs.Sum.{plain_sum}
use Rattle.image.specs.Format.{block_bytes, block_halfwords}
use Rattle.image.specs.Block.{blocks_in, block_of, halfword, block_sum_of, sum_from_back}
use Rattle.image.specs.Code.{code_of}
use Rattle.image.specs.Check.{check4, layout_of, check_of}
use Rattle.reader.specs.Reader.{given_of, bytes_of, open_of, answer_of, next_of, after_next}
use Rattle.packer.specs.Pack.{image_of, pack_of, output_of}
use Rattle.image.specs.declared.checker.Layout.{Layout}
use Rattle.reader.specs.declared.reader.BlockReader.{BlockReader}

abbrev pub layout : ℕ → ℕ → ℕ → Layout
layout c w l = record { code_bytes = c; window_start = w; window_length = l }

-- what the packer makes, the check accepts, with the same c, w, l and code
abbrev pub PackThenCheck : Type 0
PackThenCheck =
    (code : List ℕ) (w l : ℕ) (out : List ℕ) → pack_of code w l (length out) ≡ Ok tt
    → (check_of (output_of code w l out) ≡ Ok (layout (2 * length code) w l))
    × (code_of (output_of code w l out) ≡ code)

-- a file of bytes
abbrev pub Bytes : List ℕ → Type 0
Bytes file = (p : ℕ) → get_or file p 0 < 256

-- an accepted file is what the packer makes of its code and window, over any output of its length:
-- every byte of it is decided
abbrev pub CheckThenPack : Type 0
CheckThenPack =
    (file : List ℕ) (c w l : ℕ) (out : List ℕ)
    → Bytes file → check_of file ≡ Ok (layout c w l) → length out ≡ length file
    → (pack_of (code_of file) w l (length out) ≡ Ok tt) × (output_of (code_of file) w l out ≡ file)

-- calls for halfwords 255 down to n of a block come to the sum of halfwords n to 255 modulo 65,536
abbrev pub BackwardSum : Type 0
BackwardSum =
    (block : List ℕ) (n : ℕ) → n < block_halfwords
    → sum_from_back block n ≡ wrap (plain_sum (halfword block) n (block_halfwords - n))

-- calls for all 256 come to the sum that check 4 speaks of, which goes in the other order
abbrev pub SameSum : Type 0
SameSum = (block : List ℕ) → sum_from_back block 0 ≡ block_sum_of block

-- so whoever sums a block from the back has the answer of check 4
abbrev pub CheckByCalls : Type 0
CheckByCalls = (block : List ℕ) → eqb (sum_from_back block 0) 0 ≡ check4 block

-- the reader of a file that is lent, when it has been called n times
unfoldable pub reader_after : Bor (List ℕ) → ℕ → BlockReader
reader_after file zero = open_of file
reader_after file (suc n) = after_next (reader_after file n)

-- it answers to its next call what is said of call n with no reader, and gives out the bytes that go with that
abbrev pub ReaderGives : Type 0
ReaderGives =
    (file : Bor (List ℕ)) (n : ℕ)
    → (answer_of (reader_after file n) ≡ given_of file.now n)
    × (next_of (reader_after file n) ≡ bytes_of file.now (given_of file.now n))

-- block n is given: where it starts, its own bytes, and that these are 512
abbrev pub GivesBlock : List ℕ → ℕ → Type 0
GivesBlock file n =
    (given_of file n ≡ Ok (Some (block_bytes * n)))
    × (bytes_of file (given_of file n) ≡ block_of file n)
    × (length (block_of file n) ≡ block_bytes)

-- an accepted file's blocks come one by one, and after the last none is left, call after call
abbrev pub AcceptedGives : Type 0
AcceptedGives =
    (file : List ℕ) (said : Layout) → check_of file ≡ Ok said → (n : ℕ)
    → (n < blocks_in file → GivesBlock file n) × (blocks_in file ≤ n → given_of file n ≡ Ok None)

-- a refused file answers its own refusal at every call, and gives no byte
abbrev pub RefusedGives : Type 0
RefusedGives =
    (file : List ℕ) (r : Refusal) → check_of file ≡ Err r → (n : ℕ)
    → (given_of file n ≡ Err r) × (bytes_of file (given_of file n) ≡ [])

-- none left is said only of an accepted file, and only after its last block
abbrev pub NoneLeftAtEnd : Type 0
NoneLeftAtEnd =
    (file : List ℕ) (n : ℕ) → given_of file n ≡ Ok None
    → (check_of file ≡ Ok (layout_of file)) × (blocks_in file ≤ n)

-- the bench table's code P, and what stands in its block
abbrev pub program : List ℕ
program = 0x21FC ∷ 0x4008 ∷ 0x2280 ∷ 0x4412 ∷ 0x4410 ∷ 0x6001 ∷ 0x0000 ∷ []

abbrev pub WorkedExample : Type 0
WorkedExample =
    (length (image_of program 256 256) ≡ 512)
    × (halfword (image_of program 256 256) 255 ≡ 0xC090)
    × (check_of (image_of program 256 256) ≡ Ok (layout 14 256 256))
    × (code_of (image_of program 256 256) ≡ program)
