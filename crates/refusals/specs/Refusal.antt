-- Refusals ("The questions"): the first check that failed, and its place.
use Rattle.std.specs.Prelude.{ℕ, ◌+◌, ◌*◌}
use Rattle.units.specs.declared.address.ByteAddress.{ByteAddress}
use Rattle.refusals.specs.declared.check.Check.{Check}
use Rattle.refusals.specs.declared.refusal.Place.{Place}
use Rattle.refusals.specs.declared.refusal.Place.TheVariants.{Nowhere, Block, Address}
use Rattle.refusals.specs.declared.refusal.Refusal.{Refusal}
use Rattle.refusals.specs.Check.{check_number}

-- a refusal with no place: checks 1, 2, 8 and 15 to 17
abbrev pub refusal : Check → Refusal
refusal check = record { check = check; place = Nowhere }

-- at a block: checks 3 to 7
abbrev pub refusal_in_block : Check → ℕ → Refusal
refusal_in_block check block = record { check = check; place = Block block }

-- at the byte address of an instruction: checks 9 to 14
abbrev pub refusal_at : Check → ByteAddress → Refusal
refusal_at check a = record { check = check; place = Address a }

-- the papers' one number for a place: the block, the byte address, or 0
abbrev pub place_number : Place → ℕ
place_number Nowhere = 0
place_number (Block b) = b
place_number (Address a) = a.0

-- a refusal as one number, as the C face answers it: the number of its check, and above it its place
abbrev pub refusal_word : Refusal → ℕ
refusal_word r = check_number r.check + place_number r.place * 0x10000
