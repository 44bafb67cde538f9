-- Conditions that the code asks the other way round.
use Rattle.std.proofs.Common.{◌≡◌, Bool, true, false, not, ◌&&◌, ◌||◌, refl}
use mathlib.Core.Bool.{beq}

pub twice : (a : Bool) → not (not a) ≡ a
twice true = refl
twice false = refl

-- not higher is lower or the same
pub lower : (c z : Bool) → not (c && not z) ≡ (not c || z)
lower true true = refl
lower true false = refl
lower false true = refl
lower false false = refl

-- not greater is less or equal
pub not_greater : (z e : Bool) → not (not z && e) ≡ (z || not e)
not_greater true true = refl
not_greater true false = refl
not_greater false true = refl
not_greater false false = refl

-- V as an operand's sign, twice, beside a sum that has none
pub said : (v : Bool) → (not (beq v false) && not (beq v false)) ≡ v
said true = refl
said false = refl
