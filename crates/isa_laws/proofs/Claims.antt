-- The claims of specs/Claims, proved.
use mathlib.Core.Path.{◌≡◌, refl, ap, subst}
use mathlib.Core.Bool.{Bool, false}
use Prim.Native.Nat.{ℕ, ◌≤◌, ◌<◌}
use native.Mathlib.Omega.{arith}
use borrow.Author.Tests.{le-ltb}
use lib.Dec.{T, eqb, eqb→eq}
use Rattle.units.specs.declared.address.InstructionIndex.{InstructionIndex}
use Rattle.units.specs.Field.{field}
use Rattle.isa.specs.Decode.{decode_of}
use Rattle.isa.specs.Encode.{encode_of}
use Rattle.isa.proofs.Halts.{halt_own}
use Rattle.isa_laws.specs.Claims.{DecodeThenEncode, EncodeThenDecode, HaltNotes, DefinedCount, AddressesExact}
use Rattle.isa_laws.specs.Claims.{NumbersExact}
use Rattle.isa_laws.proofs.Defined.{at_defined}
use Rattle.isa_laws.proofs.There.{There, there, halt_there}
use Rattle.std.specs.Prelude.{None, Result, Ok, Err}
use Rattle.refusals.specs.declared.refusal.Refusal.{Refusal}

abbrev is_halfword : ℕ → Result ℕ Refusal → Bool
is_halfword h (Ok k) = eqb k h
is_halfword h (Err r) = false

halfword : (h : ℕ) (e : Result ℕ Refusal) → T (is_halfword h e) → e ≡ Ok h
halfword h (Ok k) t = ap Ok (eqb→eq k h t)
halfword h (Err r) t = absurd t

pub decode_then_encode : DecodeThenEncode
decode_then_encode h l i e = halfword h (encode_of i) (at_defined (λ k j. is_halfword k (encode_of j)) tt h l i e)

pub encode_then_decode : EncodeThenDecode
encode_then_decode i h e = subst (There i) e (there i)

pub halt_notes : HaltNotes
halt_notes = record { only_below = halt_own; all_below = halt_there; none_above = above }
  where
    above : (h : ℕ) → 256 ≤ h → h < 0x2000 → decode_of h ≡ None
    above h p q = let e13 : field h 13 3 ≡ 0 = omega arith in simp (e13, le-ltb h 256 p)

pub defined_count : DefinedCount
defined_count = refl

index : {a b : ℕ} → a ≡ b → ◌≡◌ {A = InstructionIndex} (record { 0 = a }) (record { 0 = b })
index e = ap (λ (x : ℕ). record { 0 = x }) e

pub addresses_exact : AddressesExact
addresses_exact i h = (omega arith, index (omega arith))

pub numbers_exact : NumbersExact
numbers_exact n = omega arith
