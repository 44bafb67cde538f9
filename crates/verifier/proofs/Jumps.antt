-- What is left of a halfword that is no branch, by its top bits.
use mathlib.Core.Bool.{Bool, true, false}
use mathlib.Core.Path.{◌≡◌, refl, sym, ap, ◌∙◌}
use Prim.Native.Nat.{ℕ, ◌+◌, ◌<◌}
use native.Mathlib.Omega.{arith}
use borrow.Author.Tests.{eqb-true, eqb-false}
use lib.Dec.{eqb, ltb, lit<}
use Rattle.units.specs.Field.{field}
use Rattle.units.specs.declared.address.ByteAddress.{ByteAddress}
use Rattle.units.proofs.Cases.{clash}
use Rattle.isa.specs.Decode.{only, decode_of}
use Rattle.isa.specs.declared.instruction.Instruction.TheVariants.{Branch}
use Rattle.isa.proofs.Formats.{is_lower_branch, is_upper_branch, is_none}
use Rattle.targets.specs.Targets.{jump_at}
use Rattle.std.specs.Prelude.{Some, None}

to_nowhere : (t : ByteAddress) → None ≡ Some t → ⊥
to_nowhere t e = clash (cc)

module _ (a : ByteAddress) (h : ℕ) (fits : h < 65536) (still : jump_at a (decode_of h) ≡ None) where
  -- a halfword with the first bits of a branch that is none
  still_lower : field h 11 5 ≡ 26 → ⊥
  still_lower e = to_nowhere _ (sym still ∙ ap (jump_at a) (is_lower_branch h fits e))

  still_upper : field h 11 5 ≡ 27 → decode_of h ≡ None
  still_upper e =
      let d = is_upper_branch h fits e in
      d ∙ go (eqb (field h 12 1) 1) (ltb (field h 8 4) 14) (sym (ap (jump_at a) d) ∙ still)
    where
      go : (t u : Bool) → jump_at a (only t (only u (Some (Branch (field h 8 4) (field h 0 8))))) ≡ None
          → only t (only u (Some (Branch (field h 8 4) (field h 0 8)))) ≡ None
      go true true q = absurd (to_nowhere _ (sym q))
      go true false q = refl
      go false u q = refl

  -- what the last arm of a `match` on the top five bits is told, where operations on registers, loads and
  -- stores are out of the way
  pub is_undefined : {B : Type 0} (n : ℕ) → n ≡ field h 11 5 → (field h 13 3 ≡ 2 → ⊥) → (field h 13 3 ≡ 3 → ⊥)
      → (((B × (n ≡ 0 → ⊥)) × (n ≡ 4 → ⊥)) × (n ≡ 5 → ⊥)) × (n ≡ 20 → ⊥)
      → decode_of h ≡ None
  is_undefined n told registers memory rest = go (eqb n 27) refl
    where
      go : (t : Bool) → eqb n 27 ≡ t → decode_of h ≡ None
      go true e = still_upper (sym told ∙ eqb-true n 27 e)
      go false e =
          let r : n ≡ 8 → ⊥ = λ z. registers (omega (arith, told)) in
          let m : (k : ℕ) → k < 4 → n ≡ 12 + k → ⊥ = λ k l z. memory (omega (arith, told)) in
          is_none h fits n told (
            (
              ((((((rest.0, r), m 0 (lit< tt)), m 1 (lit< tt)), m 2 (lit< tt)), m 3 (lit< tt)), rest.1),
              λ z. still_lower (sym told ∙ z),
            ),
            eqb-false n 27 e,
          )
