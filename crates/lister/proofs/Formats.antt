-- The text behind a line's first characters, by the bits that tell the format.
use mathlib.Core.List.{◌++◌}
use mathlib.Core.Path.{◌≡◌, refl, ◌∙◌}
use Prim.Native.Nat.{ℕ, zero, suc}
use borrow.Author.Tests.{ne_eqb}
use Rattle.units.specs.Address.{branch_target_of}
use Rattle.units.specs.Field.{field}
use Rattle.units.specs.declared.address.ByteAddress.{ByteAddress}
use Rattle.text.specs.Text.{quoted}
use Rattle.lister.specs.Lines.{transfer_text, target_text, memory_text, operands_at}
use Rattle.lister.specs.Lines.{operands_of}

-- a load or store
module _ (h : ℕ) {n rd rb offset : ℕ} (place : n ≡ field h 12 1) (p : rd ≡ field h 0 3) (q : rb ≡ field h 3 3)
    (o : offset ≡ field h 6 5) where
  pub of_byte : (n ≡ 0 → ⊥) → memory_text h ≡ quoted " " ++ transfer_text rd rb offset
  of_byte f =
      let byte : field h 12 1 ≡ 0 → ⊥ = λ e. f (place ∙ e) in
      rw (ne_eqb (field h 12 1) 0 byte, p, q, o) refl

-- what the `_` of a `match` on the top three bits writes
module _ (a : ByteAddress) (h : ℕ) {n : ℕ} (place : n ≡ field h 13 3) where
  pub operands_rest : {B : Type 0}
      → ((((B × (n ≡ 0 → ⊥)) × (n ≡ 1 → ⊥)) × (n ≡ 2 → ⊥)) × (n ≡ 3 → ⊥)) × (n ≡ 5 → ⊥)
      → operands_of a h ≡ target_text (branch_target_of a (field h 0 8))
  operands_rest rest = go (field h 13 3) (rw place at rest)
    where
      go : {B : Type 0} (n : ℕ)
          → ((((B × (n ≡ 0 → ⊥)) × (n ≡ 1 → ⊥)) × (n ≡ 2 → ⊥)) × (n ≡ 3 → ⊥)) × (n ≡ 5 → ⊥)
          → operands_at a h n ≡ target_text (branch_target_of a (field h 0 8))
      go zero r = absurd (r.0.0.0.0.1 refl)
      go (suc zero) r = absurd (r.0.0.0.1 refl)
      go (suc (suc zero)) r = absurd (r.0.0.1 refl)
      go (suc (suc (suc zero))) r = absurd (r.0.1 refl)
      go (suc (suc (suc (suc zero)))) r = refl
      go (suc (suc (suc (suc (suc zero))))) r = absurd (r.1 refl)
      go (suc (suc (suc (suc (suc (suc n)))))) r = refl
