-- What a field that was tested is.
use Rattle.std.specs.Prelude.{Bool, true, false, ◌≡◌, ℕ, ◌<◌, ltb, Result, Ok}
use Rattle.std.proofs.Common.{refl, sym, ◌∙◌}
use borrow.Author.Tests.{ltb-true}
use Rattle.units.proofs.Cases.{clash}
use Rattle.refusals.specs.declared.refusal.Refusal.{Refusal}
use Rattle.isa.specs.Encode.{given}

-- it is below its limit, and what was asked for
pub below_is : {v limit s : ℕ} {r : Result ℕ Refusal} → r ≡ given (ltb v limit) (Ok v) → r ≡ Ok s
    → (v < limit) × (s ≡ v)
below_is {v} {limit} {s} e is = go (ltb v limit) refl (sym e ∙ is)
  where
    go : (t : Bool) → ltb v limit ≡ t → given t (Ok v) ≡ Ok s → (v < limit) × (s ≡ v)
    go true p q = (ltb-true v limit p, cc)
    go false p q = clash (cc)
