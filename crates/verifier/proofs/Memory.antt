-- Loads and stores, by the two bits that tell them apart.
use mathlib.Core.Bool.{Bool, true, false, cond}
use mathlib.Core.Path.{◌≡◌, refl, ap}
use Prim.Native.Nat.{ℕ, ◌+◌, ◌*◌}
use native.Mathlib.Omega.{arith}
use borrow.Author.Tests.{eqb-true, eqb-false}
use lib.Dec.{eqb}
use lib.ListN.{set}
use Rattle.units.specs.Field.{field}
use Rattle.units.specs.declared.address.ByteAddress.{ByteAddress}
use Rattle.refusals.specs.declared.check.Check.{Check}
use Rattle.isa.specs.Decode.{entry, memory_table, memory_of}
use Rattle.image.specs.declared.checker.Layout.{Layout}
use Rattle.domain.specs.declared.value.Value.{Value}
use Rattle.checks.specs.State.{State}
use Rattle.verifier.specs.Visit.{Visited}
use Rattle.verifier.proofs.Walk.{as_known}
use Rattle.std.specs.Prelude.{Result, ⊤}

-- what is right of the table's entries for a store and a load, is right of the halfword
module _ {layout : Layout} {a : ByteAddress} {before after : State} {r : Result ⊤ Check} (h k : ℕ) (loaded : Value)
    (upper : field h 12 1 ≡ k)
    (left : after ≡ cond (eqb (field h 11 1) 0) before (set before (field h 0 3) loaded))
    (store : Visited layout a (entry (memory_table h) (2 * k)) before before r)
    (load : Visited layout a (entry (memory_table h) (2 * k + 1)) before (set before (field h 0 3) loaded) r) where
  both : field h 11 2 ≡ field h 11 1 + 2 * field h 12 1
  both = omega arith

  pub memory_visited : Visited layout a (memory_of h) before after r
  memory_visited = go (eqb (field h 11 1) 0) refl
    where
      go : (t : Bool) → eqb (field h 11 1) 0 ≡ t → Visited layout a (memory_of h) before after r
      go true e =
          let q : field h 11 2 ≡ 2 * k = omega (arith, both, eqb-true _ _ e) in
          as_known (ap (entry (memory_table h)) q) (rw (left, e) store)
      go false e =
          let one : field h 11 1 ≡ 1 = omega (arith, eqb-false _ _ e) in
          let q : field h 11 2 ≡ 2 * k + 1 = omega (arith, both) in
          as_known (ap (entry (memory_table h)) q) (rw (left, e) load)
