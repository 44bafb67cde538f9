-- A law over all defined halfwords, from a test that is computed at each.
use mathlib.Core.Path.{◌≡◌, subst}
use mathlib.Core.Bool.{Bool, true}
use Prim.Native.Nat.{ℕ, ◌<◌}
use lib.Dec.{T}
use Rattle.isa.specs.declared.instruction.Instruction.{Instruction}
use Rattle.isa.specs.Decode.{decode_of}
use Rattle.units.proofs.Every.{every, at}
use Rattle.std.specs.Prelude.{Option, Some, None}

-- a test of a halfword and its instruction, at what a halfword decodes to
abbrev pub on_defined : (ℕ → Instruction → Bool) → ℕ → Option Instruction → Bool
on_defined g h (Some i) = g h i
on_defined g h None = true

-- g passes at each defined halfword below 65,536
abbrev pub everywhere : (ℕ → Instruction → Bool) → Bool
everywhere g = every (λ h. on_defined g h (decode_of h)) 65536

pub at_defined : (g : ℕ → Instruction → Bool) → T (everywhere g) → (h : ℕ) → h < 65536 → (i : Instruction)
    → decode_of h ≡ Some i → T (g h i)
at_defined g t h l i e =
    subst (λ (d : Option Instruction). T (on_defined g h d)) e (at (λ k. on_defined g k (decode_of k)) 65536 t h l)
