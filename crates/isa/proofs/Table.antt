-- What holds of each entry of a table, what lies past its end, and how the `_` of a `match` gets there.
use mathlib.Core.Bool.{Bool, true, false}
use mathlib.Core.Path.{◌≡◌, refl, sym, ap, ◌∙◌}
use mathlib.Core.List.{List, [], ◌∷◌}
use Prim.Native.Nat.{ℕ, zero, suc, ◌+◌, ◌≤◌, zero-le}
use native.Mathlib.Nat.{le_of_suc-le-suc, not-suc-le-zero}
use native.Mathlib.Omega.{arith}
use lib.ListN.{length}
use Rattle.isa.specs.Decode.{entry, only}
use Rattle.std.specs.Prelude.{Option, None}
use Rattle.isa.specs.declared.instruction.Instruction.{Instruction}

-- each entry has P
abbrev pub All : ((Option Instruction) → Type 0) → List (Option Instruction) → Type 0
All P [] = Unit {0}
All P (d ∷ ds) = P d × All P ds

-- then what is found in the table has it, if `Undefined` has; and so with a test
module _ (P : Option Instruction → Type 0) (none : P None) where
  pub entry_keeps : (ds : List (Option Instruction)) (n : ℕ) → All P ds → P (entry ds n)
  entry_keeps [] n all = none
  entry_keeps (d ∷ ds) zero all = all.0
  entry_keeps (d ∷ ds) (suc n) all = entry_keeps ds n all.1

  pub only_keeps : (test : Bool) (d : Option Instruction) → P d → P (only test d)
  only_keeps true d p = p
  only_keeps false d p = none

pub entry_past : (ds : List (Option Instruction)) (n : ℕ) → length ds ≤ n → entry ds n ≡ None
entry_past [] n h = refl
entry_past (d ∷ ds) zero h = absurd (not-suc-le-zero h)
entry_past (d ∷ ds) (suc n) h = entry_past ds n (le_of_suc-le-suc h)

-- what the arm k of a `match` on b answers, where b is the place; and its `_`
pub arm : (ds : List (Option Instruction)) (k : ℕ) {b n : ℕ} {d : Option Instruction} → b ≡ n → b ≡ k
    → d ≡ entry ds k → d ≡ entry ds n
arm ds k place is p = p ∙ ap (entry ds) (sym is ∙ place)

pub no_arm : (ds : List (Option Instruction)) {b n : ℕ} → b ≡ n → length ds ≤ b → None ≡ entry ds n
no_arm ds place past = sym (ap (entry ds) (sym place) ∙ entry_past ds _ past)

-- a number that is not k either: for a `match` of more than six arms, which `omega` does not split
pub skip : (k : ℕ) {n : ℕ} → k ≤ n → (n ≡ k → ⊥) → k + 1 ≤ n
skip k h n = omega arith

-- what the `_` of a `match` with an arm for each number below k is told of n
abbrev pub NoneBelow : Type 0 → ℕ → ℕ → Type 0
NoneBelow B n zero = B
NoneBelow B n (suc k) = NoneBelow B n k × (n ≡ k → ⊥)

pub past : (B : Type 0) (k n : ℕ) → NoneBelow B n k → k ≤ n
past B zero n rest = zero-le
past B (suc k) n rest = let more : k + 1 ≤ n = skip k (past B k n rest.0) rest.1 in omega arith
