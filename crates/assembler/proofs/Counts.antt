-- Instructions are counted one line more.
use mathlib.Core.Bool.{Bool, true, false, cond}
use mathlib.Core.List.{List, [], ◌∷◌, ◌++◌}
use mathlib.Core.Path.{◌≡◌, refl, ap, sym, ◌∙◌}
use Prim.Native.Nat.{suc, ◌+◌, ◌≤◌}
use native.Mathlib.Omega.{arith}
use lib.ListN.{length}
use Rattle.syntax.specs.Syntax.{Item}
use Rattle.assembler.specs.Assemble.{is_label, instructions_in, next_number}

pub instructions_append : (xs : List Item) (x : Item)
    → instructions_in (xs ++ (x ∷ [])) ≡ instructions_in xs + instructions_in (x ∷ [])
instructions_append [] x = omega arith
instructions_append (y ∷ xs) x = go (is_label y) (instructions_append xs x)
  where
    go : (b : Bool) → instructions_in (xs ++ (x ∷ [])) ≡ instructions_in xs + instructions_in (x ∷ [])
        → cond b (instructions_in (xs ++ (x ∷ []))) (suc (instructions_in (xs ++ (x ∷ []))))
        ≡ cond b (instructions_in xs) (suc (instructions_in xs)) + instructions_in (x ∷ [])
    go true e = e
    go false e = omega arith

-- behind a label, and behind an instruction
pub label_counted : (xs : List Item) (x : Item) → is_label x ≡ true → instructions_in (xs ++ (x ∷ []))
    ≡ instructions_in xs
label_counted xs x e =
    instructions_append xs x ∙ ap (λ (b : Bool). instructions_in xs + cond b 0 1) e ∙ omega arith

pub instruction_counted : (xs : List Item) (x : Item) → is_label x ≡ false
    → instructions_in (xs ++ (x ∷ [])) ≡ suc (instructions_in xs)
instruction_counted xs x e =
    instructions_append xs x ∙ ap (λ (b : Bool). instructions_in xs + cond b 0 1) e ∙ omega arith

pub next_counted : (xs : List Item) (x : Item) → next_number x (instructions_in xs) ≡ instructions_in (xs ++ (x ∷ []))
next_counted xs x = go (is_label x) refl
  where
    go : (b : Bool) → is_label x ≡ b
        → cond b (instructions_in xs) (suc (instructions_in xs)) ≡ instructions_in (xs ++ (x ∷ []))
    go true e = sym (label_counted xs x e)
    go false e = sym (instruction_counted xs x e)

pub count_le : (xs : List Item) → instructions_in xs ≤ length xs
count_le [] = omega arith
count_le (x ∷ xs) = go (is_label x) (count_le xs)
  where
    go : (b : Bool) → instructions_in xs ≤ length xs
        → cond b (instructions_in xs) (suc (instructions_in xs)) ≤ suc (length xs)
    go true h = omega arith
    go false h = omega arith
