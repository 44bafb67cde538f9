-- Rows of checks: the first no stands, whatever is put after it.
use mathlib.Core.Bool.{Bool, true, false, not, ◌&&◌, cond}
use mathlib.Core.Path.{◌≡◌, refl, sym, ap, ◌∙◌}
use mathlib.Core.List.{List, [], ◌∷◌, ◌++◌}
use Prim.Native.Nat.{ℕ, zero, suc, ◌+◌, ◌≤◌, ◌<◌}
use native.Mathlib.Decide.{le_ind}
use native.Mathlib.Numerals.{add-one}
use native.Mathlib.Omega.{arith}
use borrow.Author.Tests.{ne_eqb, eqb-true, eqb-false, not-true, not-false}
use lib.Bits.{bit_or, or_zero_l, or_add_and, and_le_r}
use lib.Dec.{eqb}
use Rattle.units.proofs.Cases.{clash}
use Rattle.refusals.specs.declared.refusal.Refusal.{Refusal}
use Rattle.image.specs.Block.{code_halfword}
use Rattle.image.specs.Check.{Asked, first_no, rows_below, unused_zero}
use Rattle.std.specs.Prelude.{Result, Ok, Err, ⊤}

-- what a test says of its check, where the code asks for its opposite: `search (.., told)` finds it
pub told_yes : (t u : Bool) → t ≡ u → not t ≡ false → u ≡ true
told_yes t u e h = sym e ∙ not-false t h

pub told_no : (t u : Bool) → t ≡ u → not t ≡ true → u ≡ false
told_no t u e h = sym e ∙ not-true t h

pub ruleset told = (told_yes, told_no)

-- the first answer, or the second if that passed
abbrev pub or_else : Result ⊤ Refusal → Result ⊤ Refusal → Result ⊤ Refusal
or_else (Ok tt) b = b
or_else (Err r) b = Err r

pub first_append : (a b : List Asked) → first_no (a ++ b) ≡ or_else (first_no a) (first_no b)
unfolding first_no
first_append [] b = refl
first_append (q ∷ qs) b = go q.passed (first_append qs b)
  where
    go : (t : Bool) → first_no (qs ++ b) ≡ or_else (first_no qs) (first_no b)
        → cond t (first_no (qs ++ b)) (Err q.otherwise)
        ≡ or_else (cond t (first_no qs) (Err q.otherwise)) (first_no b)
    go true e = e
    go false e = refl

pub passed_head : (q : Asked) (qs : List Asked) → q.passed ≡ true → first_no (q ∷ qs) ≡ first_no qs
unfolding first_no
passed_head q qs e = ap (λ (t : Bool). cond t (first_no qs) (Err q.otherwise)) e

-- where a row passes, so does its head, and so does its tail
pub head_passed : (q : Asked) (qs : List Asked) → first_no (q ∷ qs) ≡ Ok tt → q.passed ≡ true
unfolding first_no
head_passed q qs e = go q.passed e
  where
    go : (t : Bool) → cond t (first_no qs) (Err q.otherwise) ≡ Ok tt → t ≡ true
    go true e = refl
    go false e = clash (cc)

pub tail_passed : (q : Asked) (qs : List Asked) → first_no (q ∷ qs) ≡ Ok tt → first_no qs ≡ Ok tt
unfolding first_no
tail_passed q qs e = go q.passed e
  where
    go : (t : Bool) → cond t (first_no qs) (Err q.otherwise) ≡ Ok tt → first_no qs ≡ Ok tt
    go true e = e
    go false e = clash (cc)

or_left : (a b : Result ⊤ Refusal) → or_else a b ≡ Ok tt → a ≡ Ok tt
or_left (Ok tt) b e = refl
or_left (Err r) b e = e

or_right : (a b : Result ⊤ Refusal) → or_else a b ≡ Ok tt → b ≡ Ok tt
or_right (Ok tt) b e = e
or_right (Err r) b e = clash (cc)

pub left_passed : (a b : List Asked) → first_no (a ++ b) ≡ Ok tt → first_no a ≡ Ok tt
left_passed a b e = or_left (first_no a) (first_no b) (sym (first_append a b) ∙ e)

pub right_passed : (a b : List Asked) → first_no (a ++ b) ≡ Ok tt → first_no b ≡ Ok tt
right_passed a b e = or_right (first_no a) (first_no b) (sym (first_append a b) ∙ e)

-- rows of checks
module _ (row : ℕ → List Asked) where
  -- the rows before row n have passed: it decides
  pub next : (n : ℕ) → first_no (rows_below row n) ≡ Ok tt → first_no (rows_below row (suc n)) ≡ first_no (row n)
  unfolding rows_below
  next n e = first_append (rows_below row n) (row n) ∙ ap (λ (a : Result ⊤ Refusal). or_else a (first_no (row n))) e

  -- a refusal stands
  pub stands : (k n : ℕ) (r : Refusal) → k ≤ n → first_no (rows_below row k) ≡ Err r
      → first_no (rows_below row n) ≡ Err r
  unfolding rows_below
  stands k n r h e =
      le_ind (λ (m : ℕ). first_no (rows_below row m) ≡ Err r) e
      (λ m _ ih.
      first_append (rows_below row m) (row m) ∙ ap (λ (a : Result ⊤ Refusal). or_else a (first_no (row m))) ih)
      n h

  -- the rows before row k have passed, and a is what row k comes to
  module _ (k : ℕ) (before : first_no (rows_below row k) ≡ Ok tt) (a : Result ⊤ Refusal)
      (is : a ≡ first_no (row k)) where
    pub refused_at : (n : ℕ) (r : Refusal) → a ≡ Err r → k < n → Err r ≡ first_no (rows_below row n)
    refused_at n r e h = sym (stands (suc k) n r h (next k before ∙ sym is ∙ e))

    pub passed_too : a ≡ Ok tt → first_no (rows_below row (k + 1)) ≡ Ok tt
    passed_too e = rw add-one (next k before ∙ sym is ∙ e)

  -- the rows pass exactly when each does
  pub each_passed : (k n : ℕ) → k < n → first_no (rows_below row n) ≡ Ok tt → first_no (row k) ≡ Ok tt
  unfolding rows_below
  each_passed k n h =
      le_ind (λ (m : ℕ). first_no (rows_below row m) ≡ Ok tt → first_no (row k) ≡ Ok tt)
      (right_passed (rows_below row k) (row k))
      (λ m _ ih e. ih (left_passed (rows_below row m) (row m) e))
      n h

  pub all_passed : (n : ℕ) → ((k : ℕ) → k < n → first_no (row k) ≡ Ok tt) → first_no (rows_below row n) ≡ Ok tt
  unfolding rows_below first_no
  all_passed zero each = refl
  all_passed (suc n) each = next n (all_passed n (λ k h. each k (omega arith))) ∙ each n (omega arith)

-- halfwords put together are 0 where both are
or_is_zero : (a b : ℕ) → eqb (bit_or a b) 0 ≡ (eqb a 0 && eqb b 0)
or_is_zero a b = go (eqb a 0) refl
  where
    go : (t : Bool) → eqb a 0 ≡ t → eqb (bit_or a b) 0 ≡ (eqb a 0 && eqb b 0)
    go true e = let z : a ≡ 0 = eqb-true a 0 e in rw z (ap (λ (x : ℕ). eqb x 0) (or_zero_l b))
    go false e =
        let n : bit_or a b ≡ 0 → ⊥ = λ z. eqb-false a 0 e (omega (arith, or_add_and a b, and_le_r a b, z)) in
        rw e (ne_eqb (bit_or a b) 0 n)

-- one unused halfword more
pub zero_more : (block : List ℕ) (used n all h : ℕ)
    → eqb all 0 ≡ unused_zero block used n → h ≡ code_halfword block (used + n)
    → eqb (bit_or all h) 0 ≡ unused_zero block used (suc n)
unfolding unused_zero
zero_more block used n all h e q = or_is_zero all h ∙ rw (e, q)
