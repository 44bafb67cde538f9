-- A file is fit exactly when every check gets a yes, and refused by the first no.
use mathlib.Core.List.{List}
use mathlib.Core.Logic.{◌⊎◌, inl, inr}
use mathlib.Core.Path.{◌≡◌, refl, sym, ap, ◌∙◌}
use Prim.Native.Nat.{ℕ, zero, suc, ◌<◌}
use native.Mathlib.Omega.{arith}
use lib.Dec.{eqb}
use lib.ListN.{length, get_or}
use Rattle.units.proofs.Cases.{clash}
use Rattle.refusals.specs.declared.refusal.Refusal.{Refusal}
use Rattle.image.specs.Check.{Asked, first_no, rows_below, check_of}
use Rattle.image.specs.Code.{code_of}
use Rattle.image.specs.declared.checker.Layout.{Layout}
use Rattle.image.proofs.Answers.{head_passed, tail_passed, next, stands, each_passed, all_passed}
use Rattle.targets.specs.Targets.{address_of, decoded_at}
use Rattle.checks.specs.Questions.{halfword_checks}
use Rattle.verifier.specs.Verify.{values_at, checks_at, code_checks, verdict_as, verify_code, verify_checked, verify_of}
use Rattle.verifier.proofs.Walk.{refusal, fit}
use Rattle.verifier.proofs.Fit.{code_fit, checked_fit, fit_checked}
use Rattle.verifier_laws.specs.Passes.{Passes}
use Rattle.verifier_laws.specs.Claims.{PassesExactly, RefusedInCode, RefusesExactly}
use Rattle.std.specs.Prelude.{Option, Some, None, Result, Ok, Err, ⊤}
use Rattle.isa.specs.declared.instruction.Instruction.{Instruction}

-- where rows of checks are refused, there is a first row that is
module _ (row : ℕ → List Asked) (r : Refusal) where
  abbrev FirstBelow : ℕ → Type 0
  FirstBelow n = (i : ℕ) × (i < n) × (first_no (rows_below row i) ≡ Ok tt) × (first_no (row i) ≡ Err r)

  first_no_is : (n : ℕ) → first_no (rows_below row n) ≡ Err r → FirstBelow n
  unfolding rows_below first_no
  first_no_is zero e = clash (cc)
  first_no_is (suc n) e = go (first_no (rows_below row n)) refl (first_no_is n)
    where
      go : (a : Result ⊤ Refusal) → first_no (rows_below row n) ≡ a
          → (first_no (rows_below row n) ≡ Err r → FirstBelow n) → FirstBelow (suc n)
      go (Ok tt) q rest = (n, omega arith, q, sym (next row n q) ∙ e)
      go (Err s) q rest =
          let t = rest (q ∙ sym (stands row n (suc n) s (omega arith) q) ∙ e) in
          (t.0, omega (arith, t.1), t.2, t.3)

module _ (code : List ℕ) (layout : Layout) where
  -- ---- one instruction

  passes : (i : ℕ) (d : Option Instruction) → decoded_at code i ≡ d
      → first_no (halfword_checks (values_at code i) layout (address_of i) (eqb (suc i) (length code)) (get_or code i 0)
      d)
      ≡ Ok tt
      → Passes code layout i
  passes i (Some instruction) q e₉ =
      let e₁₀ = tail_passed _ _ e₉ in
      let e₁₁ = tail_passed _ _ e₁₀ in
      let e₁₂ = tail_passed _ _ e₁₁ in
      let e₁₃ = tail_passed _ _ e₁₂ in
      let e₁₄ = tail_passed _ _ e₁₃ in
      record {
        instruction = instruction;
        passes9 = q;
        passes10 = head_passed _ _ e₁₀;
        passes11 = head_passed _ _ e₁₁;
        passes12 = head_passed _ _ e₁₂;
        passes13 = head_passed _ _ e₁₃;
        passes14 = head_passed _ _ e₁₄;
      }
  passes i None q e = let p = head_passed _ _ e in clash (cc)

  checks_pass : (i : ℕ) → Passes code layout i → first_no (checks_at code layout i) ≡ Ok tt
  unfolding first_no
  checks_pass i p = rw (p.passes9, p.passes10, p.passes11, p.passes12, p.passes13, p.passes14) refl

  -- ---- the code

  below_passes : (n i : ℕ) → first_no (code_checks code layout n) ≡ Ok tt → i < n → Passes code layout i
  below_passes n i e h = passes i (decoded_at code i) refl (each_passed (checks_at code layout) i n h e)

  below_pass : (n : ℕ) → ((i : ℕ) → i < n → Passes code layout i) → first_no (code_checks code layout n) ≡ Ok tt
  below_pass n all = all_passed (checks_at code layout) n (λ i h. checks_pass i (all i h))

  -- ---- the verdict on the code

  refused_answer : (r : Refusal) (a : Result ⊤ Refusal) → verdict_as layout a ≡ Err r → a ≡ Err r
  refused_answer r (Ok tt) e = clash (cc)
  refused_answer r (Err s) e = cc

  code_refused : (r : Refusal) → verify_code code layout ≡ Err r
      → first_no (code_checks code layout (length code)) ≡ Err r
  unfolding verify_code
  code_refused r e = refused_answer r (first_no (code_checks code layout (length code))) e

-- ---- the file

module _ (file : List ℕ) where
  module _ (layout : Layout) where
    -- each instruction of a fit file's code passes checks 9 to 14
    pub fit_passes : verify_of file ≡ Ok layout → (i : ℕ) → i < length (code_of file) → Passes (code_of file) layout i
    unfolding verify_of
    fit_passes e i h =
        below_passes (code_of file) layout (length (code_of file)) i
        (code_fit (code_of file) layout layout (checked_fit file layout (check_of file) e).1).0 h

    -- and there is no more to it
    passes_fit : check_of file ≡ Ok layout
        → ((i : ℕ) → i < length (code_of file) → Passes (code_of file) layout i) → verify_of file ≡ Ok layout
    unfolding verify_of
    passes_fit ok all =
        ap (verify_checked file) ok
        ∙ sym (fit (code_of file) layout (below_pass (code_of file) layout (length (code_of file)) all))

  -- a refused file fails one of checks 2 to 8, or has a first instruction that does not pass
  refused_first : (r : Refusal) (d : Result Layout Refusal) → check_of file ≡ d → verify_checked file d ≡ Err r
      → (check_of file ≡ Err r) ⊎ RefusedInCode file r
  refused_first r (Ok layout) ok e =
      let code = code_of file in
      let f = first_no_is (checks_at code layout) r (length code) (code_refused code layout r e) in
      inr (record {
        layout = layout;
        accepted = ok;
        index = f.0;
        inside = f.1;
        before = λ k h. below_passes code layout f.0 k f.2 (omega arith);
        no = f.3;
      })
  refused_first r (Err s) ok e = let q : s ≡ r = cc in inl (ok ∙ ap Err q)

  first_refused : (r : Refusal) → (check_of file ≡ Err r) ⊎ RefusedInCode file r → verify_of file
      ≡ Err r
  unfolding verify_of
  first_refused r (inl e) = ap (verify_checked file) e
  first_refused r (inr f) =
      ap (verify_checked file) f.accepted
      ∙ sym (refusal (code_of file) f.layout f.index r f.inside
      (below_pass (code_of file) f.layout f.index (λ k h. f.before k (omega arith))) f.no)

pub passes_exactly : PassesExactly
passes_exactly file layout = (
  λ e. (fit_checked file layout e, λ i h. fit_passes file layout e i (omega arith)),
  λ p. passes_fit file layout p.0 (λ i h. p.1 i (omega arith)),
)

pub refuses_exactly : RefusesExactly
unfolding verify_of
refuses_exactly file r = (refused_first file r (check_of file) refl, first_refused file r)
