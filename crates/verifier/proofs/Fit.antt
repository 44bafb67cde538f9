-- What a verdict that a file is fit tells of it.
use mathlib.Core.List.{List}
use mathlib.Core.Path.{◌≡◌, refl, sym, ap, ◌∙◌}
use Prim.Native.Nat.{ℕ}
use lib.ListN.{length}
use Rattle.units.proofs.Cases.{clash}
use Rattle.image.specs.Check.{first_no, check_of}
use Rattle.image.specs.Code.{code_of}
use Rattle.image.specs.declared.checker.Layout.{Layout}
use Rattle.verifier.specs.Verify.{code_checks, verdict_as, verify_code, verify_checked, verify_of}
use Rattle.std.specs.Prelude.{Result, Ok, Err, ⊤}
use Rattle.refusals.specs.declared.refusal.Refusal.{Refusal}

module _ (code : List ℕ) (layout : Layout) where
  fit_answer : (said : Layout) (a : Result ⊤ Refusal) → verdict_as layout a ≡ Ok said → (a ≡ Ok tt) × (layout ≡ said)
  fit_answer said (Ok tt) e = (refl, cc)
  fit_answer said (Err r) e = clash (cc)

  pub code_fit : (said : Layout) → verify_code code layout ≡ Ok said
      → (first_no (code_checks code layout (length code)) ≡ Ok tt) × (layout ≡ said)
  unfolding verify_code
  code_fit said e = fit_answer said (first_no (code_checks code layout (length code))) e

module _ (file : List ℕ) where
  pub checked_fit : (layout : Layout) (d : Result Layout Refusal) → verify_checked file d ≡ Ok layout
      → (d ≡ Ok layout) × (verify_code (code_of file) layout ≡ Ok layout)
  checked_fit layout (Ok said) e =
      let q : said ≡ layout = (code_fit (code_of file) said layout e).1 in
      (ap Ok q, ap (verify_code (code_of file)) (sym q) ∙ e)
  checked_fit layout (Err r) e = clash (cc)

  -- a fit file has passed checks 2 to 8
  pub fit_checked : (layout : Layout) → verify_of file ≡ Ok layout → check_of file ≡ Ok layout
  unfolding verify_of
  fit_checked layout e = (checked_fit layout (check_of file) e).0
