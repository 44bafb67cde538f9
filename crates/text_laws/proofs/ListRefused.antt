-- Each refusal of the lister, exactly for its reason.
use mathlib.Core.Bool.{Bool, true, false, cond}
use mathlib.Core.List.{List, [], ◌∷◌, ◌++◌}
use mathlib.Core.Path.{◌≡◌, refl, ap, sym, ◌∙◌, subst}
use Prim.Native.Nat.{ℕ, zero, suc, ◌<◌}
use native.Mathlib.Omega.{arith}
use lib.ListN.{length}
use borrow.Author.Tests.{leb-false, lt-leb}
use Rattle.units.proofs.Cases.{clash}
use Rattle.refusals.specs.declared.check.Check.TheVariants as check
use Rattle.refusals.specs.Refusal.{refusal, refusal_at}
use Rattle.refusals.specs.declared.refusal.Refusal.{Refusal}
use Rattle.image.specs.Check.{Asked, whole, first_no, rows_below}
use Rattle.image.proofs.Answers.{or_else, first_append, next, stands, each_passed, all_passed}
use Rattle.targets.specs.Targets.{address_of, decoded_at}
use Rattle.checks.specs.Questions.{check13}
use Rattle.text.specs.Text.{Text}
use Rattle.lister.specs.List.{Refuses, listing_of, layout_for, instruction_checks, checks_at, check15}
use Rattle.lister.specs.List.{check16, list_checks, listing_as, list_of}
use Rattle.text_laws.specs.ListReasons.{Listable, ListableTo, ListReason, wrong_count, undefined, outside}
use Rattle.text_laws.specs.ListReasons.{too_short}
use Rattle.text_laws.specs.Claims.{ListRefusedExact}
use Rattle.text_laws.proofs.Refused.{count_wrong, wrong_count15, count_right, right_count15}
use Rattle.text_laws.proofs.RoundTrip.{instruction_in, row_passes}
use Rattle.std.specs.Prelude.{Option, Some, None, Result, Ok, Err, ⊤}
use Rattle.isa.specs.declared.instruction.Instruction.{Instruction}

-- where rows of checks are refused, there is a first row that is
module _ (row : ℕ → List Asked) (r : Refusal) where
  abbrev FirstBelow : ℕ → Type 0
  FirstBelow n = (i : ℕ) × (i < n) × (first_no (rows_below row i) ≡ Ok tt) × (first_no (row i) ≡ Err r)

  first_no_is : (n : ℕ) → first_no (rows_below row n) ≡ Err r → FirstBelow n
  unfolding rows_below first_no
  first_no_is zero e = clash (cc)
  first_no_is (suc n) e = go (first_no (rows_below row n)) refl (first_no_is n)
    where
      go : (a : Result ⊤ Refusal) → first_no (rows_below row n) ≡ a
          → (first_no (rows_below row n) ≡ Err r → FirstBelow n) → FirstBelow (suc n)
      go (Ok tt) q rest = (n, omega arith, q, sym (next row n q) ∙ e)
      go (Err s) q rest =
          let t = rest (q ∙ sym (stands row n (suc n) s (omega arith) q) ∙ e) in
          (t.0, omega (arith, t.1), t.2, t.3)

abbrev passed : Result ⊤ Refusal
passed = Ok tt

module _ (code : List ℕ) (size : ℕ) where
  abbrev rows : List Asked
  rows = rows_below (checks_at code) (length code)

  abbrev last : List Asked
  last = whole check.OutputLength (check16 code size) ∷ []

  listable : (i : ℕ) → first_no (checks_at code i) ≡ Ok tt → Listable code i
  listable i e =
      let p = row_passes (layout_for code) (address_of i) (decoded_at code i) e in
      record { instruction = instruction_in (decoded_at code i); passes9 = p.0; passes13 = p.1 }

  listable_passes : (i : ℕ) → Listable code i → first_no (checks_at code i) ≡ Ok tt
  unfolding first_no
  listable_passes i l = rw (l.passes9, l.passes13) refl

  -- the code fits an image, and the rows before row n have passed
  to_row : (n : ℕ) → check15 code ≡ true → first_no (rows_below (checks_at code) n) ≡ Ok tt → ListableTo code n
  to_row n c e =
      let right = count_right (length code) c in
      record {
        some_code = right.0;
        fits_image = right.1;
        before = λ i h. listable i (each_passed (checks_at code) i n h e);
      }

  rows_pass : (n : ℕ) → ListableTo code n → first_no (rows_below (checks_at code) n) ≡ Ok tt
  rows_pass n l = all_passed (checks_at code) n (λ i h. listable_passes i (l.before i h))

  counted : (n : ℕ) → ListableTo code n → check15 code ≡ true
  counted n l = right_count15 (length code) l.some_code l.fits_image

  -- a row's own refusal
  row_refused : (n : ℕ) (r : Refusal) → n < length code → ListableTo code n → (d : Option Instruction)
      → decoded_at code n ≡ d
      → first_no (instruction_checks (layout_for code) (address_of n) d) ≡ Err r → ListReason code size r
  unfolding first_no
  row_refused n r h l None q e =
      let same : refusal_at check.Defined (address_of n) ≡ r = cc in
      subst (ListReason code size) same (undefined n h l q)
  row_refused n r h l (Some x) q e = go (check13 (layout_for code) (address_of n) x) refl e
    where
      go : (b : Bool) → check13 (layout_for code) (address_of n) x ≡ b
          → cond b passed (Err (refusal_at check.Target (address_of n))) ≡ Err r → ListReason code size r
      go true p e = clash (cc)
      go false p e =
          let same : refusal_at check.Target (address_of n) ≡ r = cc in
          subst (ListReason code size) same (outside n x h l q p)

  -- why an answer is what it is
  abbrev Because : Result ⊤ Refusal → Type 0
  Because (Ok tt) = Unit {0}
  Because (Err r) = ListReason code size r

  because_last : check15 code ≡ true → first_no rows ≡ Ok tt → Because (first_no last)
  unfolding first_no
  because_last c e = go (check16 code size) refl
    where
      go : (b : Bool) → check16 code size ≡ b → Because (cond b passed (Err (refusal check.OutputLength)))
      go true p = tt
      go false p =
          let short : size < length (listing_of code) = leb-false (length (listing_of code)) size p in
          too_short (to_row (length code) c e) (omega arith)

  because_rows : check15 code ≡ true → (a : Result ⊤ Refusal) → first_no rows ≡ a → Because (or_else a (first_no last))
  because_rows c (Ok tt) e = because_last c e
  because_rows c (Err r) e =
      let f = first_no_is (checks_at code) r (length code) e in
      row_refused f.0 r f.1 (to_row f.0 c f.2) (decoded_at code f.0) refl f.3

  because : Because (first_no (list_checks code size))
  unfolding first_no
  because = go (check15 code) refl
    where
      go : (b : Bool) → check15 code ≡ b → Because (cond b (first_no (rows ++ last)) (Err (refusal check.CodeLength)))
      go true c =
          subst Because (sym (first_append rows last)) (because_rows c (first_no rows) refl)
      go false c = wrong_count (count_wrong (length code) c)

  -- and the other way
  past15 : check15 code ≡ true → first_no (list_checks code size) ≡ or_else (first_no rows) (first_no last)
  unfolding first_no
  past15 c = rw c (first_append rows last)

  at_row : (n : ℕ) (r : Refusal) → n < length code → ListableTo code n → first_no (checks_at code n) ≡ Err r
      → first_no (list_checks code size) ≡ Err r
  at_row n r h l e =
      let no : first_no rows ≡ Err r
      = stands (checks_at code) (suc n) (length code) r h (next (checks_at code) n (rows_pass n l) ∙ e) in
      past15 (counted n l) ∙ ap (λ (a : Result ⊤ Refusal). or_else a (first_no last)) no

  refused : {r : Refusal} → ListReason code size r → first_no (list_checks code size) ≡ Err r
  unfolding first_no
  refused (wrong_count w) = rw (wrong_count15 (length code) w) refl
  refused (undefined n h l d) = at_row n (refusal_at check.Defined (address_of n)) h l (rw d refl)
  refused (outside n x h l d p) = at_row n (refusal_at check.Target (address_of n)) h l (rw (d, p) refl)
  refused (too_short l s) =
      past15 (counted (length code) l) ∙ rw (rows_pass (length code) l)
      (rw (lt-leb (length (listing_of code)) size (omega arith)) refl)

-- an answer as the lister gives it
refused_answer : (t : Text) (a : Result ⊤ Refusal) (r : Refusal) → listing_as t a ≡ Refuses r → a ≡ Err r
refused_answer t (Ok tt) r e = clash (cc)
refused_answer t (Err s) r e = cc

pub list_refused_exact : ListRefusedExact
unfolding list_of
list_refused_exact code size r = (
  λ e. subst (Because code size) (refused_answer (listing_of code) (first_no (list_checks code size)) r e)
      (because code size),
  λ l. ap (listing_as (listing_of code)) (refused code size l),
)
