-- What the lister's checks come to, and what stands in the output.
use mathlib.Core.Bool.{Bool, true, false, not}
use mathlib.Core.List.{List, [], ◌∷◌, ◌++◌}
use mathlib.Core.Path.{◌≡◌, refl, sym, ap, ◌∙◌}
use Prim.Native.Nat.{ℕ, ◌+◌, ◌≤◌}
use native.Mathlib.Omega.{arith}
use borrow.Author.Tests.{leb-true, not-true, not-false}
use lib.ListN.{length, drop}
use lib.Seq.{sets-eq}
use Rattle.refusals.specs.declared.check.Check.TheVariants as check
use Rattle.refusals.specs.Refusal.{refusal}
use Rattle.refusals.specs.declared.refusal.Refusal.{Refusal}
use Rattle.image.specs.Check.{first_no, rows_below, whole}
use Rattle.image.proofs.Answers.{or_else, first_append, passed_head}
use Rattle.text.specs.Text.{Text, written}
use Rattle.lister.specs.List.{check15, checks_at, check16, listing_of, Listing, Lists, Refuses, listing_as, list_of}
use Rattle.lister.specs.List.{listed_as, output_after}
use Rattle.lister.specs.Passes.{fitted_of}
use Rattle.std.specs.Prelude.{Result, Ok, Err, ⊤}

-- a refusal is the answer, and leaves the output as it was
pub refused : (l : Listing) {r : Refusal} (out : Text) → l ≡ Refuses r
    → (Err r ≡ listed_as l) × (out ≡ output_after l out)
refused l out e = rw e (refl, refl)

-- a text at the front of a room
pub written_front : (t room : Text) → length t ≤ length room → written 0 t room ≡ t ++ drop (length t) room
unfolding written
written_front t room h =
    let front : 0 + length t ≡ length t = omega arith in
    sets-eq t room 0 (omega arith) ∙ ap (λ (n : ℕ). t ++ drop n room) front

-- check 15
module _ (code : List ℕ) (size : ℕ) where
  pub no_program : {r : Refusal} (t : Bool) → t ≡ check15 code → not t ≡ true → r ≡ refusal check.CodeLength
      → list_of code size ≡ Refuses r
  unfolding list_of first_no
  no_program t is e q = simp (q, sym is ∙ not-true t e)

  -- 9 and 13 of each instruction
  module _ (t : Bool) (is : t ≡ check15 code) (held : not t ≡ false) (a : Result ⊤ Refusal)
      (came : a ≡ first_no (rows_below (checks_at code) (length code))) where
    then_rows : list_of code size ≡ listing_as (listing_of code)
        (or_else a (first_no (whole check.OutputLength (check16 code size) ∷ [])))
    unfolding list_of
    then_rows =
        ap (listing_as (listing_of code))
        (passed_head _ _ (sym is ∙ not-false t held) ∙ first_append _ _
        ∙ ap (λ (x : Result ⊤ Refusal). or_else x (first_no (whole check.OutputLength (check16 code size) ∷ [])))
        (sym came))

    pub no_instruction : {r : Refusal} → a ≡ Err r → list_of code size ≡ Refuses r
    no_instruction e = rw e at then_rows

    pub all_instructions : a ≡ (Ok tt) → list_of code size ≡ fitted_of code size
    all_instructions e = rw e at then_rows

-- check 16
module _ (code : List ℕ) (out : Text) (t : Bool) (is : t ≡ check16 code (length out)) where
  pub no_room : {r : Refusal} → not t ≡ true → r ≡ refusal check.OutputLength → fitted_of code (length out) ≡ Refuses r
  unfolding first_no
  no_room e q = simp (q, sym is ∙ not-true t e)

  module _ (held : not t ≡ false) where
    pub has_room : length (listing_of code) ≤ length out
    has_room = leb-true (length (listing_of code)) (length out) (sym is ∙ not-false t held)

    with_room : fitted_of code (length out) ≡ Lists (listing_of code)
    unfolding first_no
    with_room = simp (sym is ∙ not-false t held)

    pub done : (n : ℕ) (after : Text) → (n ≡ length (listing_of code)) × (after ≡ written 0 (listing_of code) out)
        → (Ok n ≡ listed_as (fitted_of code (length out)))
        × (after ≡ output_after (fitted_of code (length out)) out)
    done n after put =
        rw with_room (ap Ok put.0, put.1 ∙ written_front (listing_of code) out has_room)
