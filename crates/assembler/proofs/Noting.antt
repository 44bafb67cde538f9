-- What is noted of the instructions, line by line.
use mathlib.Core.Bool.{Bool, true, false, cond}
use mathlib.Core.List.{List, [], ◌∷◌, ◌++◌, append_assoc, append-nil}
use mathlib.Core.Path.{◌≡◌, refl, ap, sym, ◌∙◌, subst}
use Prim.Native.Nat.{ℕ, suc, ◌+◌, ◌<◌, ◌≤◌}
use native.Mathlib.Omega.{arith}
use lib.ListN.{length, set}
use lib.Seq.{get_or-set_same, get_or-set_other}
use Rattle.syntax.specs.Syntax.{Item, branch_row}
use Rattle.assembler.specs.Assemble.{is_label, value_at, instructions_in}
use Rattle.assembler.specs.Reading.{line_no, first_flaw, flaw_after, note_of, blank, NotedAt, Unless, Noted}
use Rattle.std.specs.Prelude as Std
use Rattle.assembler.specs.declared.reader.Note.{Note}
use Rattle.assembler.specs.declared.refusal.TextRefusal.{TextRefusal}
use Rattle.assembler.proofs.Counts.{label_counted, instruction_counted}

-- the first flaw of one line more
pub flaw_append : (f : Std.Option TextRefusal) (above xs : List Item) (x : Item)
    → flaw_after f above (xs ++ (x ∷ []))
    ≡ first_flaw (flaw_after f above xs) (line_no (above ++ xs) x) (1 + length (above ++ xs))
unfolding flaw_after
flaw_append f above [] x =
    ap (λ (ys : List Item). first_flaw f (line_no ys x) (1 + length ys)) (sym (append-nil above))
flaw_append f above (y ∷ xs) x =
    flaw_append (first_flaw f (line_no above y) (1 + length above)) (above ++ (y ∷ [])) xs x
    ∙ ap (λ (ys : List Item). first_flaw
    (flaw_after (first_flaw f (line_no above y) (1 + length above)) (above ++ (y ∷ [])) xs)
    (line_no ys x) (1 + length ys)) (append_assoc above (y ∷ []) xs)

-- the notes of one line more
pub noted_append : (notes : List Note) (above xs : List Item) (x : Item) → Noted notes above xs
    → Unless (is_label x) (NotedAt notes x (instructions_in (above ++ xs)) (1 + length (above ++ xs)))
    → Noted notes above (xs ++ (x ∷ []))
noted_append notes above [] x n u = (
  subst (λ (ys : List Item). Unless (is_label x) (NotedAt notes x (instructions_in ys) (1 + length ys)))
      (append-nil above) u,
  tt,
)
noted_append notes above (y ∷ xs) x n u = (
  n.0,
  noted_append notes (above ++ (y ∷ [])) xs x n.1
      (subst (λ (ys : List Item). Unless (is_label x) (NotedAt notes x (instructions_in ys) (1 + length ys)))
      (sym (append_assoc above (y ∷ []) xs)) u),
)

-- notes stay where others are put behind them
module _ (notes : List Note) (i : ℕ) (new : Note) where
  note_stays : (x : Item) (j k : ℕ) → j < i → NotedAt notes x j k → NotedAt (set notes i new) x j k
  note_stays x j k q n =
      let other : j ≡ i → ⊥ = λ e. omega (arith, e, q) in
      record { is = get_or-set_other notes i j new blank other ∙ n.is; named = n.named }

  pub noted_stays : (above xs : List Item) → instructions_in above + instructions_in xs ≤ i → Noted notes above xs
      → Noted (set notes i new) above xs
  noted_stays above [] q n = tt
  noted_stays above (x ∷ xs) q n = go (is_label x) refl q n.0 (noted_stays (above ++ (x ∷ [])) xs)
    where
      go : (b : Bool) → is_label x ≡ b → instructions_in above + cond b (instructions_in xs) (suc (instructions_in xs))
          ≤ i
          → Unless b (NotedAt notes x (instructions_in above) (1 + length above))
          → (instructions_in (above ++ (x ∷ [])) + instructions_in xs ≤ i → Noted notes (above ++ (x ∷ [])) xs
          → Noted (set notes i new) (above ++ (x ∷ [])) xs)
          → Unless b (NotedAt (set notes i new) x (instructions_in above) (1 + length above))
          × Noted (set notes i new) (above ++ (x ∷ [])) xs
      go true e q w f = (tt, f (omega (arith, q, label_counted above x e)) n.1)
      go false e q w f = (
        note_stays x (instructions_in above) (1 + length above) (omega arith) w,
        f (omega (arith, q, instruction_counted above x e)) n.1,
      )

-- an instruction is noted
pub noted_here : (notes : List Note) (x : Item) (i k : ℕ) → i < length notes
    → (x.row ≡ branch_row → value_at x 1 ≡ 0 → ⊥) → NotedAt (set notes i (note_of x i k)) x i k
noted_here notes x i k h named = record { is = get_or-set_same notes i (note_of x i k) blank h; named = named }
