-- What the notes of a text come to is what the definition says of its lines.
use mathlib.Core.Bool.{Bool, true, false, cond}
use mathlib.Core.List.{List, [], ◌∷◌, ◌++◌, append_assoc}
use mathlib.Core.Option.{Option, none, some}
use mathlib.Core.Logic.{⊎_elim}
use mathlib.Core.Path.{◌≡◌, refl, ap, ap₂, sym, ◌∙◌, subst}
use Prim.Native.Nat.{ℕ, zero, suc, ◌+◌, ◌<◌, ◌≤◌, min}
use native.Mathlib.Omega.{arith}
use lib.Dec.{eqb}
use lib.ListN.{length, get_or, length-append}
use borrow.Author.Tests.{eq-eqb, ne_eqb, eqb-true, lt-ltb, le-ltb}
use Rattle.units.proofs.Cases.{clash, lt_or_ge}
use Rattle.isa.specs.declared.instruction.Instruction.{Instruction}
use Rattle.syntax.specs.Syntax.{Item, branch_row}
use Rattle.syntax.specs.Parser.{item_as}
use Rattle.assembler.specs.Assemble.{is_label, value_at, instructions_in, instruction_of, Definition, definition_from}
use Rattle.assembler.specs.Assemble.{definition_of, Said, Nothing, Instructs, Fault, label_said, field_said}
use Rattle.assembler.specs.Assemble.{branch_said, said_at, Checked, Code, Fails, saying, next_number, check_from}
use Rattle.assembler.specs.Labels.{number_of, aim_of}
use Rattle.std.specs.Prelude as Std
use Rattle.std.specs.Prelude.{Result, Ok, Err, Some, None, ⊤}
use Rattle.refusals.specs.declared.check.Check.{Check}
use Rattle.refusals.specs.declared.check.Check.TheVariants as check
use Rattle.isa.specs.Encode.{encode_of}
use Rattle.assembler.specs.Assemble.{halfword_in}
use Rattle.assembler.specs.Assembled.{refusal_at}
use Rattle.assembler.specs.Reading.{label_no, line_no, first_flaw, flaw_after, field_halfword, says_of}
use Rattle.assembler.specs.Reading.{blank, NotedAt, Unless, Noted}
use Rattle.assembler.specs.Passes.{Aimed, field_meaning, aimed_meaning, noted_meaning, Breaks, made_of, making}
use Rattle.assembler.specs.Passes.{above_as, make_from}
use Rattle.assembler.specs.declared.reader.Note.{Note}
use Rattle.assembler.specs.declared.reader.Says.TheVariants.{Halfword, Branch}
use Rattle.assembler.specs.declared.refusal.TextRefusal.{TextRefusal}
use Rattle.assembler.proofs.Rows.{branches}
use Rattle.assembler.proofs.Saying.{Kind, branch_kind}
use Rattle.assembler.proofs.Table.{or_else, definition_append}
use Rattle.assembler.proofs.Counts.{label_counted, instruction_counted, next_counted}

-- a flaw stays the first
stuck : (f : TextRefusal) (above xs : List Item) → flaw_after (Some f) above xs ≡ Some f
unfolding flaw_after
stuck f above [] = refl
stuck f above (x ∷ xs) = stuck f (above ++ (x ∷ [])) xs

-- where there was none above, this line is asked first
abbrev flaw_at : Result ⊤ Check → ℕ → Std.Option TextRefusal
flaw_at outcome line = first_flaw None outcome line

first_is : (above : List Item) (x : Item) (xs : List Item)
    → flaw_after None above (x ∷ xs) ≡ flaw_after (flaw_at (line_no above x) (1 + length above)) (above ++ (x ∷ [])) xs
unfolding flaw_after
first_is above x xs = refl

-- and the first flaw is not above
not_above : (above xs : List Item) (k : ℕ) → k ≤ 1 + length above → above_as (flaw_after None above xs) k ≡ Ok tt
unfolding flaw_after
not_above above [] k h = refl
not_above above (x ∷ xs) k h =
    go (line_no above x) (not_above (above ++ (x ∷ [])) xs k (omega (arith, length-append above (x ∷ []))))
  where
    go : (o : Result ⊤ Check) → above_as (flaw_after None (above ++ (x ∷ [])) xs) k ≡ Ok tt
        → above_as (flaw_after (flaw_at o (1 + length above)) (above ++ (x ∷ [])) xs) k ≡ Ok tt
    go (Ok t) later = later
    go (Err c) later =
        rw (stuck (refusal_at c (1 + length above)) (above ++ (x ∷ [])) xs, le-ltb (1 + length above) k h) refl

-- a flaw further up than all that is left ends it
stopped : (items : List Item) (f : TextRefusal) (notes : List Note) (n i : ℕ)
    → (0 < n → f.line < (get_or notes i blank).line) → make_from items (Some f) notes n i ≡ Breaks f.check f.line
unfolding make_from
stopped items f notes zero i h = refl
stopped items f notes (suc n) i h = rw (lt-ltb f.line (get_or notes i blank).line (h (omega arith))) refl

-- the next instruction stands on a line further down
further : (notes : List Note) (above xs : List Item) → Noted notes above xs → 0 < instructions_in xs
    → length above < (get_or notes (instructions_in above) blank).line
further notes above [] n h = absurd (omega arith)
further notes above (x ∷ xs) n h = go (is_label x) refl n.0 h (further notes (above ++ (x ∷ [])) xs n.1)
  where
    go : (b : Bool) → is_label x ≡ b → Unless b (NotedAt notes x (instructions_in above) (1 + length above))
        → 0 < cond b (instructions_in xs) (suc (instructions_in xs))
        → (0 < instructions_in xs
        → length (above ++ (x ∷ [])) < (get_or notes (instructions_in (above ++ (x ∷ []))) blank).line)
        → length above < (get_or notes (instructions_in above) blank).line
    go true e u h f =
        let later = f h in
        let same : (get_or notes (instructions_in (above ++ (x ∷ []))) blank).line
        ≡ (get_or notes (instructions_in above) blank).line =
        ap (λ (i : ℕ). (get_or notes i blank).line) (label_counted above x e) in
        omega (arith, later, same, length-append above (x ∷ []))
    go false e u h f = omega (arith, ap (λ (n : Note). n.line) u.is)

-- a branch's note has a name
aimed_from : (notes : List Note) (above xs : List Item) → Noted notes above xs → (j : ℕ) → instructions_in above ≤ j
    → j < instructions_in above + instructions_in xs → Aimed (get_or notes j blank).says
unfolding says_of
aimed_from notes above [] n j l h = absurd (omega arith)
aimed_from notes above (x ∷ xs) n j l h = go (is_label x) refl n.0 h (aimed_from notes (above ++ (x ∷ [])) xs n.1 j)
  where
    noted : NotedAt notes x (instructions_in above) (1 + length above) → j ≡ instructions_in above
        → Aimed (get_or notes j blank).says
    noted u e = rw (e, u.is) (by (eqb x.row branch_row) refl)
      where
        by : (b : Bool) → eqb x.row branch_row ≡ b
            → Aimed (cond b (Branch (min (value_at x 0) 255) (value_at x 1))
            (Halfword (field_halfword (instruction_of x (instructions_in above) 0))))
        by true q = u.named (eqb-true x.row branch_row q)
        by false q = tt

    go : (b : Bool) → is_label x ≡ b → Unless b (NotedAt notes x (instructions_in above) (1 + length above))
        → j < instructions_in above + cond b (instructions_in xs) (suc (instructions_in xs))
        → (instructions_in (above ++ (x ∷ [])) ≤ j
        → j < instructions_in (above ++ (x ∷ [])) + instructions_in xs → Aimed (get_or notes j blank).says)
        → Aimed (get_or notes j blank).says
    go true e u h f = f (omega (arith, label_counted above x e)) (omega (arith, label_counted above x e))
    go false e u h f =
        ⊎_elim (λ z. f (omega (arith, instruction_counted above x e)) (omega (arith, instruction_counted above x e)))
        (λ z. noted u (omega arith)) (lt_or_ge (instructions_in above) j)

pub aimed : (notes : List Note) (items : List Item) → Noted notes [] items → (j : ℕ) → j < instructions_in items
    → Aimed (get_or notes j blank).says
aimed notes items n j h = aimed_from notes [] items n j (omega arith) (omega arith)

-- what a line of an instruction says carries over
abbrev said_as : Said → Result ℕ Check
said_as Nothing = Ok 0
said_as (Instructs i) = Ok (halfword_in (encode_of i))
said_as (Fault c) = Err c

field_said_as : (o : Option Instruction) → field_meaning o ≡ said_as (field_said o)
unfolding field_meaning
field_said_as none = refl
field_said_as (some i) = refl

made_saying : (k : ℕ) (s : Said) (later : Checked) → (s ≡ Nothing → ⊥)
    → made_of (saying k s later) ≡ making k (said_as s) (made_of later)
made_saying k Nothing later n = absurd (n refl)
made_saying k (Instructs i) (Code is) n = refl
made_saying k (Instructs i) (Fails c m) n = refl
made_saying k (Fault c) later n = refl

-- a definition lies on one of the lines
defined_within : (k i name : ℕ) (xs : List Item) (d : Definition) → definition_from k i name xs ≡ some d
    → d.line < k + length xs
unfolding definition_from
defined_within k i name [] d e = clash (cc)
defined_within k i name (x ∷ xs) d e =
    go (is_label x) (eqb (value_at x 0) name) (defined_within (suc k) i name xs d)
    (defined_within (suc k) (suc i) name xs d) e
  where
    go : (l s : Bool) → (definition_from (suc k) i name xs ≡ some d → d.line < suc k + length xs)
        → (definition_from (suc k) (suc i) name xs ≡ some d → d.line < suc k + length xs)
        → cond l (cond s (some (record { line = k; number = i })) (definition_from (suc k) i name xs))
        (definition_from (suc k) (suc i) name xs) ≡ some d
        → d.line < k + suc (length xs)
    go true true f g e = let q : k ≡ d.line = cc in omega arith
    go true false f g e = omega (arith, f e)
    go false s f g e = omega (arith, g e)

-- check 22 of a label, by the items above it
abbrev again_said : Std.Option ℕ → Said
again_said None = Nothing
again_said (Some number) = Fault check.Label

module _ (above : List Item) (x : Item) (xs : List Item) (l : is_label x ≡ true) where
  label_said_is : label_said (1 + length above) (definition_of (value_at x 0) (above ++ (x ∷ xs)))
      ≡ again_said (aim_of above (value_at x 0))
  unfolding definition_from
  label_said_is =
      ap (label_said (1 + length above)) (definition_append 1 0 (value_at x 0) above (x ∷ xs))
      ∙ go (definition_of (value_at x 0) above) refl
    where
      go : (o : Option Definition) → definition_of (value_at x 0) above ≡ o
          → label_said (1 + length above)
          (or_else o (definition_from (1 + length above) (0 + instructions_in above) (value_at x 0) (x ∷ xs)))
          ≡ again_said (number_of o)
      go none e =
          rw (l, eq-eqb (value_at x 0) (value_at x 0) refl, eq-eqb (1 + length above) (1 + length above) refl) refl
      go (some d) e =
          let h = defined_within 1 0 (value_at x 0) above d e in
          rw (ne_eqb d.line (1 + length above) (λ q. omega (arith, q, h))) refl

-- a branch, by its notes
module _ (items : List Item) (x : Item) (i : ℕ) where
  branch_made : x.row ≡ branch_row
      → noted_meaning items i (Branch (min (value_at x 0) 255) (value_at x 1))
      ≡ said_as (branch_said x i (definition_of (value_at x 1) items))
  branch_made b = go (definition_of (value_at x 1) items)
    where
      go : (o : Option Definition)
          → aimed_meaning (min (value_at x 0) 255) i (number_of o) ≡ said_as (branch_said x i o)
      go none = refl
      go (some d) = branches (item_as x) i d.number b refl refl ∙ field_said_as (instruction_of x i d.number)

  branch_says : (o : Option Definition) → branch_said x i o ≡ Nothing → ⊥
  branch_says o e = subst (Kind false) e (branch_kind x i o)

-- what the lines say behind others with no flaw
module _ (items : List Item) (notes : List Note) where
  abbrev Spoken : List Item → List Item → Std.Option TextRefusal → Type 0
  Spoken above xs f =
      made_of (check_from items (1 + length above) (instructions_in above) xs)
      ≡ make_from items (flaw_after f above xs) notes (instructions_in xs) (instructions_in above)

  -- behind a line
  behind : (above : List Item) (x : Item) (xs : List Item)
      → check_from items (suc (1 + length above)) (next_number x (instructions_in above)) xs
      ≡ check_from items (1 + length (above ++ (x ∷ []))) (instructions_in (above ++ (x ∷ []))) xs
  behind above x xs =
      let long : suc (1 + length above) ≡ 1 + length (above ++ (x ∷ [])) =
      omega (arith, length-append above (x ∷ [])) in
      ap₂ (λ (k i : ℕ). check_from items k i xs) long (next_counted above x)

  module _ (above : List Item) (x : Item) (xs : List Item) (whole : items ≡ above ++ (x ∷ xs))
      (noted : Noted notes above (x ∷ xs)) where
    abbrev k : ℕ
    k = 1 + length above

    abbrev i : ℕ
    i = instructions_in above

    abbrev further_up : List Item
    further_up = above ++ (x ∷ [])

    abbrev Later : Type 0
    Later = Spoken further_up xs None

    -- the rest, where this line has no flaw
    on : (n : ℕ) → instructions_in further_up ≡ n → line_no above x ≡ Ok tt → Later
        → made_of (check_from items (suc k) (next_number x i) xs)
        ≡ make_from items (flaw_after None above (x ∷ xs)) notes (instructions_in xs) n
    on n e z later =
        ap made_of (behind above x xs) ∙ later
        ∙ ap₂ (λ (g : Std.Option TextRefusal) (j : ℕ). make_from items g notes (instructions_in xs) j)
        (sym (first_is above x xs ∙ ap (λ (o : Result ⊤ Check). flaw_after (flaw_at o k) further_up xs) z)) e

    -- and where it has one
    ends : (n : ℕ) (c : Check) → instructions_in further_up ≡ n → line_no above x ≡ Err c
        → make_from items (flaw_after None above (x ∷ xs)) notes (instructions_in xs) n ≡ Breaks c k
    ends n c e q =
        let flaw : flaw_after None above (x ∷ xs) ≡ Some (refusal_at c k) =
        first_is above x xs ∙ ap (λ (o : Result ⊤ Check). flaw_after (flaw_at o k) further_up xs) q
        ∙ stuck (refusal_at c k) further_up xs in
        ap₂ (λ (g : Std.Option TextRefusal) (j : ℕ). make_from items g notes (instructions_in xs) j) flaw (sym e)
        ∙ stopped items (refusal_at c k) notes (instructions_in xs) (instructions_in further_up)
        (λ h. omega (arith, further notes further_up xs noted.1 h, length-append above (x ∷ [])))

    at_label : is_label x ≡ true → Later → Spoken above (x ∷ xs) None
    unfolding check_from said_at line_no
    at_label l later =
        rw (l) (ap (λ (s : Said). made_of (saying k s (check_from items (suc k) i xs))) said
        ∙ go (aim_of above (value_at x 0)) refl)
      where
        said : label_said k (definition_of (value_at x 0) items) ≡ again_said (aim_of above (value_at x 0))
        said =
            ap (λ (ys : List Item). label_said k (definition_of (value_at x 0) ys)) whole ∙ label_said_is above x xs l

        no_is : line_no above x ≡ label_no (aim_of above (value_at x 0))
        no_is = rw l refl

        same : check_from items (suc k) i xs ≡ check_from items (suc k) (next_number x i) xs
        same = rw l refl

        go : (o : Std.Option ℕ) → aim_of above (value_at x 0) ≡ o
            → made_of (saying k (again_said o) (check_from items (suc k) i xs))
            ≡ make_from items (flaw_after None above (x ∷ xs)) notes (instructions_in xs) i
        go None e = ap made_of same ∙ on i (label_counted above x l) (no_is ∙ ap label_no e) later
        go (Some n) e = sym (ends i check.Label (label_counted above x l) (no_is ∙ ap label_no e))

    module _ (l : is_label x ≡ false) where
      note : NotedAt notes x i k
      note = subst (λ (b : Bool). Unless b (NotedAt notes x i k)) l noted.0

      -- one instruction of the notes: no flaw lies above it
      step : (r : Result ℕ Check) → noted_meaning items i (says_of x i) ≡ r
          → make_from items (flaw_after None above (x ∷ xs)) notes (suc (instructions_in xs)) i
          ≡ making k r (make_from items (flaw_after None above (x ∷ xs)) notes (instructions_in xs) (suc i))
      unfolding make_from
      step r e = rw (note.is, not_above above (x ∷ xs) k (omega arith), e) refl

      -- an instruction that says the same by its notes, and has no flaw
      spoken_on : (s : Said) → (s ≡ Nothing → ⊥) → noted_meaning items i (says_of x i) ≡ said_as s
          → line_no above x ≡ Ok tt → Later
          → made_of (saying k s (check_from items (suc k) (next_number x i) xs))
          ≡ make_from items (flaw_after None above (x ∷ xs)) notes (suc (instructions_in xs)) i
      spoken_on s n e z later =
          made_saying k s (check_from items (suc k) (next_number x i) xs) n
          ∙ ap (making k (said_as s)) (on (suc i) (instruction_counted above x l) z later) ∙ sym (step (said_as s) e)

      at_branch : x.row ≡ branch_row → Later
          → made_of (saying k (branch_said x i (definition_of (value_at x 1) items))
          (check_from items (suc k) (next_number x i) xs))
          ≡ make_from items (flaw_after None above (x ∷ xs)) notes (suc (instructions_in xs)) i
      unfolding says_of line_no
      at_branch b later =
          let is = eq-eqb x.row branch_row b in
          let said = branch_said x i (definition_of (value_at x 1) items) in
          let made : noted_meaning items i (says_of x i) ≡ said_as said = rw is (branch_made items x i b) in
          spoken_on said (branch_says items x i (definition_of (value_at x 1) items)) made (rw (l, is) refl) later

      at_other : eqb x.row branch_row ≡ false → Later
          → made_of (saying k (field_said (instruction_of x i 0)) (check_from items (suc k) (next_number x i) xs))
          ≡ make_from items (flaw_after None above (x ∷ xs)) notes (suc (instructions_in xs)) i
      unfolding says_of line_no
      at_other b later = go (instruction_of x i 0) refl
        where
          made : noted_meaning items i (says_of x i) ≡ Ok (field_halfword (instruction_of x i 0))
          made = rw b refl

          go : (o : Option Instruction) → instruction_of x i 0 ≡ o
              → made_of (saying k (field_said o) (check_from items (suc k) (next_number x i) xs))
              ≡ make_from items (flaw_after None above (x ∷ xs)) notes (suc (instructions_in xs)) i
          go (some j) e =
              spoken_on (Instructs j) (λ z. clash (cc))
              (made ∙ ap (λ (o : Option Instruction). Ok (field_halfword o)) e)
              (rw (l, b, e) refl) later
          go none e =
              let stops = ends (suc i) check.Value (instruction_counted above x l) (rw (l, b, e) refl) in
              sym (step (Ok 0) (made ∙ ap (λ (o : Option Instruction). Ok (field_halfword o)) e)
              ∙ ap (making k (Ok 0)) stops)

    at_instruction : is_label x ≡ false → Later → Spoken above (x ∷ xs) None
    unfolding check_from said_at
    at_instruction l later = rw l (go (eqb x.row branch_row) refl)
      where
        same : check_from items (suc k) (suc i) xs ≡ check_from items (suc k) (next_number x i) xs
        same = rw l refl

        go : (b : Bool) → eqb x.row branch_row ≡ b
            → made_of (saying k
            (cond b (branch_said x i (definition_of (value_at x 1) items)) (field_said (instruction_of x i 0)))
            (check_from items (suc k) (suc i) xs))
            ≡ make_from items (flaw_after None above (x ∷ xs)) notes (suc (instructions_in xs)) i
        go true e = ap (λ (c : Checked). made_of (saying k (branch_said x i (definition_of (value_at x 1) items)) c))
            same
            ∙ at_branch l (eqb-true x.row branch_row e) later
        go false e = ap (λ (c : Checked). made_of (saying k (field_said (instruction_of x i 0)) c)) same
            ∙ at_other l e later

  pub spoken : (above xs : List Item) → items ≡ above ++ xs → Noted notes above xs → Spoken above xs None
  unfolding check_from make_from flaw_after
  spoken above [] whole noted = refl
  spoken above (x ∷ xs) whole noted =
      go (is_label x) refl
      (spoken (above ++ (x ∷ [])) xs (whole ∙ sym (append_assoc above (x ∷ []) xs)) noted.1)
    where
      go : (b : Bool) → is_label x ≡ b → Spoken (above ++ (x ∷ [])) xs None → Spoken above (x ∷ xs) None
      go true e later = at_label above x xs whole noted e later
      go false e later = at_instruction above x xs whole noted e later
