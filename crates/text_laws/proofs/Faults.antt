-- What the second pass finds: first definitions, and the first line with a fault.
use mathlib.Core.Bool.{Bool, true, false, true≢false, cond}
use mathlib.Core.List.{List, [], ◌∷◌}
use mathlib.Core.Logic.{◌⊎◌, inl, inr, ⊎_elim}
use mathlib.Core.Option.{Option, none, some, some-injective}
use mathlib.Core.Path.{◌≡◌, refl, ap, sym, ◌∙◌, subst}
use Prim.Native.Nat.{ℕ, zero, suc, ◌+◌, ◌<◌, ◌≤◌}
use native.Mathlib.Omega.{arith}
use lib.Dec.{eqb}
use lib.ListN.{length, get_or, drop}
use borrow.Author.Tests.{eqb-true, eqb-false}
use Rattle.units.proofs.Cases.{clash, lt_or_ge}
use Rattle.isa.specs.declared.instruction.Instruction.{Instruction}
use Rattle.isa.specs.declared.instruction.Instruction.TheVariants.{Halt}
use Rattle.syntax.specs.Syntax.{Item, label_row, branch_row}
use Rattle.syntax.proofs.Rows.{never}
use Rattle.refusals.specs.declared.check.Check.{Check}
use Rattle.refusals.specs.declared.check.Check.TheVariants as check
use Rattle.assembler.specs.Assemble.{is_label, value_at, instructions_in, Definition, definition_from, definition_of}
use Rattle.assembler.specs.Assemble.{instruction_of, Said, Nothing, Instructs, Fault, label_said, field_said}
use Rattle.assembler.specs.Assemble.{branch_said}
use Rattle.assembler.specs.Assemble.{said_at, Checked, Code, Fails, saying, next_number, check_from}
use Rattle.text_laws.specs.Reasons.{item_at, number_before, Defines, FirstDefines, Branches, Fault22, again}
use Rattle.text_laws.specs.Reasons.{missing, Fault23, value, reach, Faultless, Instructed, by_values, by_name}

-- the first definition of a name in the lines from line k on, before which stand i instructions
abbrev FoundAs : ℕ → ℕ → ℕ → List Item → Option Definition → Type 0
FoundAs k i name xs none = (n : ℕ) → Defines xs n name → ⊥
FoundAs k i name xs (some d) =
    (m : ℕ) × FirstDefines xs m name × (d.line ≡ k + m) × (d.number ≡ i + number_before xs m)

defines_on : (x : Item) (xs : List Item) (n name : ℕ) → Defines (x ∷ xs) (suc n) name → Defines xs n name
defines_on x xs n name d = record { inside = omega (arith, d.inside); is_a_label = d.is_a_label; named = d.named }

defines_back : (x : Item) (xs : List Item) (n name : ℕ) → Defines xs n name → Defines (x ∷ xs) (suc n) name
defines_back x xs n name d = record { inside = omega (arith, d.inside); is_a_label = d.is_a_label; named = d.named }

-- a line in front that doesn't define the name
module _ (x : Item) (xs : List Item) (name : ℕ) (other : Defines (x ∷ xs) 0 name → ⊥) where
  none_more : ((n : ℕ) → Defines xs n name → ⊥) → (n : ℕ) → Defines (x ∷ xs) n name → ⊥
  none_more f zero d = other d
  none_more f (suc n) d = f n (defines_on x xs n name d)

  first_more : (m : ℕ) → FirstDefines xs m name → FirstDefines (x ∷ xs) (suc m) name
  first_more m f =
      record { defines = defines_back x xs m name f.defines; first = earlier }
    where
      earlier : (n : ℕ) → n < suc m → Defines (x ∷ xs) n name → ⊥
      earlier zero h d = other d
      earlier (suc n) h d = f.first n (omega arith) (defines_on x xs n name d)

  found_more : (k i j : ℕ) → ((m : ℕ) → j + number_before xs m ≡ i + number_before (x ∷ xs) (suc m))
      → (o : Option Definition) → FoundAs (suc k) j name xs o → FoundAs k i name (x ∷ xs) o
  found_more k i j f none g = none_more g
  found_more k i j f (some d) g =
      (suc g.0, first_more g.0 g.1, omega (arith, g.2), g.3 ∙ f g.0)

found : (k i name : ℕ) (xs : List Item) → FoundAs k i name xs (definition_from k i name xs)
unfolding definition_from
found k i name [] = λ n d. omega (arith, d.inside)
found k i name (x ∷ xs) =
    go (is_label x) (eqb (value_at x 0) name) refl refl (found (suc k) i name xs) (found (suc k) (suc i) name xs)
  where
    unlabelled : (b : Bool) → b ≡ false → b ≡ true → ⊥
    unlabelled b p q = true≢false (sym q ∙ p)

    go : (l s : Bool) → is_label x ≡ l → eqb (value_at x 0) name ≡ s
        → FoundAs (suc k) i name xs (definition_from (suc k) i name xs)
        → FoundAs (suc k) (suc i) name xs (definition_from (suc k) (suc i) name xs)
        → FoundAs k i name (x ∷ xs) (cond l (cond s (some (record { line = k; number = i }))
        (definition_from (suc k) i name xs)) (definition_from (suc k) (suc i) name xs))
    go true true p q f g =
        let here : Defines (x ∷ xs) 0 name
        = record { inside = omega arith; is_a_label = p; named = eqb-true (value_at x 0) name q } in
        (0, record { defines = here; first = λ m h d. omega arith }, omega arith, omega arith)
    go true false p q f g =
        found_more x xs name (λ d. eqb-false (value_at x 0) name q d.named) k i i (λ m. rw p refl)
        (definition_from (suc k) i name xs) f
    go false s p q f g =
        found_more x xs name (λ d. unlabelled (is_label x) p d.is_a_label) k i (suc i)
        (λ m. rw p (omega arith)) (definition_from (suc k) (suc i) name xs) g

-- a first definition is one
first_one : (items : List Item) (m n name : ℕ) → FirstDefines items m name → FirstDefines items n name → m ≡ n
first_one items m n name f g =
    ⊎_elim (λ h. absurd (g.first m h f.defines))
    (λ h. ⊎_elim (λ l. absurd (f.first n l g.defines)) (λ l. omega arith) (lt_or_ge n m)) (lt_or_ge m n)

-- a line is a label, a branch or neither
label_row_is : (x : Item) → is_label x ≡ true → x.row ≡ branch_row → ⊥
label_row_is x p q = let z : x.row ≡ label_row = eqb-true x.row label_row p in omega arith

-- a line says one instruction
instructed_one : (items : List Item) (n : ℕ) (x y : Instruction) → Instructed items n x → Instructed items n y → x ≡ y
instructed_one items n x y (by_values i l b e) (by_values j m c f) = some-injective x y (sym e ∙ f)
instructed_one items n x y (by_values i l b e) (by_name m c d f) = absurd (b c.is_branch)
instructed_one items n x y (by_name m c d f) (by_values i l b e) = absurd (b c.is_branch)
instructed_one items n x y (by_name m c d f) (by_name k b g h) =
    let same : m ≡ k = first_one items m k _ (subst (FirstDefines items m) (sym c.named) d)
    (subst (FirstDefines items k) (sym b.named) g) in
    let there : instruction_of (item_at items n) (number_before items n) (number_before items k) ≡ some x
    = subst (λ (l : ℕ). instruction_of (item_at items n) (number_before items n) (number_before items l) ≡ some x) same
    f in
    some-injective x y (sym there ∙ h)

-- and no label says one
label_not : (items : List Item) (n : ℕ) (x : Instruction) → is_label (item_at items n) ≡ true → Instructed items n x → ⊥
label_not items n x p (by_values i l b e) = true≢false (sym p ∙ l)
label_not items n x p (by_name m b d e) = label_row_is (item_at items n) p b.is_branch

-- what says an instruction is a line
pub within : (items : List Item) (n : ℕ) (x : Instruction) → Instructed items n x → n < length items
within items n x (by_values i l b e) = i
within items n x (by_name m b d e) = b.inside

-- no line has both faults
pub not_both : (items : List Item) (n : ℕ) → Fault22 items n → Fault23 items n → ⊥
not_both items n (again m h d e) (value i l b f) = true≢false (sym e.is_a_label ∙ l)
not_both items n (again m h d e) (reach k b g f) = label_row_is (item_at items n) e.is_a_label b.is_branch
not_both items n (missing b d) (value i l c f) = c b.is_branch
not_both items n (missing b d) (reach {name = name} k c g f) =
    let same = sym c.named ∙ b.named in
    d k (subst (Defines items k) same g.defines)

-- a fault by its check
abbrev pub Faulty : Check → List Item → ℕ → Type 0
Faulty c items n = ((c ≡ check.Label) × Fault22 items n) ⊎ ((c ≡ check.Value) × Fault23 items n)

-- what a line says tells its fault
abbrev Judged : List Item → ℕ → Said → Type 0
Judged items n Nothing = Faultless items n
Judged items n (Instructs x) = Faultless items n × Instructed items n x
Judged items n (Fault c) = Faulty c items n

module _ (items : List Item) (n : ℕ) (inside : n < length items) where
  abbrev this : Item
  this = item_at items n

  abbrev number : ℕ
  number = number_before items n

  -- a label
  module _ (p : is_label this ≡ true) where
    defines_here : Defines items n (value_at this 0)
    defines_here = record { inside = inside; is_a_label = p; named = refl }

    label_once : FirstDefines items n (value_at this 0) → Faultless items n
    label_once f = record { not22 = once; not23 = no_field }
      where
        once : Fault22 items n → ⊥
        once (again m h d e) = f.first m (omega arith) (subst (Defines items m) (sym e.named) d)
        once (missing b d) = label_row_is this p b.is_branch

        no_field : Fault23 items n → ⊥
        no_field (value i l b e) = true≢false (sym p ∙ l)
        no_field (reach m b d e) = label_row_is this p b.is_branch

    judged_label : (o : Option Definition) → FoundAs 1 0 (value_at this 0) items o
        → Judged items n (label_said (suc n) o)
    judged_label none f = absurd (f n defines_here)
    judged_label (some d) f = go (eqb d.line (suc n)) refl
      where
        go : (b : Bool) → eqb d.line (suc n) ≡ b → Judged items n (cond b Nothing (Fault check.Label))
        go true e =
            let l : d.line ≡ suc n = eqb-true d.line (suc n) e in
            let same : f.0 ≡ n = omega (arith, f.2) in
            label_once (subst (λ (m : ℕ). FirstDefines items m (value_at this 0)) same f.1)
        go false e =
            let other : f.0 ≡ n → ⊥ = λ same. eqb-false d.line (suc n) e (omega (arith, f.2)) in
            ⊎_elim (λ h. inl (refl, again f.0 h f.1.defines defines_here))
            (λ h. ⊎_elim (λ l. absurd (f.1.first n l defines_here)) (λ l. absurd (other (omega arith)))
            (lt_or_ge n f.0)) (lt_or_ge f.0 n)

  -- a branch
  module _ (p : is_label this ≡ false) (q : this.row ≡ branch_row) where
    branches_here : Branches items n (value_at this 1)
    branches_here = record { inside = inside; is_branch = q; named = refl }

    reaches : (m : ℕ) (x : Instruction) → FirstDefines items m (value_at this 1)
        → instruction_of this number (number_before items m) ≡ some x → Faultless items n × Instructed items n x
    reaches m x f e = (record { not22 = no_label; not23 = no_field }, by_name m branches_here f e)
      where
        no_label : Fault22 items n → ⊥
        no_label (again k h d g) = true≢false (sym g.is_a_label ∙ p)
        no_label (missing b d) = d m (subst (Defines items m) b.named f.defines)

        no_field : Fault23 items n → ⊥
        no_field (value i l b g) = b q
        no_field (reach k b d g) =
            let same : k ≡ m = first_one items k m (value_at this 1)
            (subst (FirstDefines items k) (sym b.named) d) f in
            never (sym (subst (λ (j : ℕ). instruction_of this number (number_before items j) ≡ none) same g) ∙ e)

    judged_branch : (o : Option Definition) → FoundAs 1 0 (value_at this 1) items o
        → Judged items n (branch_said this number o)
    judged_branch none f = inl (refl, missing branches_here f)
    judged_branch (some d) f = go (instruction_of this number (number_before items f.0)) refl there
      where
        there : d.number ≡ number_before items f.0
        there = f.3 ∙ omega arith

        go : (o : Option Instruction) → instruction_of this number (number_before items f.0) ≡ o
            → d.number ≡ number_before items f.0
            → Judged items n (field_said (instruction_of this number d.number))
        go none e t =
            subst (λ (j : ℕ). Judged items n (field_said (instruction_of this number j))) (sym t)
            (subst (λ (o : Option Instruction). Judged items n (field_said o)) (sym e)
            (inr (refl, reach f.0 branches_here f.1 e)))
        go (some x) e t =
            subst (λ (j : ℕ). Judged items n (field_said (instruction_of this number j))) (sym t)
            (subst (λ (o : Option Instruction). Judged items n (field_said o)) (sym e) (reaches f.0 x f.1 e))

  -- an instruction with values only
  module _ (p : is_label this ≡ false) (q : this.row ≡ branch_row → ⊥) where
    judged_field : (o : Option Instruction) → instruction_of this number 0 ≡ o → Judged items n (field_said o)
    judged_field none e = inr (refl, value inside p q e)
    judged_field (some x) e = (record { not22 = no_label; not23 = no_field }, by_values inside p q e)
      where
        no_label : Fault22 items n → ⊥
        no_label (again k h d g) = true≢false (sym g.is_a_label ∙ p)
        no_label (missing b d) = q b.is_branch

        no_field : Fault23 items n → ⊥
        no_field (value i l b g) = never (sym g ∙ e)
        no_field (reach k b d g) = q b.is_branch

  judged : Judged items n (said_at items (suc n) number this)
  unfolding said_at
  judged = go (is_label this) (eqb this.row branch_row) refl refl
    where
      go : (l b : Bool) → is_label this ≡ l → eqb this.row branch_row ≡ b
          → Judged items n (cond l (label_said (suc n) (definition_of (value_at this 0) items))
          (cond b (branch_said this number (definition_of (value_at this 1) items))
          (field_said (instruction_of this number 0))))
      go true b p q = judged_label p (definition_of (value_at this 0) items) (found 1 0 (value_at this 0) items)
      go false true p q =
          judged_branch p (eqb-true this.row branch_row q) (definition_of (value_at this 1) items)
          (found 1 0 (value_at this 1) items)
      go false false p q =
          judged_field p (eqb-false this.row branch_row q) (instruction_of this number 0) refl

-- one line on
next_cut : (items : List Item) (n : ℕ) (x : Item) (xs : List Item) → drop n items ≡ x ∷ xs
    → (n < length items) × (item_at items n ≡ x) × (drop (suc n) items ≡ xs)
next_cut [] zero x xs e = clash (cc)
next_cut [] (suc n) x xs e = clash (cc)
next_cut (y ∷ items) zero x xs e = (omega arith, cc, cc)
next_cut (y ∷ items) (suc n) x xs e =
    let r = next_cut items n x xs e in
    (omega (arith, r.0), r.1, r.2)

number_next : (items : List Item) (n : ℕ) → n < length items
    → number_before items (suc n) ≡ next_number (item_at items n) (number_before items n)
number_next [] n h = absurd (omega arith)
number_next (x ∷ items) zero h = refl
number_next (x ∷ items) (suc n) h =
    go (is_label x) (is_label (item_at items n)) (number_next items n (omega arith))
  where
    go : (a b : Bool) → number_before items (suc n) ≡ cond b (number_before items n) (suc (number_before items n))
        → cond a (number_before items (suc n)) (suc (number_before items (suc n)))
        ≡ cond b (cond a (number_before items n) (suc (number_before items n)))
        (suc (cond a (number_before items n) (suc (number_before items n))))
    go true true e = e
    go true false e = e
    go false true e = ap suc e
    go false false e = ap suc e

-- what a line from line n on says stands in a list of instructions, as far on as instructions stand between
abbrev Stands : List Item → ℕ → List Instruction → ℕ → Instruction → Type 0
Stands items n is m x =
    (j : ℕ) × (number_before items m ≡ number_before items n + j) × (get_or is j (Halt 0) ≡ x)

-- the lines from line n on: all without a fault, with their instructions, or up to the first with a fault
abbrev pub CheckedAs : List Item → ℕ → Checked → Type 0
CheckedAs items n (Code is) =
    ((m : ℕ) → n ≤ m → m < length items → Faultless items m) × (length is ≡ instructions_in (drop n items))
    × ((m : ℕ) (x : Instruction) → n ≤ m → Instructed items m x → Stands items n is m x)
CheckedAs items n (Fails c k) =
    (m : ℕ) × (k ≡ suc m) × (n ≤ m) × Faulty c items m × ((j : ℕ) → n ≤ j → j < m → Faultless items j)

module _ (items : List Item) (n : ℕ) (x : Item) (xs : List Item) (cut : drop n items ≡ x ∷ xs) where
  -- a line without a fault in front
  more_faultless : (m : ℕ) → Faultless items n → ((j : ℕ) → suc n ≤ j → j < m → Faultless items j)
      → (j : ℕ) → n ≤ j → j < m → Faultless items j
  more_faultless m here f j l h =
      ⊎_elim (λ b. f j b h)
      (λ b. let same : n ≡ j = omega arith in subst (Faultless items) same here) (lt_or_ge n j)

  fails_on : (failed : Check) (k : ℕ) → Faultless items n → CheckedAs items (suc n) (Fails failed k)
      → CheckedAs items n (Fails failed k)
  fails_on failed k here c =
      (c.0, c.1, omega (arith, c.2), c.3, more_faultless c.0 here c.4)

  counted : instructions_in (drop n items) ≡ next_number x (instructions_in xs)
  counted = rw cut refl

  -- the number of instructions further up, one line on
  abbrev numbered : next_number x (number_before items n) ≡ number_before items (suc n)
  numbered =
      let w = next_cut items n x xs cut in
      sym (number_next items n w.0 ∙ ap (λ (y : Item). next_number y (number_before items n)) w.1)

  nothing_on : is_label x ≡ true → Faultless items n → (c : Checked) → CheckedAs items (suc n) c → CheckedAs items n c
  nothing_on p here (Fails failed k) c = fails_on failed k here c
  nothing_on p here (Code is) c =
      let w = next_cut items n x xs cut in
      let this : is_label (item_at items n) ≡ true = ap is_label w.1 ∙ p in
      let same : number_before items n ≡ number_before items (suc n) = rw p at numbered in (
        more_faultless (length items) here c.0,
        c.1 ∙ rw (w.2, counted, p) refl,
        λ m y l t. ⊎_elim (λ b. let r = c.2 m y b t in (r.0, r.1 ∙ omega arith, r.2))
            (λ b. let e : m ≡ n = omega arith in
            absurd (label_not items n y this (subst (λ (k : ℕ). Instructed items k y) e t))) (lt_or_ge n m),
      )

  instructs_on : (i : Instruction) → is_label x ≡ false → Faultless items n → Instructed items n i → (c : Checked)
      → CheckedAs items (suc n) c → CheckedAs items n (saying (suc n) (Instructs i) c)
  instructs_on i p here says (Fails failed k) c = fails_on failed k here c
  instructs_on i p here says (Code is) c =
      let w = next_cut items n x xs cut in
      let more : suc (number_before items n) ≡ number_before items (suc n) = rw p at numbered in (
        more_faultless (length items) here c.0,
        rw (counted, p) (ap suc (c.1 ∙ ap instructions_in w.2)),
        λ m y l t. ⊎_elim (λ b. let r = c.2 m y b t in (suc r.0, r.1 ∙ omega arith, r.2))
            (λ b. let e : m ≡ n = omega arith in (
              0,
              ap (number_before items) e ∙ omega arith,
              instructed_one items n i y says (subst (λ (k : ℕ). Instructed items k y) e t),
            )) (lt_or_ge n m),
      )

-- which items say something to put into the code
abbrev Puts : Item → Said → Type 0
Puts x Nothing = is_label x ≡ true
Puts x (Instructs i) = is_label x ≡ false
Puts x (Fault v) = Unit {0}

puts : (items : List Item) (k i : ℕ) (x : Item) → Puts x (said_at items k i x)
unfolding said_at
puts items k i x = go (is_label x) (eqb x.row branch_row) refl
  where
    of_label : (o : Option Definition) → is_label x ≡ true → Puts x (label_said k o)
    of_label none p = p
    of_label (some d) p = at (eqb d.line k)
      where
        at : (b : Bool) → Puts x (cond b Nothing (Fault check.Label))
        at true = p
        at false = tt

    of_field : (o : Option Instruction) → is_label x ≡ false → Puts x (field_said o)
    of_field none p = tt
    of_field (some j) p = p

    of_branch : (o : Option Definition) → is_label x ≡ false → Puts x (branch_said x i o)
    of_branch none p = tt
    of_branch (some d) p = of_field (instruction_of x i d.number) p

    go : (l b : Bool) → is_label x ≡ l
        → Puts x (cond l (label_said k (definition_of (value_at x 0) items))
        (cond b (branch_said x i (definition_of (value_at x 1) items)) (field_said (instruction_of x i 0))))
    go true b p = of_label (definition_of (value_at x 0) items) p
    go false true p = of_branch (definition_of (value_at x 1) items) p
    go false false p = of_field (instruction_of x i 0) p

pub checked : (items xs : List Item) (n i : ℕ) → drop n items ≡ xs → i ≡ number_before items n
    → CheckedAs items n (check_from items (suc n) i xs)
unfolding check_from
checked items [] n i e q =
    (λ m l h. absurd (past items n m e l h), rw e refl, λ m x l t. absurd (past items n m e l (within items m x t)))
  where
    past : (items : List Item) (n m : ℕ) → drop n items ≡ [] → n ≤ m → m < length items → ⊥
    past [] n m e l h = omega arith
    past (y ∷ items) zero m e l h = clash (cc)
    past (y ∷ items) (suc n) zero e l h = omega arith
    past (y ∷ items) (suc n) (suc m) e l h = past items n m e (omega arith) (omega arith)
checked items (x ∷ xs) n i e q =
    let w = next_cut items n x xs e in
    let same : item_at items n ≡ x = w.1 in
    let next : next_number x i ≡ number_before items (suc n)
    = sym (number_next items n w.0 ∙ rw (same, ← q) refl) in
    let here : Judged items n (said_at items (suc n) i x) = rw (q, ← same) (judged items n w.0) in
    go (said_at items (suc n) i x) here (puts items (suc n) i x)
    (checked items xs (suc n) (next_number x i) w.2 next)
  where
    go : (s : Said) → Judged items n s → Puts x s
        → CheckedAs items (suc n) (check_from items (suc (suc n)) (next_number x i) xs)
        → CheckedAs items n (saying (suc n) s (check_from items (suc (suc n)) (next_number x i) xs))
    go Nothing j p c =
        nothing_on items n x xs e p j (check_from items (suc (suc n)) (next_number x i) xs) c
    go (Instructs y) j p c =
        instructs_on items n x xs e y p j.0 j.1 (check_from items (suc (suc n)) (next_number x i) xs) c
    go (Fault v) j p c = (n, refl, omega arith, j, λ k l h. absurd (omega arith))
