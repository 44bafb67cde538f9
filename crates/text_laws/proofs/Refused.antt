-- Each refusal of the assembler, exactly for its reason; and what it assembles, in full.
use mathlib.Core.Bool.{Bool, true, false, cond, ◌&&◌}
use mathlib.Core.List.{List, [], ◌∷◌}
use mathlib.Core.Logic.{◌⊎◌, inl, inr, ⊎_elim}
use mathlib.Core.Option.{some}
use mathlib.Core.Path.{◌≡◌, refl, ap, sym, ◌∙◌, subst}
use Prim.Native.Nat.{ℕ, zero, suc, ◌<◌, ◌≤◌}
use native.Mathlib.Omega.{arith}
use lib.Dec.{leb}
use lib.ListN.{length, get_or}
use borrow.Author.Tests.{leb-true, leb-false, le-leb, lt-leb}
use Rattle.units.proofs.Cases.{clash, lt_or_ge}
use Rattle.refusals.specs.declared.check.Check.{Check}
use Rattle.refusals.specs.declared.check.Check.TheVariants as check
use Rattle.isa.specs.declared.instruction.Instruction.{Instruction}
use Rattle.isa.specs.declared.instruction.Instruction.TheVariants.{Halt}
use Rattle.isa.specs.Encode.{encode_of}
use Rattle.image.specs.Format.{most_code}
use Rattle.text.specs.Text.{Text, lines_of}
use Rattle.syntax.specs.Syntax.{Item, parse}
use Rattle.assembler.specs.Assemble.{Read, Items, NoLine, read_from, instructions_in, check15, Checked, Code, Fails}
use Rattle.assembler.specs.Assemble.{halfword_in}
use Rattle.assembler.specs.Assemble.{check_from, halfwords_of, Assembly, Assembles, Refuses, with_room, assemble_read}
use Rattle.assembler.specs.Assemble.{assemble_of}
use Rattle.text_laws.specs.Reasons.{Says, Program, Fault22, again, missing, Fault23, value, reach, Faultless}
use Rattle.text_laws.specs.Reasons.{Reason, unread, wrong_count, label, field, too_short}
use Rattle.text_laws.specs.Reasons.{item_at, number_before, nothing, more, Instructed, by_values, by_name}
use Rattle.text_laws.specs.Reasons.{Assembled}
use Rattle.text_laws.specs.Claims.{RefusedExact, AssembledFully}
use Rattle.text_laws.proofs.Texts.{read_says, read_unread, says_read, unread_read}
use Rattle.text_laws.proofs.Bounds.{Encodes, read_encodes}
use Rattle.text_laws.proofs.Faults.{Faulty, not_both, CheckedAs, checked}
use Rattle.std.specs.Prelude.{Ok}

-- 15 by its two limits
pub count_wrong : (n : ℕ) → check15 n ≡ false → (n ≡ 0) ⊎ (most_code < n)
count_wrong n e = go (leb 1 n) (leb n most_code) refl refl e
  where
    go : (a b : Bool) → leb 1 n ≡ a → leb n most_code ≡ b → (a && b) ≡ false → (n ≡ 0) ⊎ (most_code < n)
    go false b p q e = let l : n < 1 = leb-false 1 n p in inl (omega arith)
    go true false p q e = inr (leb-false n most_code q)
    go true true p q e = clash (cc)

pub wrong_count15 : (n : ℕ) → (n ≡ 0) ⊎ (most_code < n) → check15 n ≡ false
wrong_count15 n (inl e) = rw e refl
wrong_count15 n (inr h) = let e : leb n most_code ≡ false = lt-leb n most_code h in go (leb 1 n) e
  where
    go : (a : Bool) → leb n most_code ≡ false → (a && leb n most_code) ≡ false
    go true e = e
    go false e = refl

pub count_right : (n : ℕ) → check15 n ≡ true → (1 ≤ n) × (n ≤ most_code)
count_right n e = go (leb 1 n) (leb n most_code) refl refl e
  where
    go : (a b : Bool) → leb 1 n ≡ a → leb n most_code ≡ b → (a && b) ≡ true → (1 ≤ n) × (n ≤ most_code)
    go true true p q e = (leb-true 1 n p, leb-true n most_code q)
    go true false p q e = clash (cc)
    go false b p q e = clash (cc)

pub right_count15 : (n : ℕ) → 1 ≤ n → n ≤ most_code → check15 n ≡ true
right_count15 n l h = rw (le-leb 1 n l, le-leb n most_code h) refl

-- past the last line there is no fault
beyond : (items : List Item) (n : ℕ) → length items ≤ n → Faultless items n
beyond items n h = record { not22 = no_label; not23 = no_field }
  where
    no_label : Fault22 items n → ⊥
    no_label (again m l d e) = omega (arith, e.inside)
    no_label (missing b d) = omega (arith, b.inside)

    no_field : Fault23 items n → ⊥
    no_field (value i l b e) = omega arith
    no_field (reach m b d e) = omega (arith, b.inside)

all_faultless : (items : List Item) → ((m : ℕ) → 0 ≤ m → m < length items → Faultless items m) → (n : ℕ)
    → Faultless items n
all_faultless items f n = ⊎_elim (f n (omega arith)) (beyond items n) (lt_or_ge n (length items))

-- the second pass over a whole program
abbrev pass : List Item → Checked
pass items = check_from items 1 0 items

abbrev Whole : List Item → Checked → Type 0
Whole items c = CheckedAs items 0 c

whole_checked : (items : List Item) → Whole items (pass items)
whole_checked items = checked items items 0 0 refl refl

-- the halfwords of instructions, one for each
halfwords_length : (is : List Instruction) → length (halfwords_of is) ≡ length is
halfwords_length [] = refl
halfwords_length (x ∷ is) = ap suc (halfwords_length is)

halfword_at : (is : List Instruction) (j : ℕ) → get_or (halfwords_of is) j 0
    ≡ halfword_in (encode_of (get_or is j (Halt 0)))
halfword_at [] j = refl
halfword_at (x ∷ is) zero = refl
halfword_at (x ∷ is) (suc j) = halfword_at is j

-- each line was read
line_said : {text : Text} {items : List Item} → Says text items → (n : ℕ) → n < length items
    → (t : Text) × (parse t ≡ some (item_at items n))
line_said nothing n h = absurd (omega arith)
line_said (more t p s) zero h = (t, p)
line_said (more t p s) (suc n) h = line_said s n (omega arith)

-- so what it says has a halfword
said_encodes : (text : Text) (items : List Item) → Says text items → (n : ℕ) (x : Instruction) → Instructed items n x
    → Encodes (encode_of x)
said_encodes text items s n x (by_values h l b e) =
    let said = line_said s n h in
    read_encodes said.0 (item_at items n) said.1 (number_before items n) 0 x e
said_encodes text items s n x (by_name m b d e) =
    let said = line_said s n b.inside in
    read_encodes said.0 (item_at items n) said.1 (number_before items n) (number_before items m) x e

-- why an answer is what it is
abbrev Because : Text → ℕ → Assembly → Type 0
Because text size (Assembles code) = Assembled text size code
Because text size (Refuses c place) = Reason text size c place

module _ (text : Text) (size : ℕ) where
  because_checked : (items : List Item) → Program text items → (c : Checked) → Whole items c
      → Because text size (with_room size c)
  because_checked items p (Fails failed k) w =
      subst (λ (j : ℕ). Reason text size failed j) (sym w.1) (⊎_elim of_label of_field w.3)
    where
      of_label : (failed ≡ check.Label) × Fault22 items w.0 → Reason text size failed (suc w.0)
      of_label f =
          subst (λ (c : Check). Reason text size c (suc w.0)) (sym f.0)
          (label (record { items = items; program = p; before = λ m h. w.4 m (omega arith) h; here = f.1 }))

      of_field : (failed ≡ check.Value) × Fault23 items w.0 → Reason text size failed (suc w.0)
      of_field f =
          subst (λ (c : Check). Reason text size c (suc w.0)) (sym f.0)
          (field (record { items = items; program = p; before = λ m h. w.4 m (omega arith) h; here = f.1 }))
  because_checked items p (Code is) w = go (leb (length is) size) refl
    where
      encoded : (n : ℕ) (x : Instruction) → Instructed items n x
          → encode_of x ≡ Ok (get_or (halfwords_of is) (number_before items n) 0)
      encoded n x t =
          let at = w.2 n x (omega arith) t in
          let has = said_encodes text items p.says n x t in
          let number : number_before items n ≡ at.0 = at.1 ∙ omega arith in
          let same : get_or (halfwords_of is) (number_before items n) 0 ≡ halfword_in (encode_of x)
          = ap (λ (j : ℕ). get_or (halfwords_of is) j 0) number ∙ halfword_at is at.0
          ∙ ap (λ (y : Instruction). halfword_in (encode_of y)) at.2 in
          let value : halfword_in (encode_of x) ≡ has.0 = ap halfword_in has.1 in
          has.1 ∙ ap Ok (sym (same ∙ value))

      go : (b : Bool) → leb (length is) size ≡ b
          → Because text size (cond b (Assembles (halfwords_of is)) (Refuses check.OutputLength 0))
      go true e =
          let room : length is ≤ size = leb-true (length is) size e in
          record {
            items = items;
            program = p;
            faultless = all_faultless items w.0;
            room = omega (arith, w.1);
            count = halfwords_length is ∙ w.1;
            halfword = encoded;
          }
      go false e =
          let short : size < length is = leb-false (length is) size e in
          too_short (record {
            items = items;
            program = p;
            faultless = all_faultless items w.0;
            short = omega (arith, w.1);
          })

  because_read : (r : Read) → read_from 1 (lines_of text) ≡ r → Because text size (assemble_read size r)
  because_read (NoLine k) e =
      let u = read_unread (lines_of text) text 1 k refl e in
      let n : k ≡ suc u.0 = omega (arith, u.1) in
      subst (λ (j : ℕ). Reason text size check.Line j) (sym n) (unread u.2)
  because_read (Items items) e = go (check15 (instructions_in items)) refl
    where
      says : Says text items
      says = read_says (lines_of text) text 1 items refl e

      go : (b : Bool) → check15 (instructions_in items) ≡ b
          → Because text size (cond b (with_room size (pass items)) (Refuses check.CodeLength 0))
      go true q =
          let right = count_right (instructions_in items) q in
          because_checked items (record { says = says; some_code = right.0; fits_image = right.1 })
          (pass items) (whole_checked items)
      go false q =
          wrong_count (record { items = items; says = says; wrong = count_wrong (instructions_in items) q })

  because : Because text size (assemble_of text size)
  unfolding assemble_of
  because = because_read (read_from 1 (lines_of text)) refl

  -- and the other way
  read_program : (items : List Item) → Program text items
      → assemble_of text size ≡ with_room size (pass items)
  unfolding assemble_of
  read_program items p =
      rw (says_read text items p.says)
      (rw (right_count15 (instructions_in items) p.some_code p.fits_image) refl)

  -- a program whose first fault is on line n
  module _ (items : List Item) (n : ℕ) (failed : Check) (before : (m : ℕ) → m < n → Faultless items m)
      (here : Faulty failed items n) where
    not_faultless : Faultless items n → ⊥
    not_faultless f = ⊎_elim (λ w. f.not22 w.1) (λ w. f.not23 w.1) here

    not_before : (v : Check) (m : ℕ) → Faulty v items m → m < n → ⊥
    not_before v m f h = ⊎_elim (λ w. (before m h).not22 w.1) (λ w. (before m h).not23 w.1) f

    same_check : (v : Check) → Faulty v items n → v ≡ failed
    same_check v f =
        ⊎_elim
        (λ a. ⊎_elim (λ b. a.0 ∙ sym b.0) (λ b. absurd (not_both items n a.1 b.1)) here)
        (λ a. ⊎_elim (λ b. absurd (not_both items n b.1 a.1)) (λ b. a.0 ∙ sym b.0) here) f

    inside : n < length items
    inside =
        ⊎_elim (λ h. h) (λ h. absurd (not_faultless (beyond items n h))) (lt_or_ge n (length items))

    fails : (c : Checked) → Whole items c → with_room size c ≡ Refuses failed (suc n)
    fails (Code is) w = absurd (not_faultless (w.0 n (omega arith) inside))
    fails (Fails v k) w =
        let line : w.0 ≡ n
        = ⊎_elim (λ h. absurd (not_before v w.0 w.3 h))
        (λ h. ⊎_elim (λ l. absurd (not_faultless (w.4 n (omega arith) l))) (λ l. omega arith) (lt_or_ge n w.0))
        (lt_or_ge w.0 n) in
        let check_is : v ≡ failed = same_check v (subst (λ (m : ℕ). Faulty v items m) line w.3) in
        let line_is : k ≡ suc n = w.1 ∙ ap suc line in
        rw (check_is, line_is) refl

  refused : {c : Check} {place : ℕ} → Reason text size c place → assemble_of text size ≡ Refuses c place
  unfolding assemble_of
  refused (unread {n = n} u) = rw (unread_read text n u) refl
  refused (wrong_count w) =
      rw (says_read text w.items w.says)
      (rw (wrong_count15 (instructions_in w.items) w.wrong) refl)
  refused (label {n = n} f) =
      read_program f.items f.program
      ∙ fails f.items n check.Label f.before (inl (refl, f.here)) (pass f.items) (whole_checked f.items)
  refused (field {n = n} f) =
      read_program f.items f.program
      ∙ fails f.items n check.Value f.before (inr (refl, f.here)) (pass f.items) (whole_checked f.items)
  refused (too_short s) =
      read_program s.items s.program ∙ go (pass s.items) (whole_checked s.items)
    where
      go : (c : Checked) → Whole s.items c → with_room size c ≡ Refuses check.OutputLength 0
      go (Code is) w = rw (lt-leb (length is) size (omega (arith, w.1, s.short))) refl
      go (Fails v k) w =
          let f = s.faultless w.0 in
          ⊎_elim (λ a. absurd (f.not22 a.1)) (λ a. absurd (f.not23 a.1)) w.3

pub refused_exact : RefusedExact
refused_exact text size c place =
    (λ e. subst (Because text size) e (because text size), refused text size)

pub assembled_fully : AssembledFully
assembled_fully text size code e = subst (Because text size) e (because text size)
