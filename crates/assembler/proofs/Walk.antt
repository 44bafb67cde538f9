-- One line more of a text, of the table and of the notes.
use mathlib.Core.Bool.{Bool, true, false, cond}
use mathlib.Core.List.{List, [], ◌∷◌, ◌++◌, append_assoc, append-nil}
use mathlib.Core.Option.{some}
use mathlib.Core.Path.{◌≡◌, refl, ap, ap₂, sym, ◌∙◌, subst}
use Prim.Native.Nat.{ℕ, ◌+◌, ◌<◌, ◌≤◌}
use native.Mathlib.Omega.{arith}
use lib.Dec.{eqb}
use lib.ListN.{length, take, drop, set, length-append, length-set}
use lib.Seq.{drop-length}
use borrow.Author.Tests.{eqb-true}
use Rattle.std.specs.Prelude as Std
use Rattle.std.specs.Prelude.{Result, Ok, Err, None, ⊤}
use Rattle.refusals.specs.declared.check.Check.{Check}
use Rattle.refusals.specs.declared.check.Check.TheVariants as check
use Rattle.labels.specs.Table.{table_after}
use Rattle.labels.specs.declared.table.Entry.{Entry}
use Rattle.labels.proofs.Probes.{after_length}
use Rattle.text.specs.Text.{Text, lines_of}
use Rattle.syntax.specs.Syntax.{Item, branch_row, parse}
use Rattle.syntax.specs.Parser.{item_as, line_of, parsed_at}
use Rattle.syntax.specs.declared.parser.Item as Code
use Rattle.assembler.specs.Assemble.{Read, Items, NoLine, reading, read_from, is_label, value_at, instructions_in}
use Rattle.assembler.specs.Labels.{Holds}
use Rattle.assembler.specs.Passes.{Known, items_in, items_of, item_in}
use Rattle.assembler.specs.Assembled.{refusal_at}
use Rattle.assembler.specs.Reading.{line_no, first_flaw, flaw_after, says_of, note_of, NotedAt, Unless, Noted, Named}
use Rattle.assembler.specs.Reading.{read_as, Entered, count_after, entries_after, notes_after}
use Rattle.assembler.specs.declared.reader.Counted.{Counted}
use Rattle.assembler.specs.declared.reader.Note.{Note}
use Rattle.assembler.specs.declared.refusal.TextRefusal.{TextRefusal}
use Rattle.assembler.proofs.Counts.{instructions_append, label_counted, instruction_counted, count_le}
use Rattle.assembler.proofs.Names.{label_item_is, branch_name}
use Rattle.assembler.proofs.Noting.{flaw_append, noted_append, noted_stays, noted_here}
use Rattle.assembler.proofs.Prefix.{prepend, prepend_none, next_within, above_read}
use Rattle.assembler.proofs.Steps.{not_read, Lined, lined, read_line}
use Rattle.assembler.proofs.Table.{define_holds, instruction_holds}

-- the items of labels and branches have names
pub named : (t : Text) {x : Item} {y : Code.Item} → parse t ≡ some x → y ≡ item_as x → Named y
named t {x} e is =
    subst Named (sym is) (
    record {
      label = λ r z. let l = label_item_is t x e r in l.2 (sym (ap (λ (w : Item). value_at w 0) l.1) ∙ z);
      branch = λ r z. branch_name t x e r z;
    }
    )

prepend_one : (xs : List Item) (k : ℕ) (x : Item) (r : Read)
    → prepend xs (reading k (some x) r) ≡ prepend (xs ++ (x ∷ [])) r
prepend_one xs k x (Items ys) = ap Items (sym (append_assoc xs (x ∷ []) ys))
prepend_one xs k x (NoLine n) = refl

-- the table after a line that was read
line_holds : (table : List Entry) (xs : List Item) (t : Text) (x : Item) (i n : ℕ) → Holds table xs → parse t ≡ some x
    → i ≡ 0 + instructions_in xs → n ≡ (item_as x).values.a
    → Holds (entries_after x.row table n i) (xs ++ (x ∷ []))
line_holds table xs t x i n h e q r = go (eqb x.row 0) refl
  where
    at_label : x.row ≡ 0 → Holds (table_after table n i) (xs ++ (x ∷ []))
    at_label z =
        let l = label_item_is t x e z in
        let m : n ≡ l.0 = r ∙ ap (λ (y : Item). (item_as y).values.a) l.1 in
        rw (q, m) (subst (λ (y : Item). Holds (table_after table l.0 (0 + instructions_in xs)) (xs ++ (y ∷ [])))
        (sym l.1) (define_holds table xs l.0 l.2 h))

    go : (b : Bool) → eqb x.row 0 ≡ b → Holds (cond b (table_after table n i) table) (xs ++ (x ∷ []))
    go true z = at_label (eqb-true x.row 0 z)
    go false z = instruction_holds table xs x z h

-- what is lent has the length that it had
pub record Sized (table : List Entry) (notes : List Note) (table₀ : List Entry) (notes₀ : List Note) : Type 0 where
  pub table_long : length table ≡ length table₀
  pub notes_long : length notes ≡ length notes₀

-- what holds before line k, which starts at a place, with i instructions and a first flaw further up
pub record Walked (text : Text) (table : List Entry) (notes : List Note) (at k i : ℕ) (flaw : Std.Option TextRefusal)
    : Type 0 where
  pub done : List Item
  pub inside : at ≤ length text
  pub holds : Holds table done
  pub noted : instructions_in done ≤ length notes → Noted notes [] done
  pub line_is : k ≡ 1 + length done
  pub count_is : i ≡ 0 + instructions_in done
  pub flaw_is : flaw ≡ flaw_after None [] done
  pub short : length done ≤ at
  pub above : read_from 1 (lines_of (take at text)) ≡ Items done
  pub answer : read_from 1 (lines_of text) ≡ prepend done (read_from k (lines_of (drop at text)))

pub walk_start : {text : Text} {table : List Entry} {notes : List Note} → Holds table []
    → Walked text table notes 0 1 0 None
unfolding flaw_after read_from lines_of
walk_start {text} h =
    record {
      done = [];
      inside = omega arith;
      holds = h;
      noted = λ l. tt;
      line_is = refl;
      count_is = refl;
      flaw_is = refl;
      short = omega arith;
      above = refl;
      answer = prepend_none (read_from 1 (lines_of text));
    }

-- what the pass tells, and leaves in the table and the notes
abbrev pub Told : Text → List Entry → List Note → Result Counted TextRefusal → Type 0
Told text table notes r =
    (r ≡ read_as (read_from 1 (lines_of text))) × Entered table notes (read_from 1 (lines_of text))

module _ {text : Text} {table : List Entry} {notes : List Note} {at k i : ℕ} {flaw : Std.Option TextRefusal}
    (w : Walked text table notes at k i flaw) where
  pub walk_none : at < length text → parsed_at at (lines_of (drop at text)) ≡ None
      → Told text table notes (Err (refusal_at check.Line k))
  walk_none h e =
      let all : read_from 1 (lines_of text) ≡ NoLine k =
      w.answer ∙ ap (prepend w.done) (not_read text at h e k) in
      rw all (refl, tt)

  pub walk_end : at ≡ length text → Told text table notes (Ok (record { n = i; flaw = flaw }))
  unfolding read_from lines_of
  walk_end e =
      let nothing : drop at text ≡ [] = ap (λ (n : ℕ). drop n text) e ∙ drop-length text in
      let all : read_from 1 (lines_of text) ≡ Items w.done =
      w.answer ∙ ap (λ (t : Text). prepend w.done (read_from k (lines_of t))) nothing
      ∙ ap Items (append-nil w.done) in
      let count : i ≡ instructions_in w.done = omega (arith, w.count_is) in
      rw all (
        ap₂ (λ (n : ℕ) (f : Std.Option TextRefusal). Ok (record { n = n; flaw = f })) count w.flaw_is,
        record { holds = w.holds; noted = w.noted },
      )

  -- the text above the line
  above_items : items_of (take at text) ≡ w.done
  above_items = ap items_in w.above

  pub walk_known : Known (take at text) table
  walk_known =
      record {
        all_read = w.above ∙ ap Items (sym above_items);
        holds = subst (Holds table) (sym above_items) w.holds;
      }

  pub walk_counted : i ≡ instructions_in (items_of (take at text))
  walk_counted = omega (arith, w.count_is, ap instructions_in above_items)

  pub walk_few : i ≤ at
  walk_few = omega (arith, w.count_is, w.short, count_le w.done)

-- the table and the notes keep their lengths
entries_length : (row : ℕ) (table : List Entry) (name number : ℕ)
    → length (entries_after row table name number) ≡ length table
entries_length row table name number = go (eqb row 0)
  where
    go : (b : Bool) → length (cond b (table_after table name number) table) ≡ length table
    go true = after_length table name number
    go false = refl

notes_length : (row : ℕ) (notes : List Note) (i : ℕ) (note : Note)
    → length (notes_after row notes i note) ≡ length notes
notes_length row notes i note = go (eqb row 0)
  where
    go : (b : Bool) → length (cond b notes (set notes i note)) ≡ length notes
    go true = refl
    go false = length-set notes i note

-- how the code holds an item
as_noted : (x : Item) (i k : ℕ) → note_of (item_in (item_as x)) i k ≡ note_of x i k
unfolding says_of
as_noted x i k = refl

as_asked : (above : List Item) (x : Item) → line_no above (item_in (item_as x)) ≡ line_no above x
unfolding line_no
as_asked above x = refl

-- the notes after a line
line_noted : (notes : List Note) (xs : List Item) (x : Item) (i k : ℕ)
    → (instructions_in xs ≤ length notes → Noted notes [] xs) → i ≡ instructions_in xs → k ≡ 1 + length xs
    → (x.row ≡ branch_row → value_at x 1 ≡ 0 → ⊥) → instructions_in (xs ++ (x ∷ [])) ≤ length notes
    → Noted (notes_after x.row notes i (note_of x i k)) [] (xs ++ (x ∷ []))
line_noted notes xs x i k noted e d nm room = go (is_label x) refl
  where
    at : (b : Bool) → is_label x ≡ b → instructions_in xs ≤ length notes
    at true l = omega (arith, room, label_counted xs x l)
    at false l = omega (arith, room, instruction_counted xs x l)

    go : (b : Bool) → is_label x ≡ b → Noted (cond b notes (set notes i (note_of x i k))) [] (xs ++ (x ∷ []))
    go true l =
        noted_append notes [] xs x (noted (at true l))
        (subst (λ (b : Bool). Unless b (NotedAt notes x (instructions_in xs) (1 + length xs))) (sym l) tt)
    go false l =
        let put = NotedAt (set notes i (note_of x i k)) x in
        let here : put i k = noted_here notes x i k (omega (arith, room, e, instruction_counted xs x l)) nm in
        noted_append (set notes i (note_of x i k)) [] xs x
        (noted_stays notes i (note_of x i k) [] xs (omega (arith, e)) (noted (at false l)))
        (subst (λ (b : Bool). Unless b (put (instructions_in xs) (1 + length xs))) (sym l)
        (subst (λ (j : ℕ). put j (1 + length xs)) e (subst (λ (j : ℕ). put i j) d here)))

module _ {text : Text} {table : List Entry} {notes : List Note} {at k i : ℕ} {flaw : Std.Option TextRefusal}
    (w : Walked text table notes at k i flaw) where
  -- what the code makes of a line
  abbrev pub Enters : Code.Item → Result ⊤ Check → List Entry → List Note → Type 0
  Enters y outcome table' notes' =
      (outcome ≡ line_no (items_of (take at text)) (item_in y))
      × (table' ≡ entries_after y.row table y.values.a i)
      × (notes' ≡ notes_after y.row notes i (note_of (item_in y) i k))

  pub sized_on : (y : Code.Item) {outcome : Result ⊤ Check} {table' table₀ : List Entry} {notes' notes₀ : List Note}
      → Enters y outcome table' notes' → Sized table notes table₀ notes₀ → Sized table' notes' table₀ notes₀
  sized_on y (asked, table_is, notes_are) s =
      record {
        table_long = ap length table_is ∙ entries_length y.row table y.values.a i ∙ s.table_long;
        notes_long = ap length notes_are ∙ notes_length y.row notes i (note_of (item_in y) i k) ∙ s.notes_long;
      }

  count_after_is : (xs : List Item) (x : Item) (j : ℕ) → j ≡ 0 + instructions_in xs
      → count_after x.row j ≡ 0 + instructions_in (xs ++ (x ∷ []))
  count_after_is xs x j e = rw (instructions_append xs x) (go (eqb x.row 0))
    where
      go : (b : Bool) → cond b j (j + 1) ≡ 0 + (instructions_in xs + cond b 0 1)
      go true = omega arith
      go false = omega arith

  pub walk_on : (y : Code.Item) {next : ℕ} → parsed_at at (lines_of (drop at text)) ≡ line_of y next
      → {outcome : Result ⊤ Check} {i' : ℕ} {flaw' : Std.Option TextRefusal} {table' : List Entry} {notes' : List Note}
      → Enters y outcome table' notes' → flaw' ≡ first_flaw flaw outcome k → i' ≡ count_after y.row i
      → Walked text table' notes' next (k + 1) i' flaw'
  walk_on y {next} q {outcome} {i'} {flaw'} {table'} {notes'} (asked, table_is, notes_are) first count =
      rw (
        table_is,
        notes_are,
        first,
        count,
        asked,
        above_items w,
        l.item_is,
        as_noted l.item i k,
        as_asked w.done l.item,
      ) (
      record {
        done = w.done ++ (l.item ∷ []);
        inside = omega (arith, next_within text at w.inside l.written l.others l.here, l.next_is);
        holds = line_holds table w.done l.written l.item i (item_as l.item).values.a w.holds l.is_parsed_as w.count_is
            refl;
        noted = λ room. line_noted notes w.done l.item i k w.noted (omega (arith, w.count_is)) w.line_is
            (branch_name l.written l.item l.is_parsed_as)
            (omega (arith, room, notes_length l.item.row notes i (note_of l.item i k)));
        line_is = omega (arith, w.line_is, length-append w.done (l.item ∷ []));
        count_is = count_after_is w.done l.item i w.count_is;
        flaw_is = ap₂ (λ (f : Std.Option TextRefusal) (j : ℕ). first_flaw f (line_no w.done l.item) j) w.flaw_is
            w.line_is
            ∙ sym (flaw_append None [] w.done l.item);
        short = omega (arith, w.short, l.next_is, length-append w.done (l.item ∷ []));
        above = ap (λ (n : ℕ). read_from 1 (lines_of (take n text))) l.next_is
            ∙ above_read text at w.inside l.written l.others l.here w.done l.item w.above
            l.is_parsed_as;
        answer = w.answer ∙ ap (prepend w.done) (read_line l w.inside k)
            ∙ prepend_one w.done k l.item (read_from (k + 1) (lines_of (drop next text)));
      }
      )
    where
      l : Lined text at y next
      l = lined q
