-- The answer and the output, by what the passes say.
use mathlib.Core.Bool.{Bool, true, false, cond}
use mathlib.Core.List.{List, [], ◌∷◌, ◌++◌}
use mathlib.Core.Path.{◌≡◌, refl, ap, sym, ◌∙◌, subst}
use Prim.Native.Nat.{ℕ, suc, ◌<◌, ◌≤◌}
use native.Mathlib.Omega.{arith}
use lib.ListN.{length, drop, set}
use borrow.Author.Tests.{le-leb, lt-leb}
use Rattle.units.proofs.Cases.{clash}
use Rattle.isa.specs.declared.instruction.Instruction.{Instruction}
use Rattle.image.specs.Format.{most_code}
use Rattle.text.specs.Text.{Text, lines_of}
use Rattle.syntax.specs.Syntax.{Item}
use Rattle.assembler.specs.Assemble.{Read, Items, NoLine, read_from, is_label, instructions_in, check15}
use Rattle.assembler.specs.Assemble.{Said, Nothing, Instructs, Fault, said_at, Checked, Code, Fails, saying}
use Rattle.assembler.specs.Assemble.{next_number, check_from, halfwords_of, Assembly, Assembles, Refuses, with_room}
use Rattle.assembler.specs.Assemble.{assemble_read, assemble_of}
use Rattle.assembler.specs.Assembled.{refusal, refusal_at, assembled_as, output_after, TriedOf}
use Rattle.assembler.specs.Reading.{flaw_after, read_as, Entered}
use Rattle.assembler.specs.Passes.{Ready, Unfolded, items_of, made_of, translated_as, put_from, Written}
use Rattle.assembler.specs.declared.reader.Counted.{Counted}
use Rattle.assembler.specs.declared.reader.Note.{Note}
use Rattle.assembler.specs.declared.refusal.TextRefusal.{TextRefusal}
use Rattle.std.specs.Prelude as Std
use Rattle.std.specs.Prelude.{Result, Ok, Err, Some, None, ⊤}
use Rattle.refusals.specs.declared.check.Check.{Check}
use Rattle.refusals.specs.declared.check.Check.TheVariants as check
use Rattle.labels.specs.declared.table.Entry.{Entry}
use Rattle.assembler.proofs.Saying.{Kind, kind}
use Rattle.assembler.proofs.Translating.{whole}

-- a text has as many halfwords as instructions
halfwords_length : (is : List Instruction) → length (halfwords_of is) ≡ length is
halfwords_length [] = refl
halfwords_length (i ∷ is) = ap suc (halfwords_length is)

code_length_is : (items : List Item) (k i : ℕ) (xs : List Item) (is : List Instruction) → check_from items k i xs
    ≡ Code is
    → length is ≡ instructions_in xs
unfolding check_from
code_length_is items k i [] is e = let z : is ≡ [] = cc in ap length z
code_length_is items k i (x ∷ xs) is e =
    go (said_at items k i x) (is_label x) (kind items k i x) (check_from items (suc k) (next_number x i) xs)
    (code_length_is items (suc k) (next_number x i) xs) e
  where
    go : (s : Said) (l : Bool) → Kind l s → (later : Checked)
        → ((js : List Instruction) → later ≡ Code js → length js ≡ instructions_in xs)
        → saying k s later ≡ Code is → length is ≡ cond l (instructions_in xs) (suc (instructions_in xs))
    go Nothing true kd later f e = f is e
    go Nothing false kd later f e = absurd kd
    go (Instructs j) true kd later f e = absurd kd
    go (Instructs j) false kd (Code js) f e = let z : is ≡ j ∷ js = cc in ap length z ∙ ap suc (f js refl)
    go (Instructs j) false kd (Fails c m) f e = clash (cc)
    go (Fault n) l kd later f e = clash (cc)

-- halfwords put one by one
put_behind : (i : ℕ) (hs : List ℕ) (h : ℕ) (out : List ℕ) → put_from (suc i) hs (h ∷ out) ≡ h ∷ put_from i hs out
unfolding put_from
put_behind i [] h out = refl
put_behind i (g ∷ hs) h out = put_behind (suc i) hs h (set out i g)

put_all : (hs out : List ℕ) → length hs ≤ length out → put_from 0 hs out ≡ hs ++ drop (length hs) out
unfolding put_from
put_all [] out h = refl
put_all (g ∷ hs) [] h = absurd (omega arith)
put_all (g ∷ hs) (o ∷ out) h = put_behind 0 hs g out ∙ ap (λ (l : List ℕ). g ∷ l) (put_all hs out (omega arith))

-- what a try answers and leaves, with room for the notes of so many instructions
abbrev pub Answer : Type 0
Answer = Result (Std.Option ℕ) TextRefusal

abbrev pub Tries : Text → ℕ → List ℕ → Answer → List ℕ → Type 0
Tries text room out r after = TriedOf (assemble_of text (length out)) room out r after

refuses : (text out : List ℕ) (room : ℕ) (c : Check) (line : ℕ) → assemble_of text (length out) ≡ Refuses c line
    → Tries text room out (Err (refusal_at c line)) out
refuses text out room c line e =
    (ap assembled_as (sym e), ap (λ (z : Assembly). output_after z out) (sym e))

abbrev said : Text → Checked
said text = check_from (items_of text) 1 0 (items_of text)

module _ {text : Text} {table : List Entry} {notes : List Note} {counted : Counted}
    (read : Unfolded text table notes counted) where
  abbrev room : ℕ
  room = length notes

  abbrev n : ℕ
  n = counted.n

  read_items : (size : ℕ) → assemble_of text size ≡ assemble_read size (Items (items_of text))
  unfolding assemble_of
  read_items size = ap (assemble_read size) read.known.all_read

  counted_as : (size : ℕ) (b : Bool) → check15 n ≡ b
      → assemble_of text size ≡ cond b (with_room size (said text)) (Refuses check.CodeLength 0)
  counted_as size b e =
      read_items size
      ∙ ap (λ (t : Bool). cond t (with_room size (said text)) (Refuses check.CodeLength 0))
      (ap check15 (sym read.count) ∙ e)

  pub too_few : (out : List ℕ) → n < 1 → Tries text room out (Err (refusal check.CodeLength)) out
  too_few out h =
      refuses text out room check.CodeLength 0 (counted_as (length out) false (rw (lt-leb 1 n h) refl))

  pub too_many : (out : List ℕ) → most_code < n → Tries text room out (Err (refusal check.CodeLength)) out
  too_many out h =
      let e : check15 n ≡ false = rw (le-leb 1 n (omega arith), lt-leb n most_code h) refl in
      refuses text out room check.CodeLength 0 (counted_as (length out) false e)

  -- the notes are all there
  pub all_noted : n ≤ length notes → Ready text table notes counted
  all_noted h =
      record {
        known = read.known;
        room = h;
        noted = read.noted h;
        count = read.count;
        flaw_is = read.flaw_is;
      }

  module _ (out : List ℕ) (least : 1 ≤ n) (most : n ≤ most_code) where
    checked : (c : Checked) → said text ≡ c → assemble_of text (length out) ≡ with_room (length out) c
    checked c e =
        counted_as (length out) true (rw (le-leb 1 n least, le-leb n most_code most) refl)
        ∙ ap (with_room (length out)) e

    pub line_fails : {f : TextRefusal} → Err f ≡ translated_as (whole text) → Tries text room out (Err f) out
    line_fails {f} e = go (said text) refl e
      where
        go : (c : Checked) → said text ≡ c → Err f ≡ translated_as (made_of c) → Tries text room out (Err f) out
        go (Code is) p e = clash (cc)
        go (Fails m l) p e =
            let same : f ≡ refusal_at m l = cc in
            subst (λ (r : TextRefusal). Tries text room out (Err r) out) (sym same)
            (refuses text out room m l (checked (Fails m l) p))

    pub no_room : length out < n → Ok tt ≡ translated_as (whole text)
        → Tries text room out (Err (refusal check.OutputLength)) out
    no_room h e = go (said text) refl e
      where
        go : (c : Checked) → said text ≡ c → Ok tt ≡ translated_as (made_of c)
            → Tries text room out (Err (refusal check.OutputLength)) out
        go (Fails m l) p e = clash (cc)
        go (Code is) p e =
            let long : length is ≡ n = code_length_is (items_of text) 1 0 (items_of text) is p ∙ sym read.count in
            refuses text out room check.OutputLength 0
            (checked (Code is) p ∙ rw (lt-leb (length is) (length out) (omega arith)) refl)

    pub code_done : {after : List ℕ} → n ≤ length out → Ok tt ≡ translated_as (whole text)
        → Written (whole text) 0 out after → Tries text room out (Ok (Some n)) after
    code_done {after} h e w = go (said text) refl e w
      where
        go : (c : Checked) → said text ≡ c → Ok tt ≡ translated_as (made_of c) → Written (made_of c) 0 out after
            → Tries text room out (Ok (Some n)) after
        go (Fails m l) p e w = clash (cc)
        go (Code is) p e w =
            let long : length is ≡ n = code_length_is (items_of text) 1 0 (items_of text) is p ∙ sym read.count in
            let all : n ≡ length (halfwords_of is) = sym long ∙ sym (halfwords_length is) in
            let is_code : assemble_of text (length out) ≡ Assembles (halfwords_of is) =
            checked (Code is) p ∙ rw (le-leb (length is) (length out) (omega arith)) refl in (
              ap (λ (m : ℕ). Ok m) all ∙ ap assembled_as (sym is_code),
              w ∙ put_all (halfwords_of is) out (omega arith)
                  ∙ ap (λ (z : Assembly). output_after z out) (sym is_code),
            )

-- 21
pub no_line : (text out : List ℕ) (room : ℕ) {f : TextRefusal} → Err f ≡ read_as (read_from 1 (lines_of text))
    → Tries text room out (Err f) out
unfolding assemble_of
no_line text out room {f} told = go (read_from 1 (lines_of text)) refl told
  where
    go : (o : Read) → read_from 1 (lines_of text) ≡ o → Err f ≡ read_as o → Tries text room out (Err f) out
    go (Items xs) p e = clash (cc)
    go (NoLine k) p e =
        let same : f ≡ refusal_at check.Line k = cc in
        subst (λ (r : TextRefusal). Tries text room out (Err r) out) (sym same)
        (refuses text out room check.Line k (ap (assemble_read (length out)) p))

-- a text that was read
pub was_read : (text : Text) (table : List Entry) (notes : List Note) {counted : Counted}
    → Ok counted ≡ read_as (read_from 1 (lines_of text)) → Entered table notes (read_from 1 (lines_of text))
    → Unfolded text table notes counted
was_read text table notes {counted} told entered = go (read_from 1 (lines_of text)) refl told entered
  where
    go : (o : Read) → read_from 1 (lines_of text) ≡ o → Ok counted ≡ read_as o → Entered table notes o
        → Unfolded text table notes counted
    go (NoLine k) p e h = clash (cc)
    go (Items xs) p e h =
        let same : counted ≡ record { n = instructions_in xs; flaw = flaw_after None [] xs } = cc in
        let count : counted.n ≡ instructions_in xs = ap (λ (c : Counted). c.n) same in
        let first : counted.flaw ≡ flaw_after None [] xs = ap (λ (c : Counted). c.flaw) same in
        record {
          known = record { all_read = rw p refl; holds = rw p h.holds };
          noted = λ l. rw p (h.noted (omega (arith, l, count)));
          count = rw p count;
          flaw_is = rw p first;
        }

-- to have outgrown some room says no less of none
pub in_none : (text out after : List ℕ) (room : ℕ) (r : Answer) → Tries text room out r after → Tries text 0 out r after
in_none text out after room (Ok (Some n)) tried = tried
in_none text out after room (Ok None) tried = (omega arith, tried.1)
in_none text out after room (Err f) tried = tried
