-- A name's first definition, looked for line by line, or in the table.
use mathlib.Core.Bool.{Bool, true, false, false≢true, true≢false, cond, ◌&&◌}
use mathlib.Core.List.{List, [], ◌∷◌}
use mathlib.Core.Option.{some}
use mathlib.Core.Path.{◌≡◌, refl, ap, sym, ◌∙◌, subst}
use Prim.Native.Nat.{ℕ, suc, ◌+◌, ◌<◌, ◌≤◌}
use native.Mathlib.Numerals.{add-one}
use native.Mathlib.Omega.{arith}
use lib.Dec.{eqb}
use lib.ListN.{length, drop}
use lib.Seq.{drop-length}
use Rattle.labels.specs.Table.{lookup_of}
use Rattle.labels.specs.declared.table.Labelled.{Labelled}
use Rattle.labels.specs.declared.table.Labelled.TheVariants.{Defined, Undefined}
use Rattle.text.specs.Text.{Text, lines_of}
use Rattle.syntax.specs.Syntax.{Item, label_row}
use Rattle.syntax.specs.Parser.{parsed_at}
use Rattle.syntax.specs.declared.parser.Item as Code
use Rattle.std.specs.Prelude.{Some, None}
use Rattle.syntax.specs.Parser.{line_of}
use Rattle.labels.specs.declared.table.Entry.{Entry}
use Rattle.assembler.specs.Assemble.{Read, Items, NoLine, reading, read_from, is_label, value_at, definition_from}
use Rattle.assembler.specs.Labels.{number_of, aim_of}
use Rattle.assembler.specs.Reading.{count_after}
use Rattle.assembler.specs.Passes.{AllRead, Known, items_of}
use Rattle.assembler.proofs.Table.{Right, lookup_right}
use Rattle.assembler.proofs.Prefix.{no_items, same_items, next_within}
use Rattle.assembler.proofs.Steps.{not_read, Lined, lined, read_line}

-- what is looked for among all items is looked for among those that are left, from line k on
pub record Scan (text : Text) (name at i : ℕ) : Type 0 where
  pub k : ℕ
  pub rest : List Item
  pub inside : at ≤ length text
  pub number_le : i ≤ at
  pub left : read_from k (lines_of (drop at text)) ≡ Items rest
  pub answer : number_of (definition_from k i name rest) ≡ aim_of (items_of text) name

pub first_scan : {text : Text} {name : ℕ} → AllRead text → Scan text name 0 0
first_scan {text} e =
    record { k = 1; rest = items_of text; inside = omega arith; number_le = omega arith; left = e; answer = refl }

pub scan_none : {text : Text} {name at i : ℕ} → Scan text name at i → at ≡ length text
    → None ≡ aim_of (items_of text) name
unfolding definition_from read_from lines_of
scan_none {text} {name} {at} {i} s e =
    let none_left : s.rest ≡ [] =
    same_items (sym s.left ∙ ap (λ (t : Text). read_from s.k (lines_of t))
    (ap (λ (n : ℕ). drop n text) e ∙ drop-length text)) in
    sym (ap (λ (l : List Item). number_of (definition_from s.k i name l)) none_left) ∙ s.answer

pub scan_line : {A : Type 0} {text : Text} {name at i : ℕ} → Scan text name at i → at < length text
    → parsed_at at (lines_of (drop at text)) ≡ None → A
scan_line {text = text} {at = at} s h e = no_items (sym (not_read text at h e s.k) ∙ s.left)

abbrev defines : Item → ℕ → Bool
defines x name = is_label x && eqb (value_at x 0) name

defined_here : (k i name : ℕ) (x : Item) (xs : List Item) → defines x name ≡ true
    → definition_from k i name (x ∷ xs) ≡ some (record { line = k; number = i })
unfolding definition_from
defined_here k i name x xs = go (is_label x) (eqb (value_at x 0) name)
  where
    go : (l s : Bool) → (l && s) ≡ true
        → cond l (cond s (some (record { line = k; number = i })) (definition_from (suc k) i name xs))
        (definition_from (suc k) (suc i) name xs) ≡ some (record { line = k; number = i })
    go true true e = refl
    go true false e = absurd (false≢true e)
    go false s e = absurd (false≢true e)

defined_later : (k i name : ℕ) (x : Item) (xs : List Item) → defines x name ≡ false
    → definition_from (k + 1) (count_after x.row i) name xs ≡ definition_from k i name (x ∷ xs)
unfolding definition_from
defined_later k i name x xs e = rw (add-one k, add-one i) (go (is_label x) (eqb (value_at x 0) name) e)
  where
    go : (l s : Bool) → (l && s) ≡ false
        → definition_from (suc k) (cond l i (suc i)) name xs
        ≡ cond l (cond s (some (record { line = k; number = i })) (definition_from (suc k) i name xs))
        (definition_from (suc k) (suc i) name xs)
    go true true e = absurd (true≢false e)
    go true false e = refl
    go false s e = refl

pub count_step : (row i : ℕ) → count_after row i ≤ i + 1
count_step row i = go (eqb row 0)
  where
    go : (b : Bool) → cond b i (i + 1) ≤ i + 1
    go true = omega arith
    go false = omega arith

-- what was read behind an item
behind : (k : ℕ) (x : Item) (later : Read) (rest : List Item) → reading k (some x) later ≡ Items rest
    → (xs : List Item) × (later ≡ Items xs) × (rest ≡ x ∷ xs)
behind k x (Items xs) rest e = (xs, refl, same_items (sym e))
behind k x (NoLine n) rest e = no_items e

module _ {text : Text} {name at i : ℕ} (s : Scan text name at i) (y : Code.Item) {next : ℕ}
    (q : parsed_at at (lines_of (drop at text)) ≡ line_of y next)
    {d : Bool} (asked : d ≡ (eqb y.row label_row && eqb y.values.a name)) where
  here : Lined text at y next
  here = lined q

  later : (xs : List Item) × (read_from (s.k + 1) (lines_of (drop next text)) ≡ Items xs) × (s.rest ≡ here.item ∷ xs)
  later =
      behind s.k here.item (read_from (s.k + 1) (lines_of (drop next text))) s.rest
      (sym (read_line here s.inside s.k) ∙ s.left)

  same : d ≡ defines here.item name
  same = asked ∙ ap (λ (z : Code.Item). eqb z.row label_row && eqb z.values.a name) here.item_is

  pub scan_found : d ≡ true → Some i ≡ aim_of (items_of text) name
  scan_found t =
      ap number_of (sym (defined_here s.k i name here.item later.0 (sym same ∙ t))
      ∙ ap (definition_from s.k i name) (sym later.2)) ∙ s.answer

  pub scan_on : {i' : ℕ} → d ≡ false → i' ≡ count_after y.row i → Scan text name next i'
  scan_on {i'} t c =
      let h = here in
      let count : i' ≡ count_after h.item.row i = c ∙ ap (λ (z : Code.Item). count_after z.row i) h.item_is in
      let within = next_within text at s.inside h.written h.others h.here in
      record {
        k = s.k + 1;
        rest = later.0;
        inside = omega (arith, within, h.next_is);
        number_le = omega (arith, h.next_is, s.number_le, count, count_step h.item.row i);
        left = later.1;
        answer = ap number_of (ap (λ (j : ℕ). definition_from (s.k + 1) j name later.0) count
            ∙ defined_later s.k i name h.item later.0 (sym same ∙ t)
            ∙ ap (definition_from s.k i name) (sym later.2)) ∙ s.answer;
      }

-- by the table
module _ {text : Text} {table : List Entry} {name : ℕ} {known : Labelled}
    (ready : Known text table) (named : name ≡ 0 → ⊥) (asked : known ≡ lookup_of table name) where
  right : Right (aim_of (items_of text) name) known
  right =
      subst (Right (aim_of (items_of text) name)) (sym asked)
      (lookup_right table (items_of text) name ready.holds named)

  pub found_there : {number : ℕ} → known ≡ Defined number → Some number ≡ aim_of (items_of text) name
  found_there e = sym (subst (Right (aim_of (items_of text) name)) e right)

  pub found_nowhere : known ≡ Undefined → None ≡ aim_of (items_of text) name
  found_nowhere e = sym (subst (Right (aim_of (items_of text) name)) e right)
