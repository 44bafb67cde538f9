-- The names in the lines of labels and branches, which are never 0.
use mathlib.Core.Bool.{Bool, true, false, false≢true, cond, ◌&&◌}
use mathlib.Core.List.{List, [], ◌∷◌}
use mathlib.Core.Option.{Option, none, some}
use mathlib.Core.Path.{◌≡◌, refl, ap, sym, ◌∙◌, subst}
use Prim.Native.Nat.{ℕ, ◌+◌, ◌-◌, ◌*◌, ◌≤◌}
use native.Mathlib.Omega.{arith}
use lib.Dec.{leb}
use lib.ListN.{length, get_or}
use borrow.Author.Tests.{leb-true}
use Rattle.text.specs.Text.{Text, is_small, in_name, every, word, after_word, is_name, name_of, digits_after}
use Rattle.syntax.specs.Syntax.{Item, patterns, pattern_at, branch_row, slot_value, name_value, given}
use Rattle.syntax.specs.Syntax.{starts_with, tail, before, values_of, parse}
use Rattle.text.proofs.Words.{and_left}
use Rattle.text.proofs.Decimal.{digits_grow}
use Rattle.syntax.proofs.Rows.{never, parsed}
use Rattle.assembler.specs.Assemble.{value_at}
use Rattle.assembler.proofs.Table.{label_item}

-- the values of a line that was read are those of its row's pattern
row_values : (t : Text) (x : Item) → parse t ≡ some x → values_of (pattern_at x.row) t ≡ some x.values
unfolding parse
row_values t x e =
    let r = parsed patterns 0 t x e in
    let same : r.0 ≡ x.row = omega (arith, r.2) in
    subst (λ (j : ℕ). values_of (pattern_at j) t ≡ some x.values) same r.3

-- what a line says behind a slot, behind a character that stands for itself, and at its end
before_some : (o : Option ℕ) (l : Option (List ℕ)) (vs : List ℕ) → before o l ≡ some vs
    → (v : ℕ) × (us : List ℕ) × (o ≡ some v) × (l ≡ some us) × (vs ≡ v ∷ us)
before_some none l vs e = never e
before_some (some v) none vs e = never e
before_some (some v) (some us) vs e = (v, us, refl, refl, cc)

past_literal : (b : Bool) (o : Option (List ℕ)) (vs : List ℕ) → cond b o none ≡ some vs → o ≡ some vs
past_literal true o vs e = e
past_literal false o vs e = never e

at_end : (t : Text) (us : List ℕ) → values_of [] t ≡ some us → us ≡ []
unfolding values_of
at_end [] us e = cc
at_end (c ∷ t) us e = never e

positive : (w : Text) → is_name w ≡ true → 97 ≤ name_of w
unfolding is_name name_of digits_after
positive [] h = absurd (false≢true h)
positive (c ∷ t) h =
    let small = and_left (is_small c) (every in_name t)
    (and_left (is_small c && every in_name t) (leb (length t) 7) h) in
    let first = leb-true 97 c (and_left (leb 97 c) (leb c 122) small) in
    omega (arith, digits_grow (256 * 0 + (c - 0)) t)

name_positive : (w : Text) (v : ℕ) → name_value w ≡ some v → v ≡ 0 → ⊥
unfolding name_value
name_positive w v e z = go (is_name w) refl e
  where
    go : (b : Bool) → is_name w ≡ b → given b (name_of w) ≡ some v → ⊥
    go true q e = let n : name_of w ≡ v = cc in omega (arith, positive w q)
    go false q e = never e

-- the item of a label's line
pub label_item_is : (t : Text) (x : Item) → parse t ≡ some x → x.row ≡ 0
    → (n : ℕ) × (x ≡ label_item n) × (n ≡ 0 → ⊥)
unfolding values_of slot_value
label_item_is t x e r =
    let v : values_of (pattern_at 0) t ≡ some x.values =
    subst (λ (j : ℕ). values_of (pattern_at j) t ≡ some x.values) r (row_values t x e) in
    let b = before_some (name_value (word t)) (values_of (58 ∷ []) (after_word t)) x.values v in
    let rest = past_literal (starts_with 58 (after_word t)) (values_of [] (tail (after_word t))) b.1 b.3 in
    let n = at_end (tail (after_word t)) b.1 rest in
    let values = b.4 ∙ ap (λ (us : List ℕ). b.0 ∷ us) n in
    (b.0, λ j. record { row = r j; values = values j }, name_positive (word t) b.0 b.2)

-- a branch's line has a name in its second slot
pub branch_name : (t : Text) (x : Item) → parse t ≡ some x → x.row ≡ branch_row → value_at x 1 ≡ 0 → ⊥
unfolding values_of slot_value
branch_name t x e r z =
    let v : values_of (pattern_at branch_row) t ≡ some x.values =
    subst (λ (j : ℕ). values_of (pattern_at j) t ≡ some x.values) r (row_values t x e) in
    let u = tail t in
    let first = past_literal (starts_with 66 t) (values_of (99 ∷ 32 ∷ 108 ∷ []) u) x.values v in
    let b = before_some (slot_value 99 (word u)) (values_of (32 ∷ 108 ∷ []) (after_word u)) x.values first in
    let w = tail (after_word u) in
    let second = past_literal (starts_with 32 (after_word u)) (values_of (108 ∷ []) w) b.1 b.3 in
    let n = before_some (name_value (word w)) (values_of [] (after_word w)) b.1 second in
    let values = b.4 ∙ ap (λ (us : List ℕ). b.0 ∷ us) n.4 in
    let is : n.0 ≡ 0 = sym (ap (λ (us : List ℕ). get_or us 1 0) values) ∙ z in
    name_positive (word w) n.0 n.2 is
