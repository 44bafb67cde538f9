-- The table of labels is kept true line by line, and a lookup answers by it.
use mathlib.Core.Bool.{Bool, true, false, cond}
use mathlib.Core.List.{List, [], ◌∷◌, ◌++◌}
use mathlib.Core.Option.{Option, none, some}
use mathlib.Core.Path.{◌≡◌, refl, ap, ap₂, sym, ◌∙◌, subst}
use Prim.Native.Nat.{ℕ, zero, suc, ◌+◌, ◌<◌}
use native.Mathlib.Omega.{arith}
use lib.Dec.{eqb}
use lib.ListN.{length, get_or, set, replicate, length-set, length-replicate}
use lib.Seq.{get_or-set_same, get_or-set_other}
use borrow.Author.Tests.{eqb-true, eqb-false, eq-eqb, ne_eqb}
use Rattle.units.proofs.Cases.{clash}
use Rattle.syntax.specs.Syntax.{Item}
use Rattle.assembler.specs.Assemble.{is_label, value_at, instructions_in, Definition, definition_from, definition_of}
use Rattle.std.specs.Prelude as Std
use Rattle.std.specs.Prelude.{Some, None}
use Rattle.labels.specs.Table.{free_entry, name_at, number_at, home, next_place, tries, probe_from, probe_of, entered}
use Rattle.labels.specs.Table.{table_after, lookup_of, labelled}
use Rattle.labels.specs.declared.table.Entry.{Entry}
use Rattle.assembler.specs.Labels.{number_of, aim_of, Holds}
use Rattle.labels.specs.declared.table.Probed.{Probed}
use Rattle.labels.specs.declared.table.Probed.TheVariants.{Here, Free, Crowded}
use Rattle.labels.specs.declared.table.Labelled.{Labelled}
use Rattle.labels.specs.declared.table.Labelled.TheVariants.{Defined, Undefined, Unknown}
use Rattle.labels.proofs.Probes.{inside_free}

abbrev defined : ℕ → ℕ → Option Definition
defined line number = some (record { line = line; number = number })

-- the first definition in two parts of a text
abbrev pub or_else : Option Definition → Option Definition → Option Definition
or_else none o = o
or_else (some d) o = some d

pub definition_append : (k i n : ℕ) (xs ys : List Item)
    → definition_from k i n (xs ++ ys)
    ≡ or_else (definition_from k i n xs) (definition_from (k + length xs) (i + instructions_in xs) n ys)
unfolding definition_from
definition_append k i n [] ys = ap₂ (λ (a b : ℕ). definition_from a b n ys) (omega arith) (omega arith)
definition_append k i n (x ∷ xs) ys =
    go (is_label x) (eqb (value_at x 0) n) (definition_append (suc k) i n xs ys)
    (definition_append (suc k) (suc i) n xs ys)
  where
    later : (b : ℕ) (j : ℕ) → b ≡ j
        → definition_from (suc k + length xs) b n ys ≡ definition_from (k + suc (length xs)) j n ys
    later b j e = ap₂ (λ (c d : ℕ). definition_from c d n ys) (omega arith) e

    behind : ℕ → Option Definition
    behind j = definition_from (suc k + length xs) (j + instructions_in xs) n ys

    go : (l s : Bool) → definition_from (suc k) i n (xs ++ ys) ≡ or_else (definition_from (suc k) i n xs) (behind i)
        → definition_from (suc k) (suc i) n (xs ++ ys) ≡ or_else (definition_from (suc k) (suc i) n xs) (behind (suc i))
        → cond l (cond s (defined k i) (definition_from (suc k) i n (xs ++ ys)))
        (definition_from (suc k) (suc i) n (xs ++ ys))
        ≡ or_else (cond l (cond s (defined k i) (definition_from (suc k) i n xs))
        (definition_from (suc k) (suc i) n xs))
        (definition_from (k + suc (length xs)) (i + cond l (instructions_in xs) (suc (instructions_in xs))) n ys)
    go true true e f = refl
    go true false e f = e
        ∙ ap (or_else (definition_from (suc k) i n xs)) (later (i + instructions_in xs) (i + instructions_in xs) refl)
    go false s e f =
        f ∙ ap (or_else (definition_from (suc k) (suc i) n xs))
        (later (suc i + instructions_in xs) (i + suc (instructions_in xs)) (omega arith))

-- a definition stays
stays : (n : ℕ) (xs ys : List Item) (d : Definition) → definition_of n xs ≡ some d → definition_of n (xs ++ ys) ≡ some d
stays n xs ys d e = definition_append 1 0 n xs ys ∙ rw e refl

pub stays_aim : (n : ℕ) (xs ys : List Item) (v : ℕ) → aim_of xs n ≡ Some v → aim_of (xs ++ ys) n ≡ Some v
stays_aim n xs ys v = go (definition_of n xs) refl
  where
    go : (o : Option Definition) → definition_of n xs ≡ o → number_of o ≡ Some v → aim_of (xs ++ ys) n ≡ Some v
    go none e q = clash (cc)
    go (some d) e q = ap number_of (stays n xs ys d e) ∙ q

-- one line more
more : (n : ℕ) (xs : List Item) (x : Item) → definition_of n xs ≡ none
    → definition_of n (xs ++ (x ∷ [])) ≡ definition_from (1 + length xs) (0 + instructions_in xs) n (x ∷ [])
more n xs x e = definition_append 1 0 n xs (x ∷ []) ∙ rw e refl

-- a label
abbrev pub label_item : ℕ → Item
label_item n = record { row = 0; values = n ∷ [] }

other_label : (k i n m : ℕ) → (m ≡ n → ⊥) → definition_from k i n (label_item m ∷ []) ≡ none
unfolding definition_from
other_label k i n m f = simp (ne_eqb m n f)

this_label : (k i n : ℕ) → definition_from k i n (label_item n ∷ []) ≡ defined k i
unfolding definition_from
this_label k i n = simp (eq-eqb n n refl)

no_label : (k i n : ℕ) (x : Item) → is_label x ≡ false → definition_from k i n (x ∷ []) ≡ none
unfolding definition_from
no_label k i n x e = simp e

here_free : {C : Type 0} (a b : ℕ) → Here a ≡ Free b → C
here_free a b e = clash (cc)

crowded_free : {C : Type 0} (b : ℕ) → Crowded ≡ Free b → C
crowded_free b e = clash (cc)

frees : (a b : ℕ) → Free a ≡ Free b → a ≡ b
frees a b e = cc

-- a probe past a place that is filled
module _ (places : ℕ) (table : List Entry) (at m v : ℕ) (z : name_at table at ≡ 0) (l : at < length table) where
  abbrev next : ℕ → ℕ
  next a = next_place places a

  abbrev filled : List Entry
  filled = set table at (record { name = m; number = v })

  filled_name : name_at filled at ≡ m
  filled_name = ap (λ (e : Entry). e.name) (get_or-set_same table at (record { name = m; number = v }) free_entry l)

  filled_other : (a : ℕ) → (a ≡ at → ⊥) → name_at filled a ≡ name_at table a
  filled_other a n =
      ap (λ (e : Entry). e.name) (get_or-set_other table at a (record { name = m; number = v }) free_entry n)

  -- found where it was put
  probe_put : (t a : ℕ) → probe_from places t a table m ≡ Free at → probe_from places t a filled m ≡ Here at
  unfolding probe_from
  probe_put zero a e = crowded_free at e
  probe_put (suc t) a e = go (eqb a at) refl (probe_put t (next a))
    where
      pick : (x y : Bool) → (a ≡ at → ⊥)
          → (probe_from places t (next a) table m ≡ Free at → probe_from places t (next a) filled m ≡ Here at)
          → cond x (Here a) (cond y (Free a) (probe_from places t (next a) table m)) ≡ Free at
          → cond x (Here a) (cond y (Free a) (probe_from places t (next a) filled m)) ≡ Here at
      pick true y n r e = here_free a at e
      pick false true n r e = absurd (n (frees a at e))
      pick false false n r e = r e

      go : (b : Bool) → eqb a at ≡ b
          → (probe_from places t (next a) table m ≡ Free at → probe_from places t (next a) filled m ≡ Here at)
          → cond (eqb (name_at filled a) m) (Here a)
          (cond (eqb (name_at filled a) 0) (Free a) (probe_from places t (next a) filled m))
          ≡ Here at
      go true q r =
          let p : a ≡ at = eqb-true a at q in
          let s : name_at filled a ≡ m = ap (name_at filled) p ∙ filled_name in
          rw (eq-eqb (name_at filled a) m s) (ap Here p)
      go false q r =
          let n : a ≡ at → ⊥ = eqb-false a at q in
          rw (filled_other a n) (pick (eqb (name_at table a) m) (eqb (name_at table a) 0) n r e)

  -- another name's probe that ends at a free place did so before
  probe_before : (t a n b : ℕ) → (n ≡ 0 → ⊥) → probe_from places t a filled n ≡ Free b
      → (d : ℕ) × (probe_from places t a table n ≡ Free d)
  unfolding probe_from
  probe_before zero a n b f e = crowded_free b e
  probe_before (suc t) a n b f e = go (eqb a at) refl (probe_before t (next a) n b f)
    where
      pick : (x y : Bool)
          → (probe_from places t (next a) filled n ≡ Free b
          → (d : ℕ) × (probe_from places t (next a) table n ≡ Free d))
          → cond x (Here a) (cond y (Free a) (probe_from places t (next a) filled n)) ≡ Free b
          → (d : ℕ) × (cond x (Here a) (cond y (Free a) (probe_from places t (next a) table n)) ≡ Free d)
      pick true y r e = here_free a b e
      pick false true r e = (a, refl)
      pick false false r e = r e

      go : (x : Bool) → eqb a at ≡ x
          → (probe_from places t (next a) filled n ≡ Free b
          → (d : ℕ) × (probe_from places t (next a) table n ≡ Free d))
          → (d : ℕ) × (cond (eqb (name_at table a) n) (Here a)
          (cond (eqb (name_at table a) 0) (Free a) (probe_from places t (next a) table n)) ≡ Free d)
      go true q r =
          let p : name_at table a ≡ 0 = ap (name_at table) (eqb-true a at q) ∙ z in
          (a, rw (ne_eqb (name_at table a) n (λ w. f (sym w ∙ p)), eq-eqb (name_at table a) 0 p))
      go false q r =
          pick (eqb (name_at table a) n) (eqb (name_at table a) 0) r
          (rw (filled_other a (eqb-false a at q)) at e)

-- a free place holds no name
free_zero : (places t a : ℕ) (table : List Entry) (n at : ℕ) → probe_from places t a table n ≡ Free at
    → name_at table at ≡ 0
unfolding probe_from
free_zero places zero a table n at e = crowded_free at e
free_zero places (suc t) a table n at e =
    go (eqb (name_at table a) n) (eqb (name_at table a) 0) refl (free_zero places t (next_place places a) table n at) e
  where
    go : (x y : Bool) → eqb (name_at table a) 0 ≡ y
        → (probe_from places t (next_place places a) table n ≡ Free at → name_at table at ≡ 0)
        → cond x (Here a) (cond y (Free a) (probe_from places t (next_place places a) table n)) ≡ Free at
        → name_at table at ≡ 0
    go true y q r e = here_free a at e
    go false true q r e = ap (name_at table) (sym (frees a at e)) ∙ eqb-true (name_at table a) 0 q
    go false false q r e = r e

-- where a name is found it stands
here_name : (places t a : ℕ) (table : List Entry) (n at : ℕ) → probe_from places t a table n ≡ Here at
    → name_at table at ≡ n
unfolding probe_from
here_name places zero a table n at e = clash (cc)
here_name places (suc t) a table n at e =
    go (eqb (name_at table a) n) (eqb (name_at table a) 0) refl (here_name places t (next_place places a) table n at) e
  where
    go : (x y : Bool) → eqb (name_at table a) n ≡ x
        → (probe_from places t (next_place places a) table n ≡ Here at → name_at table at ≡ n)
        → cond x (Here a) (cond y (Free a) (probe_from places t (next_place places a) table n)) ≡ Here at
        → name_at table at ≡ n
    go true y q r e = let p : a ≡ at = cc in ap (name_at table) (sym p) ∙ eqb-true (name_at table a) n q
    go false true q r e = here_free at a (sym e)
    go false false q r e = r e

-- a probe is right: of a name that stands in the table, and of one that doesn't
pub here_aim : {table : List Entry} {items : List Item} {name at : ℕ} → Holds table items → (name ≡ 0 → ⊥)
    → probe_of table name ≡ Here at → aim_of items name ≡ Some (number_at table at)
unfolding probe_of
here_aim {table} {items} {name} {at} h n e =
    let q : name_at table at ≡ name = here_name (length table) tries (home (length table) name) table name at e in
    subst (λ (x : ℕ). aim_of items x ≡ Some (number_at table at)) q (h.stored at (λ w. n (sym q ∙ w)))

pub free_aim : {table : List Entry} {items : List Item} {name at : ℕ} → Holds table items → (name ≡ 0 → ⊥)
    → probe_of table name ≡ Free at → aim_of items name ≡ None
free_aim {name = name} {at = at} h n e = ap number_of (h.free name at n e)

-- a lookup is right
abbrev pub Right : Std.Option ℕ → Labelled → Type 0
Right o (Defined number) = o ≡ Some number
Right o Undefined = o ≡ None
Right o Unknown = Unit {0}

pub lookup_right : (table : List Entry) (items : List Item) (name : ℕ) → Holds table items → (name ≡ 0 → ⊥)
    → Right (aim_of items name) (lookup_of table name)
lookup_right table items name h n = go (probe_of table name) refl
  where
    go : (p : Probed) → probe_of table name ≡ p → Right (aim_of items name) (labelled p table)
    go (Here at) e = here_aim h n e
    go (Free at) e = free_aim h n e
    go Crowded e = tt

-- a line that is no label leaves it true
pub instruction_holds : (table : List Entry) (items : List Item) (x : Item) → is_label x ≡ false → Holds table items
    → Holds table (items ++ (x ∷ []))
instruction_holds table items x e h =
    record {
      size = h.size;
      stored = λ at n. stays_aim (name_at table at) items (x ∷ []) _ (h.stored at n);
      free = λ name at n q. more name items x (h.free name at n q)
          ∙ no_label (1 + length items) (0 + instructions_in items) name x e;
    }

-- a first definition at its free place
module _ (table : List Entry) (items : List Item) (m at : ℕ) (n : m ≡ 0 → ⊥) (h : Holds table items)
    (e : probe_of table m ≡ Free at) where
  abbrev entry : Entry
  entry = record { name = m; number = 0 + instructions_in items }

  abbrev after : List Entry
  after = set table at entry

  abbrev longer : List Item
  longer = items ++ (label_item m ∷ [])

  room : at < length table
  room = inside_free table m at (Free at) h.size (sym e) refl

  zero_at : name_at table at ≡ 0
  unfolding probe_of
  zero_at = free_zero (length table) tries (home (length table) m) table m at e

  stored_at : aim_of longer (name_at after at) ≡ Some (number_at after at)
  stored_at =
      subst (λ (x : Entry). aim_of longer x.name ≡ Some x.number) (sym (get_or-set_same table at entry free_entry room))
      (ap number_of (more m items (label_item m) (h.free m at n e)
      ∙ this_label (1 + length items) (0 + instructions_in items) m))

  still_stored : (b : ℕ) (x : Bool) → eqb b at ≡ x → (name_at after b ≡ 0 → ⊥)
      → aim_of longer (name_at after b) ≡ Some (number_at after b)
  still_stored b true q z =
      subst (λ (y : ℕ). aim_of longer (name_at after y) ≡ Some (number_at after y)) (sym (eqb-true b at q)) stored_at
  still_stored b false q z =
      let o = get_or-set_other table at b entry free_entry (eqb-false b at q) in
      subst (λ (x : Entry). aim_of longer x.name ≡ Some x.number) (sym o)
      (stays_aim (name_at table b) items (label_item m ∷ []) _ (h.stored b (λ w. z (ap (λ (e : Entry). e.name) o ∙ w))))

  still_free : (name b : ℕ) (x : Bool) → eqb m name ≡ x → (name ≡ 0 → ⊥)
      → probe_from (length table) tries (home (length table) name) after name ≡ Free b
      → definition_of name longer ≡ none
  unfolding probe_of
  still_free name b true q z r =
      let w : m ≡ name = eqb-true m name q in
      here_free at b
      (sym (probe_put (length table) table at m (0 + instructions_in items) zero_at room tries
      (home (length table) m) e)
      ∙ ap (λ (y : ℕ). probe_from (length table) tries (home (length table) y) after y) w ∙ r)
  still_free name b false q z r =
      let d = probe_before (length table) table at m (0 + instructions_in items) zero_at room tries
      (home (length table) name) name b z r in
      more name items (label_item m) (h.free name d.0 z d.1)
      ∙ other_label (1 + length items) (0 + instructions_in items) name m (eqb-false m name q)

  put_holds : Holds after longer
  unfolding probe_of
  put_holds =
      let long = length-set table at entry in
      record {
        size = omega (arith, long, h.size);
        stored = λ b z. still_stored b (eqb b at) refl z;
        free = λ name b z q. still_free name b (eqb m name) refl z
            (subst (λ (l : ℕ). probe_from l tries (home l name) after name ≡ Free b) long q);
      }

-- a definition that is entered keeps it true, and one that isn't too
pub define_holds : (table : List Entry) (items : List Item) (m : ℕ) → (m ≡ 0 → ⊥) → Holds table items
    → Holds (table_after table m (0 + instructions_in items)) (items ++ (label_item m ∷ []))
define_holds table items m n h = go (probe_of table m) refl
  where
    kept : ((name at : ℕ) → probe_of table name ≡ Free at → m ≡ name → ⊥) → Holds table (items ++ (label_item m ∷ []))
    kept f =
        record {
          size = h.size;
          stored = λ at z. stays_aim (name_at table at) items (label_item m ∷ []) _ (h.stored at z);
          free = λ name at z q. more name items (label_item m) (h.free name at z q)
              ∙ other_label (1 + length items) (0 + instructions_in items) name m (f name at q);
        }

    go : (p : Probed) → probe_of table m ≡ p
        → Holds (entered p table m (0 + instructions_in items)) (items ++ (label_item m ∷ []))
    go (Here at) e = kept (λ name b q w. here_free at b (sym e ∙ ap (probe_of table) w ∙ q))
    go (Free at) e = put_holds table items m at n h e
    go Crowded e = kept (λ name b q w. crowded_free b (sym e ∙ ap (probe_of table) w ∙ q))

all_free : (places at : ℕ) → get_or (replicate places free_entry) at free_entry ≡ free_entry
all_free zero at = refl
all_free (suc places) zero = refl
all_free (suc places) (suc at) = all_free places at

-- the empty table of an empty text
pub empty_holds : (places : ℕ) → 0 < places → Holds (replicate places free_entry) []
unfolding definition_from
empty_holds places h =
    record {
      size = omega (arith, h, length-replicate places free_entry);
      stored = λ at n. absurd (n (ap (λ (e : Entry). e.name) (all_free places at)));
      free = λ name at n q. refl;
    }
