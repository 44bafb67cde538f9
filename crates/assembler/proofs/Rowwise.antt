-- The count of instructions, the table and the notes after a line, by its row.
use mathlib.Core.List.{List}
use mathlib.Core.Path.{◌≡◌}
use Prim.Native.Nat.{ℕ, ◌+◌}
use lib.ListN.{set}
use borrow.Author.Tests.{eq-eqb, ne_eqb}
use Rattle.labels.specs.Table.{table_after}
use Rattle.labels.specs.declared.table.Entry.{Entry}
use Rattle.assembler.specs.Reading.{count_after, entries_after, notes_after}
use Rattle.assembler.specs.declared.reader.Note.{Note}

pub count_label : (row i : ℕ) → row ≡ 0 → i ≡ count_after row i
count_label row i e = rw (eq-eqb row 0 e)

pub count_other : (row i : ℕ) → (row ≡ 0 → ⊥) → i + 1 ≡ count_after row i
count_other row i e = rw (ne_eqb row 0 e)

module _ (row : ℕ) (table : List Entry) (name number : ℕ) where
  pub entries_label : {after : List Entry} → row ≡ 0 → after ≡ table_after table name number
      → after ≡ entries_after row table name number
  entries_label e p = rw (eq-eqb row 0 e) p

  pub entries_other : (row ≡ 0 → ⊥) → table ≡ entries_after row table name number
  entries_other e = rw (ne_eqb row 0 e)

module _ (row : ℕ) (notes : List Note) (i : ℕ) (note : Note) where
  pub notes_label : row ≡ 0 → notes ≡ notes_after row notes i note
  notes_label e = rw (eq-eqb row 0 e)

  pub notes_other : {after : List Note} → (row ≡ 0 → ⊥) → after ≡ set notes i note
      → after ≡ notes_after row notes i note
  notes_other e p = rw (ne_eqb row 0 e) p
