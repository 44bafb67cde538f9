-- The table of labels: a name and a number at each place. 0 is no name.
use Rattle.std.specs.Prelude.{cond, List, ℕ, zero, suc, ◌+◌, ◌*◌, ◌/◌, ◌%◌, eqb, length, get_or, set}
use Rattle.labels.specs.declared.table.Entry.{Entry}
use Rattle.labels.specs.declared.table.Probed.{Probed}
use Rattle.labels.specs.declared.table.Probed.TheVariants.{Here, Free, Crowded}
use Rattle.labels.specs.declared.table.Labelled.{Labelled}
use Rattle.labels.specs.declared.table.Labelled.TheVariants.{Defined, Undefined, Unknown}

abbrev pub tries : ℕ
tries = 256

abbrev pub free_entry : Entry
free_entry = record { name = 0; number = 0 }

abbrev pub name_at : List Entry → ℕ → ℕ
name_at table at = (get_or table at free_entry).name

abbrev pub number_at : List Entry → ℕ → ℕ
number_at table at = (get_or table at free_entry).number

-- the place behind another, round again
abbrev pub next_place : ℕ → ℕ → ℕ
next_place places at = cond (eqb (at + 1) places) 0 (at + 1)

-- from a place on, n tries, in a table of so many places
unfoldable pub probe_from : ℕ → ℕ → ℕ → List Entry → ℕ → Probed
probe_from places zero at table name = Crowded
probe_from places (suc n) at table name =
    let later = probe_from places n (next_place places at) table name in
    cond (eqb (name_at table at) name) (Here at) (cond (eqb (name_at table at) 0) (Free at) later)

-- where a name is looked for first. Names that differ in few letters are far apart: a remainder by a prime near
-- 2 ^ 32, and of its product with 2 ^ 32 over the golden ratio the upper bits
unfoldable pub home : ℕ → ℕ → ℕ
home places name = name % 4294967291 * 2654435769 / 8589934592 % places

unfoldable pub probe_of : List Entry → ℕ → Probed
probe_of table name = probe_from (length table) tries (home (length table) name) table name

-- the table after a definition: its entry at the free place
abbrev pub entered : Probed → List Entry → ℕ → ℕ → List Entry
entered (Here at) table name number = table
entered (Free at) table name number = set table at (record { name = name; number = number })
entered Crowded table name number = table

abbrev pub table_after : List Entry → ℕ → ℕ → List Entry
table_after table name number = entered (probe_of table name) table name number

abbrev pub labelled : Probed → List Entry → Labelled
labelled (Here at) table = Defined (number_at table at)
labelled (Free at) table = Undefined
labelled Crowded table = Unknown

abbrev pub lookup_of : List Entry → ℕ → Labelled
lookup_of table name = labelled (probe_of table name) table
