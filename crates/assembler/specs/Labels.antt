-- What the table of labels says of the lines that were read. Only the contracts of private functions speak of it.
use Rattle.std.specs.Prelude as Std
use Rattle.std.specs.Prelude.{Some, None, List, ◌≡◌, ℕ, ◌<◌, length}
use Rattle.std.proofs.Math.Option.{Option, none, some}
use Rattle.labels.specs.Table.{name_at, number_at, probe_of}
use Rattle.labels.specs.declared.table.Entry.{Entry}
use Rattle.labels.specs.declared.table.Probed.TheVariants.{Free}
use Rattle.syntax.specs.Syntax.{Item}
use Rattle.assembler.specs.Assemble.{Definition, definition_of}

-- of a name's first definition, the number of the instruction that follows
abbrev pub number_of : Option Definition → Std.Option ℕ
number_of none = None
number_of (some d) = Some d.number

abbrev pub aim_of : List Item → ℕ → Std.Option ℕ
aim_of items name = number_of (definition_of name items)

-- a name that stands in the table has the number beside it, and one whose probe ends at a free place is not defined
pub record Holds (table : List Entry) (items : List Item) : Type 0 where
  pub size : 0 < length table
  pub stored : (at : ℕ) → (name_at table at ≡ 0 → ⊥) → aim_of items (name_at table at) ≡ Some (number_at table at)
  pub free : (name at : ℕ) → (name ≡ 0 → ⊥) → probe_of table name ≡ Free at → definition_of name items ≡ none
