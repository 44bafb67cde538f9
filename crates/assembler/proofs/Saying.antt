-- A label says no instruction, and any other line says something.
use mathlib.Core.Bool.{Bool, true, false, cond}
use mathlib.Core.List.{List}
use mathlib.Core.Option.{Option, none, some}
use Prim.Native.Nat.{ℕ}
use lib.Dec.{eqb}
use Rattle.refusals.specs.declared.check.Check.TheVariants as check
use Rattle.isa.specs.declared.instruction.Instruction.{Instruction}
use Rattle.syntax.specs.Syntax.{Item, branch_row}
use Rattle.assembler.specs.Assemble.{is_label, value_at, instruction_of, Definition, definition_of}
use Rattle.assembler.specs.Assemble.{Said, Nothing, Instructs, Fault, label_said, field_said, branch_said, said_at}

abbrev pub Kind : Bool → Said → Type 0
Kind true Nothing = Unit {0}
Kind true (Instructs i) = ⊥
Kind true (Fault n) = Unit {0}
Kind false Nothing = ⊥
Kind false (Instructs i) = Unit {0}
Kind false (Fault n) = Unit {0}

label_kind : (k : ℕ) (d : Option Definition) → Kind true (label_said k d)
label_kind k none = tt
label_kind k (some d) = go (eqb d.line k)
  where
    go : (b : Bool) → Kind true (cond b Nothing (Fault check.Label))
    go true = tt
    go false = tt

field_kind : (o : Option Instruction) → Kind false (field_said o)
field_kind none = tt
field_kind (some i) = tt

pub branch_kind : (x : Item) (i : ℕ) (d : Option Definition) → Kind false (branch_said x i d)
branch_kind x i none = tt
branch_kind x i (some d) = field_kind (instruction_of x i d.number)

pub kind : (items : List Item) (k i : ℕ) (x : Item) → Kind (is_label x) (said_at items k i x)
unfolding said_at
kind items k i x = go (is_label x) (eqb x.row branch_row)
  where
    go : (l b : Bool) → Kind l (cond l (label_said k (definition_of (value_at x 0) items))
        (cond b (branch_said x i (definition_of (value_at x 1) items)) (field_said (instruction_of x i 0))))
    go true b = label_kind k (definition_of (value_at x 0) items)
    go false true = branch_kind x i (definition_of (value_at x 1) items)
    go false false = field_kind (instruction_of x i 0)
