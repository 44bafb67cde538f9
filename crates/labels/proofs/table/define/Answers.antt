-- A free place is one of the table.
use Rattle.std.proofs.Common.{arith}
use Rattle.labels.proofs.Probes.{inside_free}
use Rattle.labels.proofs.table.define.Goals as goal

pub offset_bounds-table-at : goal.offset_bounds-table-at
offset_bounds-table-at c =
    omega (arith, inside_free _ c.args.name _ _ c.requires c.probe-found.ensures c.in-Free.is)

pub bounds-table-at : goal.bounds-table-at
bounds-table-at c = inside_free _ c.args.name _ _ c.requires c.probe-found.ensures c.in-Free.is
