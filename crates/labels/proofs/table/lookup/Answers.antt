-- Where a name stands is a place of the table.
use Rattle.std.proofs.Common.{arith}
use Rattle.labels.proofs.Probes.{inside_here}
use Rattle.labels.proofs.table.lookup.Goals as goal

pub offset_bounds-table-at : goal.offset_bounds-table-at
offset_bounds-table-at c = omega (arith, inside_here _ c.args.name _ _ c.requires c.probe.ensures c.in-Here.is)

pub bounds-table-at : goal.bounds-table-at
bounds-table-at c = inside_here _ c.args.name _ _ c.requires c.probe.ensures c.in-Here.is
