-- After some tries the rest of the probe is the whole.
use Rattle.std.proofs.Common.{◌-◌, ◌≡◌, ◌<◌, length}
use Rattle.labels.specs.Table.{tries, probe_from, probe_of}
use Rattle.labels.proofs.table.probe.Given as goal

abbrev pub invariant-loop : goal.invariant-loop
invariant-loop l =
    (l.at < length l.table)
    × (probe_from (length l.table) (tries - l.counter) l.at l.table l.name ≡ probe_of l.table l.name)
