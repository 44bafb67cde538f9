-- What the registers and flags come to, with the note put in.
use Rattle.runner.proofs.Noted.{run_left}
use Rattle.runner.proofs.Traffic.{told_left}
use Rattle.runner.proofs.runs.run.Goals as goal

pub returns-clause-count_after : goal.returns-clause-count_after
returns-clause-count_after c = rw c.note_left-note.ensures (run_left _ _ _ _ c.run_lent-e.ensures.count_after)

pub returns-clause-traffic_value : goal.returns-clause-traffic_value
returns-clause-traffic_value c = told_left _ _ _ _ _ c.last.ensures c.run_lent-e.ensures.log_after
