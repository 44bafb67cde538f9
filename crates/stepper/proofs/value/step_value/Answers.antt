-- A run of one step ends as the step does.
use Rattle.stepper.proofs.Once.{stepped, step_told}
use Rattle.stepper.proofs.value.step_value.Goals as goal

pub returns-clause-outcome_after : goal.returns-clause-outcome_after
returns-clause-outcome_after c =
    rw c.from.ensures (stepped _ _ _ _ _ c.run-ran.result.count c.run-ran.ensures.count_after)

pub returns-clause-traffic_value : goal.returns-clause-traffic_value
returns-clause-traffic_value c = step_told _ _ _ c.run-ran.ensures.traffic_value
