use Rattle.snapshot_plan.proofs.Walks.{Left}
use Rattle.snapshot_plan.proofs.least_keys.gap_in.Given as goal

abbrev pub invariant-each : goal.invariant-each
invariant-each l = Left l.ranges l.noted l.range-index l.place
