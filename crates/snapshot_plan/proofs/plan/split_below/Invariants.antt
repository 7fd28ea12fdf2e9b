use Rattle.snapshot_plan.proofs.Cutting.{Split}
use Rattle.snapshot_plan.proofs.plan.split_below.Given as goal

abbrev pub invariant-each : goal.invariant-each
invariant-each l = Split l.key l.pairs l.place
