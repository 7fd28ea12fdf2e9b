use Rattle.snapshot_plan.proofs.Cutting.{Planned}
use Rattle.snapshot_plan.proofs.plan.pieces.Given as goal

abbrev pub invariant-each : goal.invariant-each
invariant-each l = Planned l.shard l.keys l.list l.range-index l.rest l.pieces.items
