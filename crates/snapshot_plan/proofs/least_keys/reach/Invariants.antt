use Rattle.snapshot_plan.proofs.Walks.{Walks}
use Rattle.snapshot_plan.proofs.least_keys.reach.Given as goal

abbrev pub invariant-walk : goal.invariant-walk
invariant-walk l = Walks l.noted l.range l.from l.place l.key
