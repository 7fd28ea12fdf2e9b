use Rattle.snapshot_plan.proofs.Counting.{plan_law}
use Rattle.snapshot_plan.proofs.laws.plan_law.Goals as goal

pub returns : goal.returns
returns c = plan_law
