use Rattle.snapshot_plan.proofs.Walking.{least_key_law}
use Rattle.snapshot_plan.proofs.laws.least_key_law.Goals as goal

pub returns : goal.returns
returns c = least_key_law
