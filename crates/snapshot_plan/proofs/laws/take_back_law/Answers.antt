use Rattle.snapshot_plan.proofs.Taking.{take_back_law}
use Rattle.snapshot_plan.proofs.laws.take_back_law.Goals as goal

pub returns : goal.returns
returns c = take_back_law
