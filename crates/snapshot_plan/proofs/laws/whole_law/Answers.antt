use Rattle.snapshot_plan.proofs.Manifests.{whole_law}
use Rattle.snapshot_plan.proofs.laws.whole_law.Goals as goal

pub returns : goal.returns
returns c = whole_law
