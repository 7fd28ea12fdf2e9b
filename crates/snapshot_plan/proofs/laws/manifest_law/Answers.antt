use Rattle.snapshot_plan.proofs.Manifests.{manifest_law}
use Rattle.snapshot_plan.proofs.laws.manifest_law.Goals as goal

pub returns : goal.returns
returns c = manifest_law
