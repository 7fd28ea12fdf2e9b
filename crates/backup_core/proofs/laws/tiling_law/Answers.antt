use Rattle.backup_core.proofs.Manifests.{tiling_law}
use Rattle.backup_core.proofs.laws.tiling_law.Goals as goal

pub returns : goal.returns
returns c = tiling_law
