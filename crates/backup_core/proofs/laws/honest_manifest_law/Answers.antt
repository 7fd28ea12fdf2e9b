use Rattle.backup_core.proofs.Manifests.{honest_manifest_law}
use Rattle.backup_core.proofs.laws.honest_manifest_law.Goals as goal

pub returns : goal.returns
returns c = honest_manifest_law
