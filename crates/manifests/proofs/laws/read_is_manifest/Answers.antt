use Rattle.manifests.proofs.Manifests.{read_is_manifest}
use Rattle.manifests.proofs.laws.read_is_manifest.Goals as goal

pub returns : goal.returns
returns c = read_is_manifest
