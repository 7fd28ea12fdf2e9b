use Rattle.manifests.proofs.Manifests.{manifest_is_read}
use Rattle.manifests.proofs.laws.manifest_is_read.Goals as goal

pub returns : goal.returns
returns c = manifest_is_read
