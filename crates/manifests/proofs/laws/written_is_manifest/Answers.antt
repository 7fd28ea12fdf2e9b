use Rattle.manifests.proofs.Printed.{written_is_manifest}
use Rattle.manifests.proofs.laws.written_is_manifest.Goals as goal

pub returns : goal.returns
returns c = written_is_manifest
