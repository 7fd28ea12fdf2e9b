use Rattle.cluster_core.proofs.LeastKeys.{least_key_law}
use Rattle.cluster_core.proofs.laws.least_key_law.Goals as goal

pub returns : goal.returns
returns c = least_key_law
