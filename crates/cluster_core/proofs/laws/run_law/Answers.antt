use Rattle.cluster_core.proofs.Steps.{run_keeps}
use Rattle.cluster_core.proofs.Relied.{known}
use Rattle.cluster_core.proofs.laws.run_law.Goals as goal

pub returns : goal.returns
returns c = run_keeps known
