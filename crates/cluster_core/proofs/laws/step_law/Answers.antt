use Rattle.cluster_core.proofs.Steps.{step_keeps}
use Rattle.cluster_core.proofs.Relied.{known}
use Rattle.cluster_core.proofs.laws.step_law.Goals as goal

pub returns : goal.returns
returns c = step_keeps known
