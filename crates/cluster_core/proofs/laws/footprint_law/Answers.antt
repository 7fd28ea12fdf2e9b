use Rattle.cluster_core.proofs.Footprints.{step_touches}
use Rattle.cluster_core.proofs.laws.footprint_law.Goals as goal

pub returns : goal.returns
returns c = step_touches
