use Rattle.cluster_core.proofs.Openings.{opening_is_sound}
use Rattle.cluster_core.proofs.laws.opening_law.Goals as goal

pub returns : goal.returns
returns c = opening_is_sound
