use Rattle.container_view.proofs.Reached.{reach_law}
use Rattle.container_view.proofs.laws.reach_law.Goals as goal

pub returns : goal.returns
returns c = reach_law
