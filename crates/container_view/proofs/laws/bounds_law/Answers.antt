use Rattle.container_view.proofs.Reached.{bounds_law}
use Rattle.container_view.proofs.laws.bounds_law.Goals as goal

pub returns : goal.returns
returns c = bounds_law
