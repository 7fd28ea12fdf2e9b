use Rattle.container_view.proofs.Kept.{growth_law}
use Rattle.container_view.proofs.laws.growth_law.Goals as goal

pub returns : goal.returns
returns c = growth_law
