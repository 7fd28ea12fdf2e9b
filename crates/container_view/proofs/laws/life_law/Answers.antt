use Rattle.container_view.proofs.Kept.{life_law}
use Rattle.container_view.proofs.laws.life_law.Goals as goal

pub returns : goal.returns
returns c = life_law
