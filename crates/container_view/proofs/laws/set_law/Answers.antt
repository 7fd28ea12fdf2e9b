use Rattle.container_view.proofs.Sets.{set_law}
use Rattle.container_view.proofs.laws.set_law.Goals as goal

pub returns : goal.returns
returns c = set_law
