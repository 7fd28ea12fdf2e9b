use Rattle.container_view.proofs.Faithful.{container_law}
use Rattle.container_view.proofs.laws.container_law.Goals as goal

pub returns : goal.returns
returns c = container_law
