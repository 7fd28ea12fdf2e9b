use Rattle.container_view.proofs.Kept.{change_law}
use Rattle.container_view.proofs.laws.change_law.Goals as goal

pub returns : goal.returns
returns c = change_law
