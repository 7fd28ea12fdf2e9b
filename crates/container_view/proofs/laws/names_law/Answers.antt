use Rattle.container_view.proofs.Names.{names_law}
use Rattle.container_view.proofs.laws.names_law.Goals as goal

pub returns : goal.returns
returns c = names_law
