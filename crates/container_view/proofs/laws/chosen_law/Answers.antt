use Rattle.container_view.proofs.Whole.{chosen_law}
use Rattle.container_view.proofs.laws.chosen_law.Goals as goal

pub returns : goal.returns
returns c = chosen_law
