use Rattle.container_view.proofs.Reached.{given_law}
use Rattle.container_view.proofs.laws.given_law.Goals as goal

pub returns : goal.returns
returns c = given_law
