use Rattle.container_view.proofs.Whole.{chain_law}
use Rattle.container_view.proofs.laws.chain_law.Goals as goal

pub returns : goal.returns
returns c = chain_law
