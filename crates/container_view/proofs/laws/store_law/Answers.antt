use Rattle.container_view.proofs.Stores.{store_law}
use Rattle.container_view.proofs.laws.store_law.Goals as goal

pub returns : goal.returns
returns c = store_law
