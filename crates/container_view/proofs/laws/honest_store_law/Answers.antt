use Rattle.container_view.proofs.Honest.{honest_store_law}
use Rattle.container_view.proofs.laws.honest_store_law.Goals as goal

pub returns : goal.returns
returns c = honest_store_law
