use Rattle.container_view.proofs.Restore.{applied_law}
use Rattle.container_view.proofs.laws.applied_law.Goals as goal

pub returns : goal.returns
returns c = applied_law
