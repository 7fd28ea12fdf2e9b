use Rattle.container_view.proofs.Restore.{restored_law}
use Rattle.container_view.proofs.laws.restored_law.Goals as goal

pub returns : goal.returns
returns c = restored_law
