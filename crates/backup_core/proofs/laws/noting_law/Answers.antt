use Rattle.backup_core.proofs.Noting.{noting_law}
use Rattle.backup_core.proofs.laws.noting_law.Goals as goal

pub returns : goal.returns
returns c = noting_law
