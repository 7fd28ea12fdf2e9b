use Rattle.backup_core.proofs.Taken.{made_law}
use Rattle.backup_core.proofs.laws.made_law.Goals as goal

pub returns : goal.returns
returns c = made_law
