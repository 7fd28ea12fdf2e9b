use Rattle.backup_core.proofs.Calm.{kept_law}
use Rattle.backup_core.proofs.laws.kept_law.Goals as goal

pub returns : goal.returns
returns c = kept_law
