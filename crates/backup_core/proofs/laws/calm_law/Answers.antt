use Rattle.backup_core.proofs.Calm.{calm_law}
use Rattle.backup_core.proofs.laws.calm_law.Goals as goal

pub returns : goal.returns
returns c = calm_law
