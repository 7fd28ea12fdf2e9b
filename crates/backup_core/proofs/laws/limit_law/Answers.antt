use Rattle.backup_core.proofs.Shorts.{limit_law}
use Rattle.backup_core.proofs.laws.limit_law.Goals as goal

pub returns : goal.returns
returns c = limit_law
