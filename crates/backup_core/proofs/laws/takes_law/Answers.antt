use Rattle.backup_core.proofs.Takes.{takes_law}
use Rattle.backup_core.proofs.laws.takes_law.Goals as goal

pub returns : goal.returns
returns c = takes_law
