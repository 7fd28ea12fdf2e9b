use Rattle.backup_core.proofs.Newest.{newest_law}
use Rattle.backup_core.proofs.laws.newest_law.Goals as goal

pub returns : goal.returns
returns c = newest_law
