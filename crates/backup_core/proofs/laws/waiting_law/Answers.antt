use Rattle.backup_core.proofs.Waiting.{waiting_law}
use Rattle.backup_core.proofs.laws.waiting_law.Goals as goal

pub returns : goal.returns
returns c = waiting_law c.sums_law.ensures c.futures_law.ensures
