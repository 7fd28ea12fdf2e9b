use Rattle.backup_core.proofs.Closes.{rows_law}
use Rattle.backup_core.proofs.laws.rows_law.Goals as goal

pub returns : goal.returns
returns c = rows_law
