use Rattle.backup_core.proofs.Calm.{row_files_law}
use Rattle.backup_core.proofs.laws.row_files_law.Goals as goal

pub returns : goal.returns
returns c = row_files_law
