use Rattle.backup_core.proofs.Noting.{undo_law}
use Rattle.backup_core.proofs.laws.undo_law.Goals as goal

pub returns : goal.returns
returns c = undo_law
