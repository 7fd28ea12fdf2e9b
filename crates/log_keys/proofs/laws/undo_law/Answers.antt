use Rattle.log_keys.proofs.Joins.{undone}
use Rattle.log_keys.proofs.laws.undo_law.Goals as goal

pub returns : goal.returns
returns c = undone
