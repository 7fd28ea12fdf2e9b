use Rattle.backup_core.proofs.Orders.{tasks_law}
use Rattle.backup_core.proofs.laws.tasks_law.Goals as goal

pub returns : goal.returns
returns c = tasks_law
