use Rattle.backup_core.proofs.Orders.{orders_law}
use Rattle.backup_core.proofs.laws.orders_law.Goals as goal

pub returns : goal.returns
returns c = orders_law
