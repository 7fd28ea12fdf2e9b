use Rattle.expire_core.proofs.Orders.{order_law}
use Rattle.expire_core.proofs.laws.order_law.Goals as goal

pub returns : goal.returns
returns c = order_law
