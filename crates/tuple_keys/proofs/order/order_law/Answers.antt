use Rattle.tuple_keys.proofs.Comparing.{tuple_order}
use Rattle.tuple_keys.proofs.order.order_law.Goals as goal

pub returns : goal.returns
returns c = tuple_order
