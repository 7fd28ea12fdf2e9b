use Rattle.log_keys.proofs.KeyOrder.{key_order}
use Rattle.log_keys.proofs.laws.key_order_law.Goals as goal

pub returns : goal.returns
returns c = key_order
