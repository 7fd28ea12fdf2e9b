use Rattle.log_keys.proofs.KeyOrder.{key_again}
use Rattle.log_keys.proofs.laws.one_key_law.Goals as goal

pub returns : goal.returns
returns c = key_again
